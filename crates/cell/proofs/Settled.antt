-- What a settlement answers fits a record, and can be booked.
use Rattle.std.proofs.Common.{◌≡◌, ℕ, ◌<◌, length, Some, Option, sym, subst}
use Rattle.std.specs.Option.{IfSome}
use Rattle.record.specs.declared.taking.Charge.{Charge}
use Rattle.record.specs.declared.taking.Taking.{Taking}
use Rattle.cell_rules.specs.Bookable.{Settles}
use Rattle.cell_rules.specs.RecordFits.{FitsRecord}
use Rattle.cell_rules.specs.Rules.{Ring, slot_of}
use Rattle.cell_rules.proofs.RecordFits.{slot_fits}
use Rattle.cell_rules.proofs.Settling.{slot_settles}
use Rattle.cell.specs.declared.flows.Flows.{Flows}
use Rattle.cell.specs.FlowsView.{clean_of, rows_of}

module _ (f : Flows) (ring : Ring) (o : Option ℕ) (inside : IfSome o (λ m. m < length (rows_of f))) (x : Taking × Charge)
    (settled : x ≡ slot_of (rows_of f) (clean_of f) ring o) where
  within : (m : ℕ) → o ≡ Some m → m < length (rows_of f)
  within m e = subst (λ p. IfSome p (λ k. k < length (rows_of f))) e inside

  pub settled_fits : FitsRecord (length (rows_of f)) o x
  settled_fits =
      subst (FitsRecord (length (rows_of f)) o) (sym settled)
      (slot_fits (rows_of f) (clean_of f) ring o (λ m e. (within m e, (f.facts m (within m e)).never_leads_and_lags)))

  pub settled_books : Settles (rows_of f) o x.0 x.1
  settled_books =
      subst (λ y. Settles (rows_of f) o y.0 y.1) (sym settled) (slot_settles (rows_of f) (clean_of f) ring o within)
