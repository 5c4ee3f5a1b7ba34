-- What an arrival makes of the rows.
use Rattle.std.proofs.Common.{◌≡◌, ℕ, ◌+◌, ◌<◌, ◌≤◌, List, length, take, set, arith}
use Rattle.std.proofs.lemmas.List.{length-set}
use Rattle.cell_rules.specs.declared.row.Row.{Row}
use Rattle.cell_rules.specs.Rules.{at, most, with_arrived, more_arrived}
use Rattle.cell_rules.specs.Facts.{Facts, Bounded, KeptRows}
use Rattle.cell_rules.proofs.Touched.{set_row}
use Rattle.cell.proofs.LedgerFront.{front_set}

module _ (slots : ℕ) (rows : List Row) (f n : ℕ) (h : f < length rows) (fits : (at rows f).arrived + n ≤ most) where
  pub arrived_kept : KeptRows slots rows → KeptRows slots (more_arrived rows f n)
  arrived_kept kept =
      let r : Row = with_arrived ((at rows f).arrived + n) (at rows f) in
      let inside : (g : ℕ) → g < length (set rows f r) → g < length rows = λ g l. simp length-set at l in
      let facts = kept.facts f h in
      let bounded = kept.bounded f h in
      record {
        facts = λ g l. set_row rows f g r Facts h (λ e. omega arith) (λ e. kept.facts g (inside g l));
        bounded = λ g l. set_row rows f g r (Bounded slots) h (λ e. omega arith) (λ e. kept.bounded g (inside g l));
      }

-- in an array whose first rows are those of flows
pub arrived_front :
    (count : ℕ) (rows : List Row) (f n : ℕ) → f < length (take count rows)
    → take count (set rows f (with_arrived ((at rows f).arrived + n) (at rows f))) ≡ more_arrived (take count rows) f n
arrived_front count rows f n h = front_set count rows f h (λ r. with_arrived (r.arrived + n) r)
