-- A byte that a run takes, by the stage that it has come to.
use Rattle.std.proofs.Common.{◌≡◌, ℕ, List, [], ◌∷◌, ◌++◌, Ok, Err, sym, ap, ◌∙◌, append_assoc}
use Rattle.fault.specs.declared.CreationFault.{CreationFault}
use Rattle.fault.specs.declared.RunFault.{RunFault}
use Rattle.fault.specs.declared.RunFault.TheVariants.{Creation}
use Rattle.runner.specs.Output.{outcome_of, refused_by}
use Rattle.runner.specs.TableView.{Passed}
use Rattle.runner.specs.ToCome.{StageBehind, stage_to_come, to_come}
use Rattle.runner.specs.declared.Run.{Run}
use Rattle.runner.specs.declared.long_table.LongTable.{LongTable as Long}
use Rattle.runner.specs.declared.partial_table.PartialTable.{PartialTable}
use Rattle.runner.specs.declared.stage.Stage.{Stage}
use Rattle.runner.specs.declared.stage.Stage.TheVariants.{Table, LongTable}

module _ (r : Run) (byte : ℕ) (e : CreationFault) (f : RunFault) (told : f ≡ Creation e) where
  pub table_refused :
      (t : PartialTable)
      → r.stage ≡ Table t
      → StageBehind (t.bytes.items ++ byte ∷ []) (Err e)
      → (rest : List ℕ) → to_come r (byte ∷ rest) ≡ refused_by f
  table_refused t is refused rest =
      ap (λ s. stage_to_come s (byte ∷ rest)) is
      ∙ ap outcome_of (sym (append_assoc t.bytes.items (byte ∷ []) rest))
      ∙ refused rest
      ∙ sym (ap refused_by told)

  pub long_table_refused :
      (old new : Long)
      → r.stage ≡ LongTable old
      → ((b : ℕ) (rest : List ℕ) → Passed old new (b ∷ rest) rest (Err e))
      → (rest : List ℕ) → to_come r (byte ∷ rest) ≡ refused_by f
  long_table_refused old new is refused rest =
      ap (λ s. stage_to_come s (byte ∷ rest)) is
      ∙ refused byte rest
      ∙ sym (ap refused_by told)

-- the table has not come whole, or has
pub table_goes_on :
    (r : Run) (byte : ℕ) (t : PartialTable) (s : Stage)
    → r.stage ≡ Table t
    → StageBehind (t.bytes.items ++ byte ∷ []) (Ok s)
    → (rest : List ℕ) → to_come r (byte ∷ rest) ≡ stage_to_come s rest
table_goes_on r byte t s is behind rest =
    ap (λ x. stage_to_come x (byte ∷ rest)) is
    ∙ ap outcome_of (sym (append_assoc t.bytes.items (byte ∷ []) rest))
    ∙ behind rest
