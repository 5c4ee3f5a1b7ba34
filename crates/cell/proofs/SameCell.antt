-- A cell is the same whose reference, ledger and ring are: that it has a past makes no difference.
use Rattle.std.proofs.Common.{◌≡◌, Ok, Err, Result, IfErr}
use mathlib.Core.HLevel.{is_prop→PathP}
use Rattle.std.proofs.Math.Logic.{∥∥₁_prop}
use Rattle.reference.specs.declared.Reference.{Ghosts}
use Rattle.fairness.specs.PastOf.{HasPast}
use Rattle.cell.specs.StateView.{state_held}
use Rattle.cell.specs.declared.Cell.{Cell}

pub same_cell :
    {X : Type 0} {g : Ghosts X} (c d : Cell X g)
    → c.reference ≡ d.reference → c.ledger ≡ d.ledger → c.ring ≡ d.ring
    → c ≡ d
same_cell {X} {g} c d r l q =
    λ i.
    record {
      reference = r i;
      ledger = l i;
      ring = q i;
      has_a_past =
          is_prop→PathP (λ j. HasPast g.meaning (state_held g.meaning (g.held (r j)) (l j) (q j))) (λ j. ∥∥₁_prop) c.has_a_past
          d.has_a_past i;
    }

-- what holds anyway, holds of a refusal
pub holds_of_a_refusal : {A E : Type 0} (r : Result A E) (P : Type 0) → P → IfErr r (λ _. P)
holds_of_a_refusal (Ok x) P p = tt
holds_of_a_refusal (Err e) P p = p
