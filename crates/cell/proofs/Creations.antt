-- What the parts of a cell hold at its creation is the beginning of the rules.
use Rattle.std.proofs.Common.{◌≡◌, ℕ, List, map, length, sym, ap, subst, ◌∙◌}
use Rattle.reference.specs.Meaning.{Meaning}
use Rattle.table.specs.declared.line.Line.{Line}
use Rattle.cell_rules.specs.Rules.{all_leave, created, first_ring, fresh}
use Rattle.fairness.specs.PastOf.{HasPast}
use Rattle.fairness.proofs.Continued.{new_has_past}
use Rattle.cell.specs.LedgerView.{ledger_rows}
use Rattle.cell.specs.RingView.{ring_held}
use Rattle.cell.specs.StateView.{state_held}
use Rattle.cell.specs.declared.ledger.Ledger.{Ledger}
use Rattle.cell.specs.declared.ring.Ring.{Ring}

module _ (M : Meaning) (h k : M.Held) (lines : List Line) (n : ℕ) (ledger : Ledger) (ring : Ring)
    (left : k ≡ all_leave M h (M.flows h))
    (rows : ledger_rows ledger ≡ map fresh lines)
    (slots : ledger.slots ≡ 0)
    (points : ring_held ring ≡ first_ring n)
    (as_many_lines : length lines ≡ n)
    (as_many_flows : n ≡ M.flows h) where
  pub created_state : state_held M k ledger ring ≡ created M h lines
  created_state =
      λ i.
      record {
        held = (left ∙ ap (all_leave M h) (sym (as_many_lines ∙ as_many_flows))) i;
        rows = rows i;
        ring = (points ∙ ap first_ring (sym as_many_lines)) i;
        slot = slots i;
      }

  pub created_past : M.Sound h → HasPast M (state_held M k ledger ring)
  created_past sound = subst (HasPast M) (sym created_state) (new_has_past M h lines sound (as_many_lines ∙ as_many_flows))
