-- What the parts of a cell hold together, in the words of the rules.
use Rattle.std.specs.Prelude.{ℕ, cond, List, Some, None, Option, nat_lt}
use Rattle.reference.specs.Meaning.{Meaning}
use Rattle.cell_rules.specs.Rules.{State, at, due}
use Rattle.cell_rules.specs.declared.row.Row.{Row}
use Rattle.cell.specs.LedgerView.{ledger_rows}
use Rattle.cell.specs.RingView.{ring_held}
use Rattle.cell.specs.declared.ledger.Ledger.{Ledger}
use Rattle.cell.specs.declared.ring.Ring.{Ring}

module _ (M : Meaning) where
  abbrev pub state_held : M.Held → Ledger → Ring → State M
  state_held h ledger ring =
      record { held = h; rows = ledger_rows ledger; ring = ring_held ring; slot = ledger.slots }

  -- a flow that was marked leaves if nothing is due for it any more, by the rows as they are now
  abbrev pub left_if_done : M.Held → List Row → Option ℕ → M.Held
  left_if_done h rows None = h
  left_if_done h rows (Some f) = cond (nat_lt 0 (due (at rows f))) h (M.left h f)
