-- What the parts of a cell hold after a decision is what the rules say.
use Rattle.std.proofs.Common.{◌≡◌, ℕ, ◌+◌, ◌-◌, ◌<◌, ◌==◌, Bool, cond, List, length, Some, None, Option, IfSome, nat_lt, refl, ap, ◌∙◌, arith}
use Rattle.std.proofs.lemmas.Bool.Decides.{nat_tests}
use Rattle.record.specs.declared.taking.Charge.{Charge}
use Rattle.record.specs.declared.taking.Taking.{Taking}
use Rattle.reference.specs.Meaning.{Meaning}
use Rattle.cell_rules.specs.declared.row.Row.{Row}
use Rattle.cell_rules.specs.Rules.{Outcome, State, at, booked, decided, due, once, outcome, released, ring_after, ring_finds, slot_of}
use Rattle.cell_rules.proofs.Booking.{booked_at, once_case}
use Rattle.cell.specs.LedgerView.{ledger_rows, outcome_of}
use Rattle.cell.specs.RingView.{ring_held}
use Rattle.cell.specs.StateView.{left_if_done, state_held}
use Rattle.cell.specs.declared.ledger.Ledger.{Ledger}
use Rattle.cell.specs.declared.ring.Ring.{Ring}

either_test : {A : Type 0} (n : ℕ) (a b : A) → cond (nat_lt 0 n) a b ≡ cond (n == 0) b a
either_test n a b = grind (arith, nat_tests)

once_itself : (f : ℕ) → once (Some f) f ≡ 1
once_itself f = once_case f f (λ n. n ≡ 1) (λ _. refl) (λ other. absurd (other refl))

module _ (M : Meaning) where
  -- after the booking, nothing is due for the marked flow just where it leaves by the rules
  left_by_the_rules :
      (h : M.Held) (rows : List Row) (m : Option ℕ) (t : Taking) (c : Charge) → IfSome m (λ f. f < length rows)
      → left_if_done M h (booked (outcome_of m t c) rows) m ≡ released M h rows m
  left_by_the_rules h rows None t c inside = refl
  left_by_the_rules h rows (Some f) t c inside =
      ap (λ r. cond (nat_lt 0 (due r)) h (M.left h f)) (booked_at (outcome_of (Some f) t c) rows f inside)
      ∙ ap (λ n. cond (nat_lt 0 ((at rows f).arrived - ((at rows f).marked + n))) h (M.left h f)) (once_itself f)
      ∙ either_test ((at rows f).arrived - ((at rows f).marked + 1)) h (M.left h f)

  module _ (h k : M.Held) (before after : Ledger) (ring moved : Ring) (clean : ℕ → Bool) (m : Option ℕ) (x : Taking × Charge)
      (mark : m ≡ M.marks h)
      (settled : x ≡ slot_of (ledger_rows before) clean (ring_held ring) m)
      (moves : ring_held moved ≡ ring_after x.0 (ring_held ring) (ring_finds (ledger_rows before) clean (ring_held ring)).1)
      (rows : ledger_rows after ≡ booked (outcome_of m x.0 x.1) (ledger_rows before))
      (slots : after.slots ≡ before.slots + 1)
      (left : k ≡ left_if_done M (M.turned h) (ledger_rows after) m)
      (inside : IfSome m (λ f. f < length (ledger_rows before))) where
    abbrev began : State M
    began = state_held M h before ring

    by_the_mark : x ≡ slot_of (ledger_rows before) clean (ring_held ring) (M.marks h)
    by_the_mark = settled ∙ ap (slot_of (ledger_rows before) clean (ring_held ring)) mark

    came_to : outcome_of m x.0 x.1 ≡ outcome M began clean
    came_to = λ i. outcome_of (mark i) (by_the_mark i).0 (by_the_mark i).1

    holds : k ≡ released M (M.turned h) (ledger_rows before) (M.marks h)
    holds =
        left
        ∙ ap (λ rs. left_if_done M (M.turned h) rs m) rows
        ∙ left_by_the_rules (M.turned h) (ledger_rows before) m x.0 x.1 inside
        ∙ ap (released M (M.turned h) (ledger_rows before)) mark

    books : ledger_rows after ≡ booked (outcome M began clean) (ledger_rows before)
    books = rows ∙ ap (λ y. booked y (ledger_rows before)) came_to

    rings : ring_held moved ≡ ring_after (outcome M began clean).taking (ring_held ring) (ring_finds (ledger_rows before) clean (ring_held ring)).1
    rings = moves ∙ ap (λ (y : Outcome). ring_after y.taking (ring_held ring) (ring_finds (ledger_rows before) clean (ring_held ring)).1) came_to

    pub decided_state : state_held M k after moved ≡ decided M began clean
    decided_state = λ i. record { held = holds i; rows = books i; ring = rings i; slot = slots i }
