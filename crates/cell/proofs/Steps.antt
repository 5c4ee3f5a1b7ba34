-- Each call of a cell is a step of a past.
use Rattle.std.proofs.Common.{◌≡◌, ℕ, Bool, true, false, not, ◌&&◌, ◌==◌, cond, List, length, Some, None, Ok, Err, Result, sym, ap, subst, ◌∙◌}
use Rattle.fault.specs.Faults.{arrival_number, decision_number}
use Rattle.fault.specs.declared.ArrivalFault.{ArrivalFault}
use Rattle.fault.specs.declared.DecisionFault.{DecisionFault}
use Rattle.record.specs.declared.Record.{Record}
use Rattle.reference.specs.Meaning.{Meaning, Lawful}
use Rattle.cell_rules.specs.Rules.{State, Reports, decided, outcome, flags_clean, decision_refusal}
use Rattle.cell_rules.specs.declared.row.Row.{Row}
use Rattle.fairness.specs.Past.{Answer, Call, step, refusal, accepted, unless_refused}
use Rattle.fairness.specs.Past.Answer.{done, settled, refused}
use Rattle.fairness.specs.Past.Call.{arrival, decision}
use Rattle.fairness.specs.Past.Which.{cell}
use Rattle.fairness.specs.PastOf.{HasPast, FairFromEveryPast}
use Rattle.fairness.specs.Fairness.{IdleExactlyWhenNobodyCanSend}
use Rattle.fairness.proofs.Fair.{idle_when}
use Rattle.fairness.proofs.Continued.{has_past_on, fairly_on}
use Rattle.cell.specs.CellView.{Arrived, Decided, arrival_answer, decision_answer, decision_told, said_by}
use Rattle.cell.specs.LedgerView.{LedgerArrived}
use Rattle.cell.specs.RingView.{ring_held}
use Rattle.cell.specs.StateView.{state_held}
use Rattle.cell.specs.declared.ledger.Ledger.{Ledger}
use Rattle.cell.specs.declared.ring.Ring.{Ring}
use Rattle.cell.specs.ReportSetView.{reports_held}
use Rattle.cell.specs.declared.refused.Refused.{Refused}
use Rattle.cell.specs.declared.report_set.ReportSet.{ReportSet}

module _ (M : Meaning) (s t : State M) where
  -- a call that is accepted, and one that is refused
  step_accepted : (call : Call) (x : State M × Answer M) → refusal M s call ≡ None → accepted M cell s call ≡ x → step M cell s call ≡ x
  step_accepted call x e a = ap (λ o. unless_refused M o s (accepted M cell s call)) e ∙ a

  step_refused : (call : Call) (n : ℕ) → refusal M s call ≡ Some n → step M cell s call ≡ (s, refused n)
  step_refused call n e = ap (λ o. unless_refused M o s (accepted M cell s call)) e

  arrival_is_a_step :
      (f n : ℕ) (r : Result Unit ArrivalFault) → Arrived M s f n t r
      → step M cell s (arrival f n) ≡ (t, arrival_answer M r)
  arrival_is_a_step f n (Ok _) a = step_accepted (arrival f n) (t, done) a.0 (λ i. (sym a.1 i, done))
  arrival_is_a_step f n (Err e) a =
      step_refused (arrival f n) (arrival_number e) a.0 ∙ (λ i. (sym a.1 i, refused (arrival_number e)))

  decision_is_a_step :
      (set : ReportSet) (r : Result Record (Refused DecisionFault ReportSet)) → Decided M s set t r
      → step M cell s (decision (reports_held set)) ≡ (t, decision_answer M s set t r)
  decision_is_a_step set (Ok r) d =
      let came_to : outcome M s (flags_clean (reports_held set)) ≡ said_by r = sym d.1 in
      let after : decided M s (flags_clean (reports_held set)) ≡ t = sym d.4 in
      step_accepted (decision (reports_held set)) (t, decision_answer M s set t (Ok r)) d.0
      (λ i. (after i, settled (record { before = s; reports = reports_held set; came_to = came_to i; after = after i })))
  decision_is_a_step set (Err e) d =
      step_refused (decision (reports_held set)) (decision_number e.fault) d.0 ∙ (λ i. (sym d.1 i, refused (decision_number e.fault)))

-- what a ledger takes, once the flow has entered where it is to
module _ (M : Meaning) (h k : M.Held) (before after : Ledger) (ring : Ring) (f n : ℕ) (entered : Bool)
    (arrives : LedgerArrived before f n after (Ok entered)) (enters : k ≡ cond entered (M.entered h f) h) where
  arrived_state : Arrived M (state_held M h before ring) f n (state_held M k after ring) (Ok tt)
  arrived_state = (
    arrives.0,
    λ i.
        record {
          held = (enters ∙ ap (λ b. cond b (M.entered h f) h) arrives.3) i;
          rows = arrives.1 i;
          ring = ring_held ring;
          slot = arrives.2 i;
        },
  )

  pub past_after_arrival : Lawful M → HasPast M (state_held M h before ring) → HasPast M (state_held M k after ring)
  past_after_arrival L =
      has_past_on M L _ (arrival f n) _ done
      (arrival_is_a_step M (state_held M h before ring) (state_held M k after ring) f n (Ok tt) arrived_state)

-- a decision: the past goes on, and is fair
module _ (M : Meaning) (L : Lawful M) (s t : State M) (set : ReportSet) (r : Result Record (Refused DecisionFault ReportSet))
    (decides : Decided M s set t r) where
  pub past_after_decision : HasPast M s → HasPast M t
  past_after_decision = has_past_on M L s (decision (reports_held set)) t _ (decision_is_a_step M s t set r decides)

  pub fair_after_decision : FairFromEveryPast M s (decision (reports_held set)) t (decision_answer M s set t r)
  fair_after_decision = fairly_on M L s (decision (reports_held set)) t _ (decision_is_a_step M s t set r decides)

-- a decision that is told is idle exactly when no waiting flow is clean
pub told_idle :
    (M : Meaning) (s t : State M) (set : ReportSet) (r : Record) → Decided M s set t (Ok r)
    → IdleExactlyWhenNobodyCanSend M (decision_told M s set t r)
told_idle M s t set r d =
    let came_to : outcome M s (flags_clean (reports_held set)) ≡ said_by r = sym d.1 in
    let after : decided M s (flags_clean (reports_held set)) ≡ t = sym d.4 in
    subst (IdleExactlyWhenNobodyCanSend M)
    (λ i. record { before = s; reports = reports_held set; came_to = came_to i; after = after i }) (idle_when M s (reports_held set))

-- a set that is for the slot is not refused, and any other one is
module _ (slot : ℕ) (rows : List Row) (set : Reports) where
  pub not_refused : (set.slot == slot && set.flow_count == length rows) ≡ true → decision_refusal slot rows set ≡ None
  not_refused e = ap (λ b. cond (not b) (Some 11) None) e

  pub refused_by_eleven : (set.slot == slot && set.flow_count == length rows) ≡ false → decision_refusal slot rows set ≡ Some 11
  refused_by_eleven e = ap (λ b. cond (not b) (Some 11) None) e
