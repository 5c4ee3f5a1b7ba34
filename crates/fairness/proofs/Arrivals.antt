-- What arrived for a flow is the total of the accepted arrivals.
use Rattle.std.proofs.Common.{◌≡◌, ℕ, ◌+◌, ◌<◌, List, [], ◌∷◌, length, Some, None, Option, refl, ap, arith}
use Rattle.reference.specs.Meaning.{Meaning}
use Rattle.cell_rules.specs.Rules.{State, at, arrived}
use Rattle.cell_rules.proofs.Booking.{booked_length, booked_at}
use Rattle.fairness.specs.Past.{Call, Which, refusal, deciding, accepted, unless_refused, after, packets_in, packets_accepted}
use Rattle.fairness.specs.Past.Call.{arrival, opening, flag, decision}
use Rattle.fairness.proofs.Keeping.{arrived_length, arrived_at}

module _ (M : Meaning) (w : Which) (f : ℕ) where
  abbrev Counted : State M → State M → ℕ → Type 0
  Counted s t n = (at t.rows f).arrived ≡ (at s.rows f).arrived + n

  counted_by_call :
      (calls : List Call)
      → ((s : State M) → f < length s.rows → Counted s (after M w s calls) (packets_accepted M w s f calls))
      → (s : State M) (call : Call) (o : Option ℕ) → refusal M s call ≡ o → f < length s.rows
      → let next = (unless_refused M o s (accepted M w s call)).0 in
      Counted s (after M w next calls) (packets_in M f o call + packets_accepted M w next f calls)
  counted_by_call calls rest s call (Some n) e l = let more = rest s l in omega arith
  counted_by_call calls rest s opening None e l = let more = rest s l in omega arith
  counted_by_call calls rest s (flag set g clean) None e l = let more = rest s l in omega arith
  counted_by_call calls rest s (arrival g n) None e l =
      let more = rest (arrived M s g n) (omega (arith, arrived_length M s g n)) in
      let now = ap (λ r. r.arrived) (arrived_at M s g n e f) in
      omega arith
  counted_by_call calls rest s (decision set) None e l =
      let x = (deciding M w s set).came_to in
      let more = rest (deciding M w s set).after (omega (arith, booked_length x s.rows)) in
      let now = ap (λ r. r.arrived) (booked_at x s.rows f l) in
      omega arith

  pub arrivals_counted :
      (calls : List Call) (s : State M) → f < length s.rows
      → (at (after M w s calls).rows f).arrived ≡ (at s.rows f).arrived + packets_accepted M w s f calls
  arrivals_counted [] s l = omega arith
  arrivals_counted (call ∷ calls) s l = counted_by_call calls (arrivals_counted calls) s call (refusal M s call) refl l
