-- The past of a cell, and of its clear-weather twin: what was asked since creation, and what each answered.
use Rattle.std.specs.Prelude.{ℕ, ◌+◌, Bool, true, cond, List, [], ◌∷◌, length, Some, None, Option, ◌==◌}
use Rattle.reference.specs.Meaning.{Meaning}
use Rattle.cell_rules.specs.Rules.{State, Outcome, Reports, outcome, decided, arrived, opened, with_flag, flags_clean, arrival_refusal, opening_refusal, flag_refusal, decision_refusal}

-- The twin has the same table and a reference that held the same before creation, and is asked the same. But each of
-- its decisions takes every flow as clean.
pub data Which : Type 0 where
  cell twin : Which

abbrev pub clean_for : Which → Reports → ℕ → Bool
clean_for cell set f = flags_clean set f
clean_for twin set f = true

-- what may be asked, in any order and number: packets arrive for a flow, a control phase is opened, a flow flags in a
-- report set, clean or dirty, a slot is decided on a report set. The sets are any sets at all, fresh, stale or another
-- cell's.
pub data Call : Type 0 where
  arrival : ℕ → ℕ → Call
  opening : Call
  flag : Reports → ℕ → Bool → Call
  decision : Reports → Call

-- a decision that was accepted: what was held before, the set that it was given, what the slot came to, and what was
-- held after
pub record Decision (M : Meaning) : Type 0 where
  pub before : State M
  pub reports : Reports
  pub came_to : Outcome
  pub after : State M

-- what a call is answered: that it was accepted, with the set or the decision if there is one, or the number of a
-- refusal
pub data Answer (M : Meaning) : Type 0 where
  done : Answer M
  handed : Reports → Answer M
  settled : Decision M → Answer M
  refused : ℕ → Answer M

module _ (M : Meaning) where
  abbrev pub refusal : State M → Call → Option ℕ
  refusal s (arrival f n) = arrival_refusal s.rows f n
  refusal s opening = opening_refusal s.slot
  refusal s (flag set f clean) = flag_refusal set f
  refusal s (decision set) = decision_refusal s.slot s.rows set

  abbrev pub deciding : Which → State M → Reports → Decision M
  deciding w s set =
      record {
        before = s;
        reports = set;
        came_to = outcome M s (clean_for w set);
        after = decided M s (clean_for w set);
      }

  -- a call that is not refused: what it leaves, and its answer
  abbrev pub accepted : Which → State M → Call → State M × Answer M
  accepted w s (arrival f n) = (arrived M s f n, done)
  accepted w s opening = (s, handed (opened s.slot (length s.rows)))
  accepted w s (flag set f clean) = (s, handed (with_flag set f clean))
  accepted w s (decision set) = ((deciding w s set).after, settled (deciding w s set))

  -- a refusal leaves what was
  abbrev pub unless_refused : Option ℕ → State M → State M × Answer M → State M × Answer M
  unless_refused None s x = x
  unless_refused (Some n) s x = (s, refused n)

  abbrev pub step : Which → State M → Call → State M × Answer M
  step w s call = unless_refused (refusal s call) s (accepted w s call)

  -- each call begins from what the one before it left
  abbrev pub after : Which → State M → List Call → State M
  after w s [] = s
  after w s (call ∷ calls) = after w (step w s call).0 calls

  abbrev pub answers : Which → State M → List Call → List (Answer M)
  answers w s [] = []
  answers w s (call ∷ calls) = (step w s call).1 ∷ answers w (step w s call).0 calls

  -- the decisions among the answers
  abbrev pub decisions : List (Answer M) → List (Decision M)
  decisions [] = []
  decisions (done ∷ rest) = decisions rest
  decisions (handed set ∷ rest) = decisions rest
  decisions (settled d ∷ rest) = d ∷ decisions rest
  decisions (refused n ∷ rest) = decisions rest

  abbrev pub refusal_in : Answer M → Option ℕ
  refusal_in done = None
  refusal_in (handed set) = None
  refusal_in (settled d) = None
  refusal_in (refused n) = Some n

  -- the packets for flow f in a call, by its refusal, if it was refused; and in all calls of a past
  abbrev pub packets_in : ℕ → Option ℕ → Call → ℕ
  packets_in f (Some n) call = 0
  packets_in f None (arrival g n) = cond (g == f) n 0
  packets_in f None opening = 0
  packets_in f None (flag set g clean) = 0
  packets_in f None (decision set) = 0

  abbrev pub packets_accepted : Which → State M → ℕ → List Call → ℕ
  packets_accepted w s f [] = 0
  packets_accepted w s f (call ∷ calls) =
      packets_in f (refusal s call) call + packets_accepted w (step w s call).0 f calls
