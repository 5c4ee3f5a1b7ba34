-- A round of calls on a reference: every flow enters, or one turn after another.
use Rattle.std.specs.Prelude.{◌≡◌, ℕ, zero, suc, ◌*◌, ◌<◌, true, false, List, [], Some, None, Option}
use Rattle.reference.specs.Calls.{marks_of, turns_then}
use Rattle.reference.specs.Meaning.{Meaning}
use Rattle.reference.specs.Shares.{HasShare}

-- what is held once flows 0 to n - 1 have entered, flow 0 first
abbrev pub entered_below : (M : Meaning) → M.Held → ℕ → M.Held
entered_below M h zero = h
entered_below M h (suc n) = M.entered (entered_below M h n) n

-- what is held after n turns
abbrev pub after_turns : (M : Meaning) → M.Held → ℕ → M.Held
after_turns M h zero = h
after_turns M h (suc n) = M.turned (after_turns M h n)

-- a mark is of a flow that is due, and there is none only if no flow is due
abbrev pub MarkIsDue : (M : Meaning) → M.Held → Option ℕ → Type 0
MarkIsDue M h None = (f : ℕ) → M.due h f ≡ false
MarkIsDue M h (Some f) = M.due h f ≡ true

-- Two rounds from h, up to k: every flow entered, and then came as many turns as twice the total weight. Every flow has
-- its share of the marks.
pub record TwoRounds (M : Meaning) (h k : M.Held) (marks : List (Option ℕ)) : Type 0 where
  pub turns_mark : marks ≡ marks_of M (entered_below M h (M.flows h)) (turns_then (2 * M.total h) [])
  pub turns_leave : k ≡ after_turns M (entered_below M h (M.flows h)) (2 * M.total h)
  pub shares : (f : ℕ) → f < M.flows h → HasShare M h f marks
