-- Each flow that is due has its share of the turns: its weight in the total weight, but for an allowance.
use Rattle.std.specs.Prelude.{◌≡◌, ℕ, ◌+◌, ◌*◌, ◌≤◌, true, cond, ◌≢◌, List, [], ◌∷◌, length, Some, None, Option, ◌==◌}
use Rattle.reference.specs.Meaning.{Meaning}
use Rattle.reference.specs.Calls.{Call, turning, entering, leaving, marks_of}

-- 1 for a mark of flow f, and 0 for any other and for none
abbrev pub once_marked : ℕ → Option ℕ → ℕ
once_marked f None = 0
once_marked f (Some g) = cond (g == f) 1 0

-- how many of the marks are of flow f
abbrev pub times_marked : ℕ → List (Option ℕ) → ℕ
times_marked f [] = 0
times_marked f (mark ∷ marks) = once_marked f mark + times_marked f marks

-- Flow f has its share of the turns that made these marks: turns times weight is at most turns of f times total weight,
-- and an allowance that does not grow with the turns. The numbers are those told of h.
abbrev pub HasShare : (M : Meaning) → M.Held → ℕ → List (Option ℕ) → Type 0
HasShare M h f marks = length marks * M.weight h f ≤ times_marked f marks * M.total h + M.allowance h f

-- flow f leaves in none of the calls
abbrev pub NeverLeaves : ℕ → List Call → Type 0
NeverLeaves f [] = Unit {0}
NeverLeaves f (turning ∷ calls) = NeverLeaves f calls
NeverLeaves f (entering g ∷ calls) = NeverLeaves f calls
NeverLeaves f (leaving g ∷ calls) = (g ≢ f) × NeverLeaves f calls

-- Whatever calls follow h, in any order: each flow that is due in h, and leaves in none of them, has its share of the
-- turns.
abbrev pub GivesShares : (M : Meaning) → M.Held → Type 0
GivesShares M h =
    (f : ℕ) (calls : List Call) → M.due h f ≡ true → NeverLeaves f calls → HasShare M h f (marks_of M h calls)
