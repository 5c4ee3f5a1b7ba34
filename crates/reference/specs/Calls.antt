-- Any number of calls on a reference, one after another.
use Rattle.std.specs.Prelude.{ℕ, zero, suc, List, [], ◌∷◌, Option}
use Rattle.reference.specs.Meaning.{Meaning}

-- what is asked of a reference, but for the questions, which alter nothing
pub data Call : Type 0 where
  turning : Call
  entering leaving : ℕ → Call

abbrev pub after : (M : Meaning) → M.Held → Call → M.Held
after M h turning = M.turned h
after M h (entering f) = M.entered h f
after M h (leaving f) = M.left h f

-- what each turn marks
abbrev pub marks_of : (M : Meaning) → M.Held → List Call → List (Option ℕ)
marks_of M h [] = []
marks_of M h (turning ∷ calls) = M.marks h ∷ marks_of M (M.turned h) calls
marks_of M h (entering f ∷ calls) = marks_of M (M.entered h f) calls
marks_of M h (leaving f ∷ calls) = marks_of M (M.left h f) calls

-- n turns, then these calls
abbrev pub turns_then : ℕ → List Call → List Call
turns_then zero calls = calls
turns_then (suc n) calls = turning ∷ turns_then n calls
