-- Conditions that are tried in order.
use Rattle.std.specs.Prelude.{Bool, cond, List, [], ◌∷◌, Some, None, Option}

-- what stands beside the first condition that holds, if one does
abbrev pub first_of : {A : Type 0} → List (Bool × A) → Option A
first_of [] = None
first_of ((holds, x) ∷ rest) = cond holds (Some x) (first_of rest)
