-- Words over the list of the flows, flow 0 first. Assumes nothing.
use Rattle.std.specs.Prelude.{ℕ, zero, suc, ◌+◌, ◌-◌, Bool, false, cond, ◌||◌, List, [], ◌∷◌, take, drop, Some, None, Option, nat_lt}
use Rattle.std.specs.Option.{option_or}

-- the sum over all flows
abbrev pub sum : {A : Type 0} → (A → ℕ) → List A → ℕ
sum g [] = 0
sum g (x ∷ xs) = g x + sum g xs

-- the sum over all flows but flow f
abbrev pub others : {A : Type 0} → (A → ℕ) → List A → ℕ → ℕ
others g [] f = 0
others g (x ∷ xs) zero = sum g xs
others g (x ∷ xs) (suc f) = g x + others g xs f

-- whether some flow passes a test
abbrev pub some : {A : Type 0} → (A → Bool) → List A → Bool
some p [] = false
some p (x ∷ xs) = p x || some p xs

-- the first that passes a test, of flows that count on from i
abbrev pub first : {A : Type 0} → (A → Bool) → ℕ → List A → Option ℕ
first p i [] = None
first p i (x ∷ xs) = cond (p x) (Some i) (first p (i + 1) xs)

-- the first that passes a test, looking upward from flow i and around
abbrev pub around : {A : Type 0} → (A → Bool) → ℕ → List A → Option ℕ
around p i xs = option_or (first p i (drop i xs)) (first p 0 (take i xs))

-- how far flow f of n stands from flow i, looking upward and around
abbrev pub away : ℕ → ℕ → ℕ → ℕ
away n i f = cond (nat_lt f i) (n + f - i) (f - i)
