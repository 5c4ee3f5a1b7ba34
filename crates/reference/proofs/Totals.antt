-- Sums over the flows, and over all but one.
use Rattle.std.proofs.Common.{◌≡◌, ℕ, zero, suc, ◌+◌, ◌-◌, ◌*◌, ◌<◌, ◌≤◌, ◌≢◌, List, [], ◌∷◌, map, length, get_or, set, sym, refl, ap, ◌∙◌, ⊎_elim, mul-add, arith}
use Rattle.std.specs.List.{AllByRecursion}
use Rattle.std.proofs.lemmas.List.{set_past}
use Rattle.std.proofs.lemmas.Bool.{cases_lt, cases_eq}
use Rattle.reference.specs.Flows.{sum, others}
use Rattle.reference.specs.Meaning.{sum_below}

module _ {A : Type 0} (g : A → ℕ) (d : A) where
  pub sum_split : (xs : List A) (f : ℕ) → f < length xs → sum g xs ≡ g (get_or xs f d) + others g xs f
  sum_split [] f h = absurd (omega arith)
  sum_split (x ∷ xs) zero h = refl
  sum_split (x ∷ xs) (suc f) h = omega (arith, sum_split xs f (omega arith))

  sum_set : (xs : List A) (f : ℕ) (y : A) → f < length xs → sum g (set xs f y) + g (get_or xs f d) ≡ sum g xs + g y
  sum_set [] f y h = absurd (omega arith)
  sum_set (x ∷ xs) zero y h = omega arith
  sum_set (x ∷ xs) (suc f) y h = omega (arith, sum_set xs f y (omega arith))

  pub others_set_same : (xs : List A) (f : ℕ) (y : A) → others g (set xs f y) f ≡ others g xs f
  others_set_same [] f y = refl
  others_set_same (x ∷ xs) zero y = refl
  others_set_same (x ∷ xs) (suc f) y = ap (λ n. g x + n) (others_set_same xs f y)

  pub others_set :
      (xs : List A) (f k : ℕ) (y : A)
      → f < length xs → f ≢ k
      → others g (set xs f y) k + g (get_or xs f d) ≡ others g xs k + g y
  others_set [] f k y h n = absurd (omega arith)
  others_set (x ∷ xs) zero zero y h n = absurd (n refl)
  others_set (x ∷ xs) zero (suc k) y h n = omega arith
  others_set (x ∷ xs) (suc f) zero y h n = omega (arith, sum_set xs f y (omega arith))
  others_set (x ∷ xs) (suc f) (suc k) y h n =
      omega (arith, others_set xs f k y (omega arith) (λ e. n (ap suc e)))

  pub sum_map : (h : A → A) (xs : List A) → sum g (map h xs) ≡ sum (λ x. g (h x)) xs
  sum_map h [] = refl
  sum_map h (x ∷ xs) = ap (λ n. g (h x) + n) (sum_map h xs)

  pub others_map : (h : A → A) (xs : List A) (f : ℕ) → others g (map h xs) f ≡ others (λ x. g (h x)) xs f
  others_map h [] f = refl
  others_map h (x ∷ xs) zero = sum_map h xs
  others_map h (x ∷ xs) (suc f) = ap (λ n. g (h x) + n) (others_map h xs f)

  -- a change that leaves g of flow f
  pub sum_kept : (xs : List A) (f : ℕ) (y : A) → g y ≡ g (get_or xs f d) → sum g (set xs f y) ≡ sum g xs
  sum_kept xs f y e =
      ⊎_elim
      (λ h. omega (arith, sum_set xs f y h))
      (λ h. ap (sum g) (set_past xs f y h))
      (cases_lt f (length xs))

  pub others_kept : (xs : List A) (f : ℕ) (y : A) → g y ≡ g (get_or xs f d) → (k : ℕ) → others g (set xs f y) k ≡ others g xs k
  others_kept xs f y e k =
      ⊎_elim
      (λ h.
      ⊎_elim
      (λ q. ap (others g (set xs f y)) (sym q) ∙ (others_set_same xs f y ∙ ap (others g xs) q))
      (λ n. omega (arith, others_set xs f k y h n))
      (cases_eq f k))
      (λ h. ap (λ zs. others g zs k) (set_past xs f y h))
      (cases_lt f (length xs))

  -- the sum of f over the first flows is the sum over the list
  shifted : (f : ℕ → ℕ) (n : ℕ) → sum_below (suc n) f ≡ f 0 + sum_below n (λ k. f (suc k))
  shifted f zero = omega arith
  shifted f (suc n) = omega (arith, shifted f n)

  pub sum_below_is : (xs : List A) → sum_below (length xs) (λ k. g (get_or xs k d)) ≡ sum g xs
  sum_below_is [] = refl
  sum_below_is (x ∷ xs) = shifted (λ k. g (get_or (x ∷ xs) k d)) (length xs) ∙ ap (λ n. g x + n) (sum_below_is xs)

module _ {A : Type 0} (g h : A → ℕ) where
  sum_le : (xs : List A) → AllByRecursion (λ x. g x ≤ h x) xs → sum g xs ≤ sum h xs
  sum_le [] a = omega arith
  sum_le (x ∷ xs) a = omega (arith, a.0, sum_le xs a.1)

  pub others_le : (xs : List A) (f : ℕ) → AllByRecursion (λ x. g x ≤ h x) xs → others g xs f ≤ others h xs f
  others_le [] f a = omega arith
  others_le (x ∷ xs) zero a = sum_le xs a.1
  others_le (x ∷ xs) (suc f) a = omega (arith, a.0, others_le xs f a.1)

  sum_add : (xs : List A) → sum (λ x. g x + h x) xs ≡ sum g xs + sum h xs
  sum_add [] = refl
  sum_add (x ∷ xs) = omega (arith, sum_add xs)

  pub others_add : (xs : List A) (f : ℕ) → others (λ x. g x + h x) xs f ≡ others g xs f + others h xs f
  others_add [] f = refl
  others_add (x ∷ xs) zero = sum_add xs
  others_add (x ∷ xs) (suc f) = omega (arith, others_add xs f)

module _ {A : Type 0} (c : ℕ) (g : A → ℕ) where
  sum_times : (xs : List A) → sum (λ x. c * g x) xs ≡ c * sum g xs
  sum_times [] = omega arith
  sum_times (x ∷ xs) = omega (arith, sum_times xs, mul-add c (g x) (sum g xs))

  pub others_times : (xs : List A) (f : ℕ) → others (λ x. c * g x) xs f ≡ c * others g xs f
  others_times [] f = omega arith
  others_times (x ∷ xs) zero = sum_times xs
  others_times (x ∷ xs) (suc f) = omega (arith, others_times xs f, mul-add c (g x) (others g xs f))

sum_const : {A : Type 0} (c : ℕ) (xs : List A) → sum (λ (x : A). c) xs ≡ c * length xs
sum_const c [] = omega arith
sum_const c (x ∷ xs) = omega (arith, sum_const c xs, mul-add c 1 (length xs))

pub others_const : {A : Type 0} (c : ℕ) (xs : List A) (f : ℕ) → f < length xs → others (λ (x : A). c) xs f ≡ c * (length xs - 1)
others_const c [] f h = absurd (omega arith)
others_const c (x ∷ xs) zero h = sum_const c xs ∙ ap (λ n. c * n) (omega arith)
others_const c (x ∷ xs) (suc f) h =
    let q : length xs ≡ 1 + (length xs - 1) = omega arith in
    let m : c * length xs ≡ c * 1 + c * (length xs - 1) = ap (λ n. c * n) q ∙ mul-add c 1 (length xs - 1) in
    let e : length (x ∷ xs) - 1 ≡ length xs = omega arith in
    ap (λ n. c + n) (others_const c xs f (omega arith)) ∙ (omega (arith, m) ∙ ap (λ n. c * n) (sym e))
