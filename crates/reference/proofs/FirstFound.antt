-- What the searches of the library find, in the words of a reference.
use Rattle.std.proofs.Common.{◌≡◌, ℕ, suc, ◌+◌, ◌-◌, ◌<◌, ◌≤◌, Bool, true, false, ◌||◌, Bor, List, [], ◌∷◌, ◌++◌, length, get_or, take, drop, Option, sym, refl, ap, ◌∙◌, arith, add-zero, zero-add, length-drop, length-take}
use Rattle.std.specs.Option.{MatchOption, option_map}
use Rattle.std.specs.Fn.{Called, Mut}
use Rattle.std.specs.Iterator.{YieldsThen}
use Rattle.std.specs.Slice.Iter.{iter_rest}
use Rattle.std.proofs.lemmas.Fn.{fronts}
use Rattle.std.proofs.lemmas.Iterator.{YieldsList-from_slice}
use Rattle.std.proofs.lemmas.Iterator.Search.{any_from_yields_List}
use Rattle.std.specs.List.{FoldsTo, list_any, find, range_with_len}
use Rattle.std.proofs.lemmas.List.{get_or-drop, get_or-take, length-take-le}
use Rattle.std.proofs.lemmas.List.Folds.{find-append}
use Rattle.std.proofs.lemmas.List.Recursion.{same_from_clauses}
use Rattle.std.proofs.lemmas.Iterator.Adapters.{option_map_id}
use Rattle.reference.specs.Flows.{some, first, around}

list_any_some : {A : Type 0} (p : A → Bool) (xs : List A) → list_any p xs ≡ some p xs
list_any_some p = same_from_clauses (list_any p) (some p) (λ x b. p x || b) refl (λ x xs. refl) (λ x xs. refl)

-- what `any` answers over a slice, with p the test that it asks
pub any_some :
    {A F : Type 0} {s u : _} {g : Mut F (Bor A × Unit {0}) Bool} (p : A → Bool) (xs : List A) (f : F) (r : Bool)
    → (ys : List (Bor A)) × (o : Option (Bor A)) × (j : F) × YieldsThen fronts s ys o u
    × FoldsTo (λ h y k. Called g h (y, tt) false k) f ys j
    × MatchOption o (r ≡ false) (λ y. (r ≡ true) × ((k : F) × Called g j (y, tt) true k))
    → iter_rest s ≡ xs
    → ((y : Bor A) (b : Bool) (k : F) → Called g f (y, tt) b k → (k ≡ f) × (b ≡ p y.now))
    → r ≡ some p xs
any_some p xs f r ran rest computes =
    any_from_yields_List p _ f r ran (YieldsList-from_slice xs rest) computes ∙ list_any_some p xs

-- a search of numbers that asks the test of the flow of each number
module _ {A : Type 0} (p : A → Bool) (d : A) (test : ℕ → Bool) where
  find_first :
      (i : ℕ) (xs : List A)
      → ((k : ℕ) → k < length xs → test (i + k) ≡ p (get_or xs k d))
      → find test (range_with_len i (length xs)) ≡ first p i xs
  find_first i [] h = refl
  find_first i (x ∷ xs) h =
      let e : test i ≡ p x = ap test (sym (add-zero i)) ∙ h 0 (omega arith) in
      let more : find test (range_with_len (i + 1) (length xs)) ≡ first p (i + 1) xs =
      find_first (i + 1) xs
      (λ k l. let s : i + 1 + k ≡ i + suc k = omega arith in ap test s ∙ h (suc k) (omega arith)) in
      rw (e, more)

  find_around :
      (i : ℕ) (xs : List A) → i ≤ length xs
      → ((f : ℕ) → f < length xs → test f ≡ p (get_or xs f d))
      → find test (range_with_len i (length xs - i) ++ range_with_len 0 i) ≡ around p i xs
  find_around i xs le h =
      let upward : find test (range_with_len i (length (drop i xs))) ≡ first p i (drop i xs) =
      find_first i (drop i xs)
      (λ k l. h (i + k) (omega (arith, length-drop i xs)) ∙ ap p (sym (get_or-drop i xs k d))) in
      let below : find test (range_with_len 0 (length (take i xs))) ≡ first p 0 (take i xs) =
      find_first 0 (take i xs)
      (λ k l.
      let b : k < i = omega (arith, length-take i xs) in
      ap test (zero-add k) ∙ (h k (omega arith) ∙ ap p (sym (get_or-take i xs k d b)))) in
      let n : length (take i xs) ≡ i = length-take-le i xs le in
      let m : length (drop i xs) ≡ length xs - i = length-drop i xs in
      let split = find-append test (range_with_len i (length xs - i)) (range_with_len 0 i) in
      cc

  -- what a search of the numbers from i upward and then of those below i has found
  pub found_around :
      (o : Option ℕ) (i : ℕ) (xs : List A) (n : ℕ)
      → option_map (λ f. f) o ≡ find test (range_with_len i (n - i) ++ range_with_len 0 i)
      → n ≡ length xs → i ≤ length xs
      → ((f : ℕ) → f < length xs → test f ≡ p (get_or xs f d))
      → o ≡ around p i xs
  found_around o i xs n e long le h =
      sym (option_map_id o)
      ∙ (e
      ∙ (ap (λ m. find test (range_with_len i (m - i) ++ range_with_len 0 i)) long ∙ find_around i xs le h))
