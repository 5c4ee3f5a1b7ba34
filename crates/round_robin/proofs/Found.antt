-- What searches of numbers find.
use Rattle.std.proofs.Common.{◌≡◌, ℕ, zero, suc, ◌+◌, ◌-◌, ◌<◌, ◌≤◌, Bool, true, false, List, [], ◌∷◌, length, get_or, Some, None, Option, refl, ap, ◌∙◌, sym, arith, add-zero}
use Rattle.std.specs.List.{find, range_with_len}
use Rattle.std.specs.Option.{MatchOption, option_or}
use Rattle.std.proofs.lemmas.List.Folds.{find-append}
use Rattle.std.proofs.lemmas.Iterator.Adapters.{option_map_id}
use Rattle.reference.specs.Flows.{some, around}
use Rattle.reference.proofs.FirstFound.{found_around}

-- A search of n numbers from i on: where none passes, and where the one at k is the first that does.
module _ (test : ℕ → Bool) where
  pub find_none : (i n : ℕ) → ((k : ℕ) → k < n → test (i + k) ≡ false) → find test (range_with_len i n) ≡ None
  find_none i zero h = refl
  find_none i (suc n) h =
      let here : test i ≡ false = ap test (sym (add-zero i)) ∙ h 0 (omega arith) in
      let more
      : find test (range_with_len (i + 1) n) ≡ None
      = find_none (i + 1) n (λ k l. let s : i + 1 + k ≡ i + suc k = omega arith in ap test s ∙ h (suc k) (omega arith)) in
      rw (here, more)

  pub find_at :
      (i n k : ℕ) → k < n → ((j : ℕ) → j < k → test (i + j) ≡ false) → test (i + k) ≡ true
      → find test (range_with_len i n) ≡ Some (i + k)
  find_at i zero k l h e = absurd (omega arith)
  find_at i (suc n) zero l h e =
      let here : test i ≡ true = ap test (sym (add-zero i)) ∙ e in
      let z : i ≡ i + 0 = omega arith in
      rw here (ap (λ m. Some m) z)
  find_at i (suc n) (suc k) l h e =
      let here : test i ≡ false = ap test (sym (add-zero i)) ∙ h 0 (omega arith) in
      let s : i + 1 + k ≡ i + suc k = omega arith in
      let more
      : find test (range_with_len (i + 1) n) ≡ Some (i + 1 + k)
      = find_at (i + 1) n k (omega arith) (λ j m. let r : i + 1 + j ≡ i + suc j = omega arith in ap test r ∙ h (suc j) (omega arith))
      (ap test s ∙ e) in
      rw here (more ∙ ap (λ m. Some m) s)

-- where no flow passes a test, it is not so that some flow does
pub none_some :
    {A : Type 0} (p : A → Bool) (d : A) (xs : List A) → ((k : ℕ) → k < length xs → p (get_or xs k d) ≡ false) → some p xs ≡ false
none_some p d [] h = refl
none_some p d (x ∷ xs) h =
    let here : p x ≡ false = h 0 (omega arith) in
    let more : some p xs ≡ false = none_some p d xs (λ k l. h (suc k) (omega arith)) in
    rw (here, more)

-- Two searches, of which the second is made where the first finds none: the first is of the numbers from i upward and finds
-- o; the second, of those below i, has the outcome Second. What is found is r.
module _ {A : Type 0} {Second : Type 0} (p : A → Bool) (d : A) (test : ℕ → Bool) (r : Option ℕ) (i n : ℕ)
    (second : Second → r ≡ find test (range_with_len 0 (i - 0))) where
  either_found :
      (o : Option ℕ) → MatchOption o Second (λ f. r ≡ Some f) → o ≡ find test (range_with_len i (n - i))
      → r ≡ option_or (find test (range_with_len i (n - i))) (find test (range_with_len 0 i))
  either_found None s e =
      let all : i - 0 ≡ i = omega arith in
      second s
      ∙ (ap (λ m. find test (range_with_len 0 m)) all ∙ ap (λ a. option_or a (find test (range_with_len 0 i))) e)
  either_found (Some f) s e = s ∙ ap (λ a. option_or a (find test (range_with_len 0 i))) e

  pub found_in_turn :
      (o : Option ℕ) → MatchOption o Second (λ f. r ≡ Some f) → o ≡ find test (range_with_len i (n - i))
      → (xs : List A) → n ≡ length xs → i ≤ length xs
      → ((f : ℕ) → f < length xs → test f ≡ p (get_or xs f d))
      → r ≡ around p i xs
  found_in_turn o s e xs long le h =
      found_around p d test r i xs n
      (option_map_id r ∙ (either_found o s e ∙ sym (find-append test (range_with_len i (n - i)) (range_with_len 0 i)))) long le h
