-- A part of each item, after a change that leaves it.
use Rattle.std.proofs.Common.{◌≡◌, ℕ, ◌≤◌, List, map, length, get_or, set, sym, ap, ◌∙◌, ⊎_elim}
use lib.ListN.{length-map}
use Rattle.std.proofs.lemmas.List.{get_or-set_same, get_or-set_other, get_or-map, get_or_past, set_past}
use Rattle.std.proofs.lemmas.Bool.{cases_lt, cases_eq}

module _ {A B : Type 0} (t : A → B) (d : A) (xs : List A) where
  pub part_set : (f : ℕ) (y : A) → t y ≡ t (get_or xs f d) → (k : ℕ) → t (get_or (set xs f y) k d) ≡ t (get_or xs k d)
  part_set f y same k =
      ⊎_elim
      (λ e.
      ⊎_elim
      (λ h.
      ap (λ j. t (get_or (set xs f y) j d)) e
      ∙ (ap t (get_or-set_same xs f y d h) ∙ (same ∙ ap (λ j. t (get_or xs j d)) (sym e))))
      (λ h. ap (λ zs. t (get_or zs k d)) (set_past xs f y h))
      (cases_lt f (length xs)))
      (λ n. ap t (get_or-set_other xs f k y d n))
      (cases_eq k f)

  pub part_map : (h : A → A) → ((x : A) → t (h x) ≡ t x) → (k : ℕ) → t (get_or (map h xs) k d) ≡ t (get_or xs k d)
  part_map h same k =
      ⊎_elim
      (λ l. ap t (get_or-map h xs k d d l) ∙ same (get_or xs k d))
      (λ l.
      let m : length (map h xs) ≤ k = simp length-map l in
      ap t (get_or_past (map h xs) k d m ∙ sym (get_or_past xs k d l)))
      (cases_lt k (length xs))
