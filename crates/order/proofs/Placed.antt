-- The least of entries that stand with their places, found by a step that keeps the least so far.
use Rattle.std.proofs.Common.{◌≡◌, ℕ, ◌<◌, Bool, cond, List, ◌∷◌, map, length, get_or, Some, None, Option, sym, ap, ◌∙◌, subst, arith}
use Rattle.std.proofs.lemmas.List.{get_or-map, length-map}
use Rattle.std.proofs.lemmas.List.MinMax.{IsFirstBest-from_best_of}
use Rattle.std.proofs.lemmas.Option.{none-some, same_Some}
use Rattle.std.proofs.lemmas.Simd.{map-map}
use Rattle.std.specs.Cmp.{IsStrictWeakOrder}
use Rattle.std.specs.List.{best_of, fold}
use Rattle.std.specs.Option.{MatchOption, IfSome, option_map}
use Rattle.order.specs.Least.{LeastAt}

-- an item is a place, and a reference that reads as the entry there
module _ {A J : Type 0} {before : A → A → Bool} (ranks : IsStrictWeakOrder before) (read : J → A) where
  abbrev entry : ℕ × J → A
  entry x = read x.1

  abbrev sooner : ℕ × J → ℕ × J → Bool
  sooner x y = before (entry x) (entry y)

  sooner_ranks : IsStrictWeakOrder sooner
  sooner_ranks =
      record {
        one_way = λ x y. ranks.one_way (entry x) (entry y);
        chain = λ x y z. ranks.chain (entry x) (entry y) (entry z);
      }

  -- the best of items that stand at their places has the place of the least entry
  best_is_least :
      (x : ℕ × J) (xs : List (ℕ × J))
      → ((k : ℕ) → k < length (x ∷ xs) → (get_or (x ∷ xs) k x).0 ≡ k)
      → LeastAt before (map entry (x ∷ xs)) (Some (best_of sooner x xs).0)
  best_is_least x xs placed =
      let best = IsFirstBest-from_best_of sooner_ranks x xs in
      let b = best.0 in
      let long : length (map entry (x ∷ xs)) ≡ length (x ∷ xs) = length-map (x ∷ xs) entry in
      let at : (k : ℕ) (d : A) → k < length (x ∷ xs) → get_or (map entry (x ∷ xs)) k d ≡ entry (get_or (x ∷ xs) k x)
      = λ k d. get_or-map entry (x ∷ xs) k x d in
      subst (λ i. LeastAt before (map entry (x ∷ xs)) (Some i)) (sym (placed b best.1.0) ∙ ap (λ y. y.0) best.2) (
        omega (arith, best.1.0, long),
        (λ k d l. rw (at k d (omega arith), at b d best.1.0) (best.1.1 k x (omega arith))),
        λ k d l. rw (at k d (omega (arith, best.1.0)), at b d best.1.0) (best.1.2 k x l),
      )

  item_placed : (k : ℕ) (told : Option (ℕ × J)) (x : ℕ × J) → IfSome told (λ y. y.0 ≡ k) → option_map (λ y. y) told ≡ Some x → x.0 ≡ k
  item_placed k None x placed is = absurd (none-some x is)
  item_placed k (Some y) x placed is = ap (λ z. z.0) (sym (same_Some y x is)) ∙ placed

  -- A run of n items, of which at k is the one at place k. r is what they fold to by a step that keeps the best so far.
  pub fold_is_least :
      (items : List (ℕ × J)) (n : ℕ) (at : ℕ → Option (ℕ × J)) (r : Option (ℕ × J)) (Computes : (ℕ × J → ℕ × J → ℕ × J) → Type 0)
      → n ≡ length items
      → ((k : ℕ) (d : ℕ × J) → k < n → option_map (λ x. x) (at k) ≡ Some (get_or items k d))
      → ((k : ℕ) → IfSome (at k) (λ x. x.0 ≡ k))
      → MatchOption r (n ≡ 0)
      (λ y. (0 < n) × ((x : ℕ × J) × (xs : List (ℕ × J)) × (items ≡ x ∷ xs) × ((h : ℕ × J → ℕ × J → ℕ × J) → Computes h → y ≡ fold h x xs)))
      → Computes (λ y x. cond (sooner x y) x y)
      → LeastAt before (map entry items) (option_map (λ x. x.0) r)
  fold_is_least items n at None Computes long reads places none keeps = length-map items entry ∙ (sym long ∙ none)
  fold_is_least items n at (Some y) Computes long reads places best keeps =
      let x = best.1.0 in
      let xs = best.1.1 in
      let placed : (k : ℕ) → k < length (x ∷ xs) → (get_or (x ∷ xs) k x).0 ≡ k
      = λ k. subst (λ zs. k < length zs → (get_or zs k x).0 ≡ k) best.1.2 (λ l. item_placed k (at k) (get_or items k x) (places k) (reads k x (omega arith))) in
      subst (λ zs. LeastAt before (map entry zs) (Some y.0)) (sym best.1.2)
      (subst (λ z. LeastAt before (map entry (x ∷ xs)) (Some z.0)) (sym (best.1.3 _ keeps)) (best_is_least x xs placed))

  pub entries_read :
      (items : List (ℕ × J)) (references : List J) (entries : List A)
      → references ≡ map (λ x. x.1) items → map read references ≡ entries → map entry items ≡ entries
  entries_read items references entries same all = sym (map-map read (λ x. x.1) items) ∙ (ap (map read) (sym same) ∙ all)
