-- What a search finds, and what it passes.
use Rattle.std.proofs.Common.{◌≡◌, ℕ, zero, suc, ◌+◌, ◌-◌, ◌<◌, ◌≤◌, Bool, true, false, ◌⊎◌, List, [], ◌∷◌, length, get_or, take, drop, Some, None, Option, sym, refl, ap, ◌∙◌, inl, inr, ⊎_elim, arith, length-drop, length-take}
use Rattle.std.proofs.lemmas.List.{get_or-drop, get_or-take}
use Rattle.std.proofs.lemmas.Bool.{cases_lt, or_parts, lt-ltb, le-ltb}
use Rattle.std.specs.Option.{option_or}
use Rattle.reference.specs.Flows.{some, first, around, away}

module _ {A : Type 0} (p : A → Bool) (d : A) where
  first_passes :
      (i : ℕ) (xs : List A) (f : ℕ)
      → first p i xs ≡ Some f
      → (k : ℕ) × (f ≡ i + k) × (k < length xs) × (p (get_or xs k d) ≡ true)
  first_passes i [] f e = let z : ◌≡◌ {A = ℕ} 0 1 = cc in absurd (omega arith)
  first_passes i (x ∷ xs) f e = split (p x) refl (first_passes (i + 1) xs f)
    where
      split :
          (b : Bool) → p x ≡ b
          → (first p (i + 1) xs ≡ Some f → (k : ℕ) × (f ≡ i + 1 + k) × (k < length xs) × (p (get_or xs k d) ≡ true))
          → (k : ℕ) × (f ≡ i + k) × (k < length (x ∷ xs)) × (p (get_or (x ∷ xs) k d) ≡ true)
      split true h more = let q : Some i ≡ Some f = rw h at e in let r : i ≡ f = cc in (0, omega arith, omega arith, h)
      split false h more =
          let q : first p (i + 1) xs ≡ Some f = rw h at e in
          let m = more q in
          (suc m.0, omega (arith, m.1), omega (arith, m.2), m.3)

  first_none : (i : ℕ) (xs : List A) → first p i xs ≡ None → (k : ℕ) → k < length xs → p (get_or xs k d) ≡ false
  first_none i [] e k h = absurd (omega arith)
  first_none i (x ∷ xs) e k h = split (p x) refl k h (first_none (i + 1) xs)
    where
      split :
          (b : Bool) → p x ≡ b → (k : ℕ) → k < length (x ∷ xs)
          → (first p (i + 1) xs ≡ None → (k : ℕ) → k < length xs → p (get_or xs k d) ≡ false)
          → p (get_or (x ∷ xs) k d) ≡ false
      split true g k h more = let q : Some i ≡ None = rw g at e in let z : ◌≡◌ {A = ℕ} 0 1 = cc in absurd (omega arith)
      split false g zero h more = g
      split false g (suc k) h more = let q : first p (i + 1) xs ≡ None = rw g at e in more q k (omega arith)

  -- what the search passes over does not pass the test
  first_passes_over :
      (i : ℕ) (xs : List A) (f : ℕ) → first p i xs ≡ Some f → (k : ℕ) → i + k < f → p (get_or xs k d) ≡ false
  first_passes_over i [] f e k l = let z : ◌≡◌ {A = ℕ} 0 1 = cc in absurd (omega arith)
  first_passes_over i (x ∷ xs) f e k l = split (p x) refl k l (first_passes_over (i + 1) xs f)
    where
      split :
          (b : Bool) → p x ≡ b → (k : ℕ) → i + k < f
          → (first p (i + 1) xs ≡ Some f → (k : ℕ) → i + 1 + k < f → p (get_or xs k d) ≡ false)
          → p (get_or (x ∷ xs) k d) ≡ false
      split true h k l more = let q : Some i ≡ Some f = rw h at e in let r : i ≡ f = cc in absurd (omega arith)
      split false h zero l more = h
      split false h (suc k) l more = let q : first p (i + 1) xs ≡ Some f = rw h at e in more q k (omega arith)

  pub some_none : (xs : List A) → some p xs ≡ false → (k : ℕ) → k < length xs → p (get_or xs k d) ≡ false
  some_none [] e k h = absurd (omega arith)
  some_none (x ∷ xs) e zero h = (or_parts (p x) (some p xs) e).0
  some_none (x ∷ xs) e (suc k) h = some_none xs (or_parts (p x) (some p xs) e).1 k (omega arith)

  option_or_cases : (a b : Option ℕ) (f : ℕ) → option_or a b ≡ Some f → (a ≡ Some f) ⊎ (b ≡ Some f)
  option_or_cases None b f e = inr e
  option_or_cases (Some x) b f e = inl e

  option_or_none : (a b : Option ℕ) → option_or a b ≡ None → (a ≡ None) × (b ≡ None)
  option_or_none None b e = (refl, e)
  option_or_none (Some x) b e = let z : ◌≡◌ {A = ℕ} 0 1 = cc in absurd (omega arith)

  pub around_passes :
      (i : ℕ) (xs : List A) (f : ℕ) → around p i xs ≡ Some f → (f < length xs) × (p (get_or xs f d) ≡ true)
  around_passes i xs f e =
      ⊎_elim
      (λ a.
      let m = first_passes i (drop i xs) f a in
      let l : f < length xs = omega (arith, m.1, m.2, length-drop i xs) in
      (l, ap (λ k. p (get_or xs k d)) m.1 ∙ (ap p (sym (get_or-drop i xs m.0 d)) ∙ m.3)))
      (λ a.
      let m = first_passes 0 (take i xs) f a in
      let l : f < length xs = omega (arith, m.1, m.2, length-take i xs) in
      let b : m.0 < i = omega (arith, m.2, length-take i xs) in
      let q : f ≡ m.0 = omega (arith, m.1) in
      (l, ap (λ k. p (get_or xs k d)) q ∙ (ap p (sym (get_or-take i xs m.0 d b)) ∙ m.3)))
      (option_or_cases (first p i (drop i xs)) (first p 0 (take i xs)) f e)

  pub around_none : (i : ℕ) (xs : List A) → around p i xs ≡ None → (k : ℕ) → k < length xs → p (get_or xs k d) ≡ false
  around_none i xs e k h =
      let n = option_or_none (first p i (drop i xs)) (first p 0 (take i xs)) e in
      ⊎_elim
      (λ b.
      ap p (sym (get_or-take i xs k d b))
      ∙ first_none 0 (take i xs) n.1 k (omega (arith, length-take i xs)))
      (λ b.
      let q : i + (k - i) ≡ k = omega arith in
      ap (λ j. p (get_or xs j d)) (sym q)
      ∙ (ap p (sym (get_or-drop i xs (k - i) d)) ∙ first_none i (drop i xs) n.0 (k - i) (omega (arith, length-drop i xs))))
      (cases_lt k i)

  -- every flow that is nearer does not pass the test
  pub around_passes_over :
      (i : ℕ) (xs : List A) (f : ℕ) → i ≤ length xs → around p i xs ≡ Some f
      → (g : ℕ) → g < length xs → away (length xs) i g < away (length xs) i f → p (get_or xs g d) ≡ false
  around_passes_over i xs f le e g l near = split (first p i (drop i xs)) refl
    where
      split : (o : Option ℕ) → first p i (drop i xs) ≡ o → p (get_or xs g d) ≡ false
      split None q =
          let b : first p 0 (take i xs) ≡ Some f = rw q at e in
          let m = first_passes 0 (take i xs) f b in
          let below : f < i = omega (arith, m.1, m.2, length-take i xs) in
          let fi = lt-ltb f i below in
          ⊎_elim
          (λ h.
          let gi = lt-ltb g i h in
          let lower : length xs + g - i < length xs + f - i = rw (gi, fi) at near in
          ap p (sym (get_or-take i xs g d h)) ∙ first_passes_over 0 (take i xs) f b g (omega arith))
          (λ h.
          let n : i + (g - i) ≡ g = omega arith in
          ap (λ k. p (get_or xs k d)) (sym n)
          ∙ (ap p (sym (get_or-drop i xs (g - i) d)) ∙ first_none i (drop i xs) q (g - i) (omega (arith, length-drop i xs))))
          (cases_lt g i)
      split (Some h) q =
          let b : Some h ≡ Some f = rw q at e in
          let same : h ≡ f = cc in
          let found : first p i (drop i xs) ≡ Some f = q ∙ ap (λ k. Some k) same in
          let m = first_passes i (drop i xs) f found in
          let above : i ≤ f = omega (arith, m.1) in
          let inside : f < length xs = omega (arith, m.1, m.2, length-drop i xs) in
          let fi = le-ltb f i above in
          ⊎_elim
          (λ h.
          let gi = lt-ltb g i h in
          let far : length xs + g - i < f - i = rw (gi, fi) at near in
          absurd (omega arith))
          (λ h.
          let gi = le-ltb g i h in
          let lower : g - i < f - i = rw (gi, fi) at near in
          let n : i + (g - i) ≡ g = omega arith in
          ap (λ k. p (get_or xs k d)) (sym n)
          ∙ (ap p (sym (get_or-drop i xs (g - i) d)) ∙ first_passes_over i (drop i xs) f found (g - i) (omega arith)))
          (cases_lt g i)
