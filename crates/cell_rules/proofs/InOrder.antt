-- The searches for a sender find the flow that they should, and miss none.
use Rattle.std.proofs.Common.{◌≡◌, ℕ, zero, suc, ◌+◌, ◌-◌, ◌*◌, ◌<◌, ◌≤◌, Bool, true, false, ltb, ◌⊎◌, List, ◌∷◌, length, Some, None, Option, sym, refl, subst, inl, inr, ⊎_elim, arith}
use Rattle.std.proofs.lemmas.Bool.{cond_both, and_parts, ltb-true, ltb-false, both_ways, cases_lt, cases_eq, false_from_ne_true}
use Rattle.std.proofs.lemmas.Bool.Decides.{nat_tests}
use Rattle.std.proofs.lemmas.List.Folds.{find-append}
use Rattle.std.specs.List.{best_of, filter, find, range_with_len}
use Rattle.std.specs.Option.{option_or}
use Rattle.order.specs.Fractions.{fractions_chain}
use Rattle.reference.specs.Flows.{away}
use Rattle.cell_rules.specs.declared.row.Row.{Row}
use Rattle.cell_rules.specs.Rules.{Ring, at, flows, leads, lags, able, flows_around, least, lowest_able, repayable, moved_to, ring_finds, finds_again, can_lead_more, leads_less, can_start_to_lead, chargeable}
use Rattle.cell_rules.specs.InOrder.{LowestAble, ChargedInOrder, FoundAround}
use Rattle.cell_rules.proofs.Settling.{able_inside}

-- ## A search upward

module _ (p : ℕ → Bool) where
  -- of n flows from a on, none passes the test, or f is the lowest that does
  abbrev Lowest : ℕ → ℕ → Option ℕ → Type 0
  Lowest a n None = (g : ℕ) → a ≤ g → g < a + n → p g ≡ false
  Lowest a n (Some f) = (p f ≡ true) × (a ≤ f) × (f < a + n) × ((g : ℕ) → a ≤ g → p g ≡ true → f ≤ g)

  -- flow g is not flow a
  other : (a g : ℕ) → p a ≡ false → a ≤ g → p g ≡ true → a + 1 ≤ g
  other a g e l t = ⊎_elim (λ q. absurd (both_ways (p a) e (subst (λ k. p k ≡ true) (sym q) t))) (λ q. omega arith) (cases_eq a g)

  lowest_below : (a n : ℕ) (o : Option ℕ) → p a ≡ false → Lowest (a + 1) n o → Lowest a (suc n) o
  lowest_below a n None e h = λ g l u. false_from_ne_true (p g) (λ t. both_ways (p g) (h g (other a g e l t) (omega arith)) t)
  lowest_below a n (Some f) e h = (h.0, omega (arith, h.1), omega (arith, h.2), λ g l t. h.3 g (other a g e l t) t)

  find_lowest : (a n : ℕ) → Lowest a n (find p (range_with_len a n))
  find_lowest a zero = λ g l u. absurd (omega arith)
  find_lowest a (suc n) =
      cond_both (p a) (Some a) (find p (range_with_len (a + 1) n)) (Lowest a (suc n)) (λ e. (e, omega arith, omega arith, λ g l t. l))
      (λ e. lowest_below a n _ e (find_lowest (a + 1) n))

-- ## A search for the smallest fraction

module _ (lead limit : ℕ → ℕ) where
  abbrev less : ℕ → ℕ → Bool
  less f g = ltb (lead f * limit g) (lead g * limit f)

  abbrev First : ℕ → ℕ → Type 0
  First f g = (lead f * limit g < lead g * limit f) ⊎ ((lead f * limit g ≡ lead g * limit f) × (f ≤ g))

  first_chains : (f g h : ℕ) → 0 < limit f → 0 < limit g → 0 < limit h → First f g → First g h → First f h
  first_chains f g h x y z a b =
      let fgh = fractions_chain (lead h) (limit h) (lead g) (limit g) (lead f) (limit f) y in
      let hfg = fractions_chain (lead g) (limit g) (lead f) (limit f) (lead h) (limit h) x in
      let ghf = fractions_chain (lead f) (limit f) (lead h) (limit h) (lead g) (limit g) z in
      grind arith

  module _ (p : ℕ → Bool) where
    -- b passes the test and comes first of x and of those of n flows from a on that pass it
    abbrev Ahead : ℕ → ℕ → ℕ → ℕ → Type 0
    Ahead x a n b = (p b ≡ true) × First b x × ((g : ℕ) → a ≤ g → g < a + n → p g ≡ true → First b g)

    -- of n flows from a on, none passes the test, or f comes first of those that do
    abbrev Least : ℕ → ℕ → Option ℕ → Type 0
    Least a n None = (g : ℕ) → a ≤ g → g < a + n → p g ≡ false
    Least a n (Some f) = (p f ≡ true) × ((g : ℕ) → a ≤ g → g < a + n → p g ≡ true → First f g)

    -- flow a is passed over
    ahead_below : (x a n b : ℕ) → p a ≡ false → Ahead x (a + 1) n b → Ahead x a (suc n) b
    ahead_below x a n b e h = (h.0, h.1, λ g l u t. h.2 g (other p a g e l t) (omega arith) t)

    least_below : (a n : ℕ) (o : Option ℕ) → p a ≡ false → Least (a + 1) n o → Least a (suc n) o
    least_below a n None e h = λ g l u. false_from_ne_true (p g) (λ t. both_ways (p g) (h g (other p a g e l t) (omega arith)) t)
    least_below a n (Some f) e h = (h.0, λ g l u t. h.1 g (other p a g e l t) (omega arith) t)

    module _ (positive : (f : ℕ) → p f ≡ true → 0 < limit f) where
      -- y, which is x or a, comes first of these two
      ahead_of_both : (x a n b y : ℕ) → p x ≡ true → p a ≡ true → p y ≡ true → First y x → First y a → Ahead y (a + 1) n b → Ahead x a (suc n) b
      ahead_of_both x a n b y px pa py yx ya h =
          let chains = λ (g : ℕ) (pg : p g ≡ true). first_chains b y g (positive b h.0) (positive y py) (positive g pg) h.1 in (
            h.0,
            chains x px yx,
            λ g l u t. ⊎_elim
                (λ q. chains g t (subst (First y) q ya))
                (λ q. h.2 g (omega arith) (omega arith) t)
                (cases_eq a g),
          )

      best_ahead : (n x a : ℕ) → p x ≡ true → x < a → Ahead x a n (best_of less x (filter p (range_with_len a n)))
      best_ahead zero x a px l = (px, inr (refl, omega arith), λ g l u t. absurd (omega arith))
      best_ahead (suc n) x a px l =
          cond_both (p a) (a ∷ filter p (range_with_len (a + 1) n)) (filter p (range_with_len (a + 1) n))
          (λ ys. Ahead x a (suc n) (best_of less x ys))
          (λ pa. cond_both (less a x) a x (λ y. Ahead x a (suc n) (best_of less y (filter p (range_with_len (a + 1) n))))
          (λ e.
          let s : First a x = inl (ltb-true (lead a * limit x) (lead x * limit a) e) in
          ahead_of_both x a n _ a px pa pa s (inr (refl, omega arith)) (best_ahead n a (a + 1) pa (omega arith)))
          (λ e.
          let s : First x a = let k = ltb-false (lead a * limit x) (lead x * limit a) e in grind arith in
          ahead_of_both x a n _ x px pa px (inr (refl, omega arith)) s (best_ahead n x (a + 1) px (omega arith))))
          (λ e. ahead_below x a n _ e (best_ahead n x (a + 1) px (omega arith)))

      find_least : (a n : ℕ) → Least a n (least less (filter p (range_with_len a n)))
      find_least a zero = λ g l u. absurd (omega arith)
      find_least a (suc n) =
          cond_both (p a) (a ∷ filter p (range_with_len (a + 1) n)) (filter p (range_with_len (a + 1) n))
          (λ ys. Least a (suc n) (least less ys))
          (λ e.
          let h = best_ahead n a (a + 1) e (omega arith) in
          (h.0, λ g l u t. ⊎_elim (λ q. subst (First _) q h.1) (λ q. h.2 g (omega arith) (omega arith) t) (cases_eq a g)))
          (λ e. least_below a n _ e (find_least (a + 1) n))

-- ## A search around

away_upward : (n i f g : ℕ) → i ≤ f → f < n → (i ≤ g → f ≤ g) → away n i f ≤ away n i g
away_upward n i f g l u h = grind (arith, nat_tests)

away_below : (n i f g : ℕ) → f < i → g < i → f ≤ g → away n i f ≤ away n i g
away_below n i f g l u h = grind (arith, nat_tests)

module _ (p : ℕ → Bool) (n : ℕ) where
  -- none passes the test, or f is the nearest from flow i around that does
  abbrev Nearest : ℕ → Option ℕ → Type 0
  Nearest i None = (g : ℕ) → p g ≡ false
  Nearest i (Some f) = (p f ≡ true) × ((g : ℕ) → p g ≡ true → away n i f ≤ away n i g)

  module _ (inside : (f : ℕ) → p f ≡ true → f < n) where
    joined : (i : ℕ) (a b : Option ℕ) → Lowest p i (n - i) a → Lowest p 0 i b → Nearest i (option_or a b)
    joined i (Some f) b h k =
        (h.0, λ g t. away_upward n i f g h.1 (inside f h.0) (λ l. h.3 g l t))
    joined i None None h k = λ g. false_from_ne_true (p g) (λ t. let u = inside g t in ⊎_elim
        (λ l. both_ways (p g) (k g (omega arith) (omega arith)) t)
        (λ l. both_ways (p g) (h g l (omega arith)) t)
        (cases_lt g i))
    joined i None (Some f) h k = (
      k.0,
      λ g t. let u = inside g t in ⊎_elim
          (λ l. away_below n i f g (omega (arith, k.2)) l (k.3 g (omega arith) t))
          (λ l. absurd (both_ways (p g) (h g l (omega arith)) t))
          (cases_lt g i),
    )

    find_nearest : (q : ℕ) → Nearest (q + 1) (find p (flows_around n q))
    find_nearest q =
        subst (Nearest (q + 1)) (sym (find-append p (range_with_len (q + 1) (n - (q + 1))) (range_with_len 0 (q + 1))))
        (joined (q + 1) _ _ (find_lowest p (q + 1) (n - (q + 1))) (find_lowest p 0 (q + 1)))

-- ## The searches of the rules

-- a test that only flows below n pass, and none of them
nobody : (p : ℕ → Bool) (n : ℕ) → ((g : ℕ) → p g ≡ true → g < n) → ((g : ℕ) → 0 ≤ g → g < 0 + n → p g ≡ false) → (g : ℕ) → p g ≡ false
nobody p n inside h g = false_from_ne_true (p g) (λ t. both_ways (p g) (h g (omega arith) (omega (arith, inside g t))) t)

module _ (rows : List Row) (clean : ℕ → Bool) where
  lowest : (o : Option ℕ) → Lowest (able rows clean) 0 (length rows) o → LowestAble rows clean o
  lowest None h = nobody (able rows clean) (length rows) (able_inside rows clean) h
  lowest (Some f) h = (h.0, λ g t. h.3 g (omega arith) t)

  pub lowest_able_is_lowest : (o : Option ℕ) → o ≡ lowest_able rows clean → LowestAble rows clean o
  lowest_able_is_lowest o e =
      subst (LowestAble rows clean) (sym e) (lowest (lowest_able rows clean) (find_lowest (able rows clean) 0 (length rows)))

  -- the limit of a flow that can lead more is above 0
  on_limited : (f : ℕ) → can_lead_more rows clean f ≡ true → 0 < (at rows f).lead_limit
  on_limited f e =
      let below = (and_parts (leads (at rows f)) _ (and_parts (able rows clean f) _ e).1).1 in
      omega (arith, ltb-true (at rows f).lead (at rows f).lead_limit below)

  on_inside : (f : ℕ) → can_lead_more rows clean f ≡ true → f < length rows
  on_inside f e = able_inside rows clean f (and_parts (able rows clean f) _ e).0

  starts_inside : (f : ℕ) → can_start_to_lead rows clean f ≡ true → f < length rows
  starts_inside f e = able_inside rows clean f (and_parts (able rows clean f) _ e).0

  abbrev LeastOn : Option ℕ → Type 0
  LeastOn o = Least (λ f. (at rows f).lead) (λ f. (at rows f).lead_limit) (can_lead_more rows clean) 0 (length rows) o

  in_order : (o s : Option ℕ) → LeastOn o → Lowest (can_start_to_lead rows clean) 0 (length rows) s → ChargedInOrder rows clean (option_or o s)
  in_order (Some f) s h k = inl (h.0, λ g t. h.1 g (omega arith) (omega (arith, on_inside g t)) t)
  in_order None None h k = λ g. (
    nobody (can_lead_more rows clean) (length rows) on_inside h g,
    nobody (can_start_to_lead rows clean) (length rows) starts_inside k g,
  )
  in_order None (Some f) h k = inr (k.0, nobody (can_lead_more rows clean) (length rows) on_inside h, λ g t. k.3 g (omega arith) t)

  pub chargeable_is_in_order : (o : Option ℕ) → o ≡ chargeable rows clean → ChargedInOrder rows clean o
  chargeable_is_in_order o e =
      subst (ChargedInOrder rows clean) (sym e)
      (in_order (least (leads_less rows clean) (filter (can_lead_more rows clean) (flows rows))) (find (can_start_to_lead rows clean) (flows rows))
      (find_least (λ f. (at rows f).lead) (λ f. (at rows f).lead_limit) (can_lead_more rows clean) on_limited 0 (length rows))
      (find_lowest (can_start_to_lead rows clean) 0 (length rows)))

  repayable_inside : (f : ℕ) → repayable rows clean f ≡ true → f < length rows
  repayable_inside f e = able_inside rows clean f (and_parts (lags (at rows f)) (able rows clean f) e).1

  module _ (ring : Ring) where
    again : finds_again rows clean ring ≡ true → FoundAround rows clean ring (Some ring.pointer)
    again e = ((and_parts (repayable rows clean ring.pointer) _ e).0, λ _. refl, λ n. absurd (both_ways _ n e))

    moves : (o : Option ℕ) → finds_again rows clean ring ≡ false → Nearest (repayable rows clean) (length rows) (ring.pointer + 1) o → FoundAround rows clean ring (moved_to rows clean ring o).0
    moves None e h = h
    moves (Some f) e h = (h.0, λ y. absurd (both_ways _ e y), λ _. h.1)

    pub ring_finds_nearest : (o : Option ℕ) → o ≡ (ring_finds rows clean ring).0 → FoundAround rows clean ring o
    ring_finds_nearest o e =
        subst (FoundAround rows clean ring) (sym e)
        (cond_both (finds_again rows clean ring) _ _ (λ (x : Option ℕ × Ring). FoundAround rows clean ring x.0) again
        (λ n. moves _ n (find_nearest (repayable rows clean) (length rows) repayable_inside ring.pointer)))
