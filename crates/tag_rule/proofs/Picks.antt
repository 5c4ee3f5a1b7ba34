-- The flow that a turn marks: what it is, and that there is one if a flow is due.
use Rattle.std.proofs.Common.{◌≡◌, ℕ, zero, suc, ◌+◌, ◌<◌, Bool, true, false, List, [], ◌∷◌, length, Some, None, sym, refl, ap, ◌∙◌, subst, ⊎_elim, arith}
use Rattle.std.specs.List.{best_of, AllByRecursion}
use Rattle.std.proofs.ByRecursion.{All-get_or, All-weaker}
use Rattle.std.proofs.lemmas.List.MinMax.{IsFirstBest-from_best_of}
use Rattle.std.proofs.lemmas.Bool.{cases_Bool, and_from, le-leb, both_ways, cond_both}
use Rattle.tag_rule.specs.declared.stamp.Stamp.{Stamp}
use Rattle.tag_rule.specs.declared.entry.Entry.{Entry}
use Rattle.tag_rule.specs.Rule.{stamp_at, eligible, finish_tag, entries, sooner, soonest, time_after}
use Rattle.tag_rule.specs.Ranks.{sooner_ranks}
use Rattle.tag_rule.specs.Tags.{advance}
use Rattle.tag_rule.proofs.VirtualTime.{lowest_le, lowest_at}

-- e is the entry of an eligible flow, of flows that count on from i
Of : ℕ → ℕ → ℕ → List Stamp → Entry → Type 0
Of v p i ss e =
    (k : ℕ) × (e.flow ≡ i + k) × (k < length ss) × (eligible v p (stamp_at ss k) ≡ true) × (e.finish ≡ finish_tag (stamp_at ss k))

entries_of : (v p i : ℕ) (ss : List Stamp) → AllByRecursion (Of v p i ss) (entries v p i ss)
unfolding Of
entries_of v p i [] = tt
entries_of v p i (s ∷ ss) =
    let rest : AllByRecursion (Of v p i (s ∷ ss)) (entries v p (i + 1) ss)
    = All-weaker (Of v p (i + 1) ss) (Of v p i (s ∷ ss))
    (λ e o. (suc o.0, omega (arith, o.1), omega (arith, o.2), o.3, o.4))
    (entries v p (i + 1) ss)
    (entries_of v p (i + 1) ss) in
    cond_both (eligible v p s) (record { finish = finish_tag s; flow = i } ∷ entries v p (i + 1) ss) (entries v p (i + 1) ss)
    (AllByRecursion (Of v p i (s ∷ ss)))
    (λ e. ((0, omega arith, omega arith, e, refl), rest))
    (λ e. rest)

-- the best entry is that of an eligible flow
pub best_entry :
    (v p : ℕ) (ss : List Stamp) (x : Entry) (xs : List Entry)
    → entries v p 0 ss ≡ x ∷ xs
    → (f : ℕ) → (best_of sooner x xs).flow ≡ f
    → (f < length ss) × (eligible v p (stamp_at ss f) ≡ true) × ((best_of sooner x xs).finish ≡ finish_tag (stamp_at ss f))
unfolding Of
best_entry v p ss x xs q f r =
    let a : AllByRecursion (Of v p 0 ss) (x ∷ xs) = subst (AllByRecursion (Of v p 0 ss)) q (entries_of v p 0 ss) in
    let m = IsFirstBest-from_best_of sooner_ranks x xs in
    let o : Of v p 0 ss (best_of sooner x xs) = subst (Of v p 0 ss) m.2 (All-get_or (Of v p 0 ss) (x ∷ xs) m.0 x m.1.0 a) in
    let k : f ≡ o.0 = omega (arith, r, o.1) in
    (omega (arith, k, o.2), ap (λ n. eligible v p (stamp_at ss n)) k ∙ o.3, o.4 ∙ ap (λ n. finish_tag (stamp_at ss n)) (sym k))

pub picked_eligible :
    (v p : ℕ) (ss : List Stamp) (f : ℕ)
    → soonest (entries v p 0 ss) ≡ Some f
    → (f < length ss) × (eligible v p (stamp_at ss f) ≡ true)
picked_eligible v p ss f q = split (entries v p 0 ss) refl
  where
    split : (es : List Entry) → entries v p 0 ss ≡ es → (f < length ss) × (eligible v p (stamp_at ss f) ≡ true)
    split [] e =
        let n : None ≡ Some f = ap soonest (sym e) ∙ q in let z : ◌≡◌ {A = ℕ} 0 1 = cc in absurd (omega arith)
    split (x ∷ xs) e =
        let n : Some (best_of sooner x xs).flow ≡ Some f = ap soonest (sym e) ∙ q in
        let r : (best_of sooner x xs).flow ≡ f = cc in
        let b = best_entry v p ss x xs e f r in
        (b.0, b.1)

soonest_none : (es : List Entry) → soonest es ≡ None → es ≡ []
soonest_none [] q = refl
soonest_none (e ∷ es) q = let z : ◌≡◌ {A = ℕ} 0 1 = cc in absurd (omega arith)

pub entries_none : (v p i : ℕ) (ss : List Stamp) → entries v p i ss ≡ [] → (k : ℕ) → k < length ss → eligible v p (stamp_at ss k) ≡ false
entries_none v p i [] q k l = absurd (omega arith)
entries_none v p i (s ∷ ss) q k l = split (eligible v p s) refl k l (entries_none v p (i + 1) ss)
  where
    split :
        (b : Bool) → eligible v p s ≡ b → (k : ℕ) → k < length (s ∷ ss)
        → (entries v p (i + 1) ss ≡ [] → (k : ℕ) → k < length ss → eligible v p (stamp_at ss k) ≡ false)
        → eligible v p (stamp_at (s ∷ ss) k) ≡ false
    split true e k l more =
        let f : record { finish = finish_tag s; flow = i } ∷ entries v p (i + 1) ss ≡ [] = rw e at q in
        let z : ◌≡◌ {A = ℕ} 0 1 = cc in
        absurd (omega arith)
    split false e zero l more = e
    split false e (suc k) l more = let f : entries v p (i + 1) ss ≡ [] = rw e at q in more f k (omega arith)

pub picked_none : (p : ℕ) (ss : List Stamp) → advance ss ≡ 0 → soonest (entries 0 p 0 ss) ≡ None → (k : ℕ) → k < length ss → (stamp_at ss k).due ≡ false
picked_none p ss a q k l =
    ⊎_elim
    (λ e.
    let m = lowest_le ss k l e in
    let z : m.0 ≡ 0 = ap (time_after 0) (sym m.1) ∙ a in
    let j = lowest_at ss m.0 m.1 in
    let yes : eligible 0 p (stamp_at ss j.0) ≡ true = and_from _ _ j.2 (le-leb _ _ (omega (arith, j.3, z))) in
    let no = entries_none 0 p 0 ss (soonest_none (entries 0 p 0 ss) q) j.0 j.1 in
    absurd (both_ways _ no yes))
    (λ e. e)
    (cases_Bool (stamp_at ss k).due)
