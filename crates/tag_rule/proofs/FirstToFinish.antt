-- The flow that a turn marks is the one that would finish first.
use Rattle.std.proofs.Common.{◌≡◌, ℕ, zero, suc, ◌+◌, ◌<◌, ◌≤◌, Bool, true, false, ◌⊎◌, List, [], ◌∷◌, length, get_or, sym, refl, ap, subst, inl, inr, ⊎_elim, arith}
use Rattle.std.specs.List.{best_of, AllByRecursion}
use Rattle.std.proofs.lemmas.List.MinMax.{IsFirstBest-from_best_of}
use Rattle.std.proofs.ByRecursion.{All-from_get_or}
use Rattle.std.proofs.lemmas.List.{get_or_past}
use Rattle.std.proofs.lemmas.Bool.{cases_lt, both_ways}
use Rattle.std.proofs.lemmas.Bool.Decides.{nat_tests}
use Rattle.tag_rule.specs.declared.entry.Entry.{Entry}
use Rattle.tag_rule.specs.declared.stamp.Stamp.{Stamp}
use Rattle.tag_rule.specs.Rule.{Clock, no_stamp, stamp_at, eligible, finish_tag, entries, sooner, soonest, marked, FirstToFinish}
use Rattle.tag_rule.specs.Ranks.{sooner_ranks}
use Rattle.tag_rule.proofs.Picks.{best_entry, entries_none}

-- none of the entries is sooner than the best
unbeaten : (x : Entry) (xs : List Entry) → AllByRecursion (λ e. sooner e (best_of sooner x xs) ≡ false) (x ∷ xs)
unbeaten x xs =
    let m = IsFirstBest-from_best_of sooner_ranks x xs in
    All-from_get_or (λ e. sooner e (best_of sooner x xs) ≡ false) (x ∷ xs) x
    (λ k l. subst (λ b. sooner (get_or (x ∷ xs) k x) b ≡ false) m.2 (m.1.1 k x l))

-- what holds of all entries holds of that of each eligible flow
each_entry :
    (P : Entry → Type 0) (v p i : ℕ) (ss : List Stamp)
    → AllByRecursion P (entries v p i ss)
    → (k : ℕ) → k < length ss → eligible v p (stamp_at ss k) ≡ true
    → P (record { finish = finish_tag (stamp_at ss k); flow = i + k })
each_entry P v p i [] a k l e = absurd (omega arith)
each_entry P v p i (s ∷ ss) a k l e = split (eligible v p s) refl k l e (each_entry P v p (i + 1) ss)
  where
    split :
        (b : Bool) → eligible v p s ≡ b → (k : ℕ) → k < length (s ∷ ss) → eligible v p (stamp_at (s ∷ ss) k) ≡ true
        → (AllByRecursion P (entries v p (i + 1) ss) → (k : ℕ) → k < length ss → eligible v p (stamp_at ss k) ≡ true
        → P (record { finish = finish_tag (stamp_at ss k); flow = i + 1 + k }))
        → P (record { finish = finish_tag (stamp_at (s ∷ ss) k); flow = i + k })
    split true q zero l e more =
        let all : AllByRecursion P (record { finish = finish_tag s; flow = i } ∷ entries v p (i + 1) ss) = rw q at a in
        let n : i ≡ i + 0 = omega arith in
        subst (λ f. P (record { finish = finish_tag s; flow = f })) n all.0
    split true q (suc k) l e more =
        let all : AllByRecursion P (record { finish = finish_tag s; flow = i } ∷ entries v p (i + 1) ss) = rw q at a in
        let n : i + 1 + k ≡ i + suc k = omega arith in
        subst (λ f. P (record { finish = finish_tag (stamp_at ss k); flow = f })) n (more all.1 k (omega arith) e)
    split false q zero l e more = absurd (both_ways _ q e)
    split false q (suc k) l e more =
        let all : AllByRecursion P (entries v p (i + 1) ss) = rw q at a in
        let n : i + 1 + k ≡ i + suc k = omega arith in
        subst (λ f. P (record { finish = finish_tag (stamp_at ss k); flow = f })) n (more all k (omega arith) e)

-- one that another is not sooner than
not_sooner :
    (e b : Entry) → sooner e b ≡ false → (b.finish < e.finish) ⊎ ((b.finish ≡ e.finish) × (b.flow ≤ e.flow))
not_sooner e b h = grind (arith, nat_tests)

-- only a flow of the table is eligible
eligible_inside : (v p : ℕ) (ss : List Stamp) (g : ℕ) → eligible v p (stamp_at ss g) ≡ true → g < length ss
eligible_inside v p ss g e =
    ⊎_elim
    (λ l. l)
    (λ l. absurd (both_ways _ (ap (eligible v p) (get_or_past ss g no_stamp l)) e))
    (cases_lt g (length ss))

pub first_to_finish : (c : Clock) → FirstToFinish c (marked c)
first_to_finish c = split (entries c.time c.lookahead 0 c.stamps) refl
  where
    split : (es : List Entry) → entries c.time c.lookahead 0 c.stamps ≡ es → FirstToFinish c (soonest es)
    split [] q = λ g.
        ⊎_elim
        (entries_none c.time c.lookahead 0 c.stamps q g)
        (λ l. ap (eligible c.time c.lookahead) (get_or_past c.stamps g no_stamp l))
        (cases_lt g (length c.stamps))
    split (x ∷ xs) q =
        let best = best_of sooner x xs in
        let b = best_entry c.time c.lookahead c.stamps x xs q (best_of sooner x xs).flow refl in (
          b.1,
          λ g e.
              let o
              = each_entry (λ y. sooner y (best_of sooner x xs) ≡ false) c.time c.lookahead 0 c.stamps
              (subst (AllByRecursion (λ y. sooner y (best_of sooner x xs) ≡ false)) (sym q) (unbeaten x xs)) g
              (eligible_inside c.time c.lookahead c.stamps g e) e in
              ⊎_elim
              (λ l. inl (omega (arith, l, b.2)))
              (λ l. inr (omega (arith, l.0, b.2), omega (arith, l.1)))
              (not_sooner (record { finish = finish_tag (stamp_at c.stamps g); flow = 0 + g }) (best_of sooner x xs) o),
        )
