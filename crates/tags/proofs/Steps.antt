-- The entries of the stamps, one stamp after another; the least of them; and the lowest tag as the minimum of a list.
use Rattle.std.proofs.Common.{◌≡◌, ℕ, ◌+◌, ◌*◌, ◌<◌, ◌≤◌, min, Bool, true, false, cond, ◌&&◌, nat_le, List, [], ◌∷◌, ◌++◌, map, length, length-take-le, get_or, take, Some, None, Option, sym, refl, ap, ◌∙◌, arith}
use Rattle.std.specs.List.{filter, reduce, fold}
use Rattle.std.specs.Option.{option_map, option_to_list, unwrap_or}
use Rattle.std.proofs.lemmas.Bool.{le-leb, lt-leb}
use Rattle.reference.specs.Meaning.{whole}
use Rattle.std.proofs.lemmas.Grind.{common_steps}
use Rattle.std.proofs.lemmas.List.MinMax.{IsFirstBest-from_best_of, IsFirstBest-unique}
use Rattle.std.proofs.lemmas.List.{take_more, get_or_default, nil_from_length}
use Rattle.tag_rule.specs.declared.stamp.Stamp.{Stamp}
use Rattle.tag_rule.specs.declared.entry.Entry.{Entry}
use Rattle.order.specs.Least.{LeastAt}
use Rattle.tag_rule.specs.Ranks.{sooner_ranks}
use Rattle.tag_rule.specs.Rule.{Clock, no_stamp, stamp_at, eligible, finish_tag, lower, lowest, time_after, entries, sooner, soonest}
use Rattle.tag_rule.specs.Tags.{is_due}
use Rattle.tags.specs.View.{entry_of}

abbrev pub tag_of : Stamp → ℕ
tag_of s = s.tag

lower_fold : (a : ℕ) (xs : List ℕ) → fold min a xs ≡ lower a (reduce min xs)
lower_fold a [] = refl
lower_fold a (x ∷ xs) = lower_fold (min a x) xs ∙ (step (reduce min xs) ∙ ap (lower a) (ap Some (sym (lower_fold x xs))))
  where
    step : (o : Option ℕ) → lower (min a x) o ≡ min a (lower x o)
    step None = refl
    step (Some u) = omega arith

-- the smallest tag of the due flows is what the rule calls lowest
pub lowest_is : (ss : List Stamp) → reduce min (map tag_of (filter is_due ss)) ≡ lowest ss
lowest_is [] = refl
lowest_is (s ∷ ss) = let more = lowest_is ss in let here = lower_fold s.tag (map tag_of (filter is_due ss)) in grind arith

pub time_is : (v : ℕ) (o p : Option ℕ) → o ≡ p → unwrap_or o v ≡ time_after v p
time_is v o p e = ap (λ r. unwrap_or r v) e ∙ same p
  where
    same : (r : Option ℕ) → unwrap_or r v ≡ time_after v r
    same None = refl
    same (Some t) = refl

entries_append : (v p i : ℕ) (xs ys : List Stamp) → entries v p i (xs ++ ys) ≡ entries v p i xs ++ entries v p (i + length xs) ys
entries_append v p i [] ys = let e : i + 0 ≡ i = omega arith in rw e
entries_append v p i (s ∷ xs) ys = let more = entries_append v p (i + 1) xs ys in grind (arith, common_steps)

entries_length : (v p i : ℕ) (ss : List Stamp) → length (entries v p i ss) ≤ length ss
entries_length v p i [] = omega arith
entries_length v p i (s ∷ ss) = let more = entries_length v p (i + 1) ss in grind (arith, common_steps)

one_or_none : (b : Bool) (e : Entry) → cond b (e ∷ []) [] ≡ option_to_list (cond b (Some e) None)
one_or_none true e = refl
one_or_none false e = refl

-- the entry of flow f with the stamp s, if it is eligible
abbrev pub entry_if : ℕ → ℕ → ℕ → Stamp → Option Entry
entry_if v p f s = cond (eligible v p s) (Some (record { finish = finish_tag s; flow = f })) None

pub entry_due :
    (v p f : ℕ) (s : Stamp) → s.due ≡ true → s.tag ≤ v + p * whole
    → Some (record { finish = finish_tag s; flow = f }) ≡ entry_if v p f s
entry_due v p f s due le = let on : nat_le s.tag (v + p * whole) ≡ true = le-leb _ _ le in rw (due, on)

pub entry_idle : (v p f : ℕ) (s : Stamp) → s.due ≡ false → None ≡ entry_if v p f s
entry_idle v p f s idle = rw idle

pub entry_late : (v p f : ℕ) (s : Stamp) → v + p * whole < s.tag → None ≡ entry_if v p f s
entry_late v p f s late = let off = too_late s.due in rw off
  where
    too_late : (b : Bool) → (b && nat_le s.tag (v + p * whole)) ≡ false
    too_late true = lt-leb _ _ late
    too_late false = refl

-- one more stamp, with its entry if it has one
entries_more :
    (c : Clock) (i : ℕ) → i < length c.stamps
    → entries c.time c.lookahead 0 (take (i + 1) c.stamps)
    ≡ entries c.time c.lookahead 0 (take i c.stamps) ++ option_to_list (entry_of c i)
entries_more c i l =
    let v = c.time in
    let p = c.lookahead in
    let ss = c.stamps in
    let long : 0 + length (take i c.stamps) ≡ i = omega (arith, length-take-le i ss (omega arith)) in
    ap (entries v p 0) (take_more ss i no_stamp l)
    ∙ (entries_append v p 0 (take i ss) (stamp_at ss i ∷ [])
    ∙ ap (λ es. entries v p 0 (take i ss) ++ es) (ap (λ n. entries v p n (stamp_at ss i ∷ [])) long
    ∙ one_or_none (eligible v p (stamp_at ss i)) (record { finish = finish_tag (stamp_at ss i); flow = i })))

-- the entries xs of the first i stamps, and what is made of them at one more
module _ (c : Clock) (i : ℕ) (xs : List Entry) (l : i < length c.stamps) (so_far : xs ≡ entries c.time c.lookahead 0 (take i c.stamps)) where
  pub found_few : length xs ≤ i
  found_few =
      omega
      (arith, ap length so_far, entries_length c.time c.lookahead 0 (take i c.stamps), length-take-le i c.stamps (omega arith))

  pub found_more :
      (ys : List Entry) (o : Option Entry) → o ≡ entry_of c i → ys ≡ xs ++ option_to_list o
      → ys ≡ entries c.time c.lookahead 0 (take (i + 1) c.stamps)
  found_more ys o e q =
      q
      ∙ (ap (λ es. es ++ option_to_list o) so_far
      ∙ (ap (λ r. entries c.time c.lookahead 0 (take i c.stamps) ++ option_to_list r) e ∙ sym (entries_more c i l)))

-- The least entry is the soonest.
pub least_is :
    (xs : List Entry) (least : Option ℕ) (d : Entry) → LeastAt sooner xs least
    → option_map (λ i. (get_or xs i d).flow) least ≡ soonest xs
least_is xs None d e = sym (ap soonest (nil_from_length xs e))
least_is [] (Some i) d b = absurd (omega (arith, b.0))
least_is (x ∷ xs) (Some i) d b =
    let m = IsFirstBest-from_best_of sooner_ranks x xs in
    let q : i ≡ m.0 = IsFirstBest-unique sooner_ranks (x ∷ xs) (length (x ∷ xs)) i m.0 x b m.1 in
    ap (λ e. Some e.flow) (get_or_default (x ∷ xs) i d x b.0 ∙ (ap (λ k. get_or (x ∷ xs) k x) q ∙ m.2))
