-- Start tags less virtual time mark as start tags and virtual time do, for ever.
use Rattle.std.proofs.Common.{◌≡◌, ℕ, ◌+◌, ◌-◌, ◌*◌, ◌/◌, ◌<◌, ◌≤◌, ◌≢◌, max, Bool, true, false, cond, ◌&&◌, leb, List, [], ◌∷◌, map, length, set, Some, None, Option, sym, refl, ap, ◌∙◌, subst, ⊎_elim, arith}
use lib.ListN.{length-map}
use Rattle.std.specs.List.{best_of, AllByRecursion}
use Rattle.std.proofs.ByRecursion.{All-get_or, All-set, All-from_get_or}
use Rattle.std.proofs.lemmas.List.{get_or-map, get_or-set_same, get_or-set_other, map-set, set_past}
use Rattle.std.proofs.lemmas.Bool.{cases_lt, cases_eq, both_ways, and_parts}
use Rattle.std.proofs.lemmas.Bool.Decides.{nat_tests}
use Rattle.reference.specs.Calls.{Call, marks_of}
use Rattle.reference.specs.Calls.Call.{turning, entering, leaving}
use Rattle.reference.specs.Meaning.{whole}
use Rattle.table.specs.declared.line.Line.{Line}
use Rattle.tag_rule.specs.declared.stamp.Stamp.{Stamp}
use Rattle.tag_rule.specs.declared.entry.Entry.{Entry}
use Rattle.tag_rule.specs.Rule.{
  Clock,
  no_stamp,
  stamp_at,
  start,
  eligible,
  entries,
  sooner,
  soonest,
  marked,
  charged,
  charge,
  entered_at,
  departed,
  stamps_after,
  lowest,
  time_after,
  clock_after,
  clock_after_all,
  rule_marks,
}
use Rattle.tag_rule.specs.Tags.{with_lookahead, clock, later, seen, held_after, advance, settled, Ahead, tags, Follows}
use Rattle.tag_rule.proofs.FirstToFinish.{first_to_finish}
use Rattle.tag_rule.proofs.Picks.{picked_eligible}
use Rattle.tag_rule.proofs.VirtualTime.{fallen, lowest_later, lowest_le, lowest_at}

-- a stamp with another tag
abbrev retag : Stamp → ℕ → Stamp
retag s t = record { weight = s.weight; delay_weight = s.delay_weight; tag = t; due = s.due }

-- The search, from virtual time v.
abbrev early : ℕ → Entry → Entry
early v e = record { finish = e.finish + v; flow = e.flow }

same_test : (v p : ℕ) (s : Stamp) → eligible v p s ≡ eligible 0 p (later v s)
same_test v p s = ap (λ b. s.due && b) (grind (arith, nat_tests))

entries_is : (v p i : ℕ) (ss : List Stamp) → AllByRecursion (Ahead v) ss → entries v p i ss ≡ map (early v) (entries 0 p i (map (later v) ss))
entries_is v p i [] a = refl
entries_is v p i (s ∷ ss) a = split (eligible 0 p (later v s)) refl (entries_is v p (i + 1) ss a.1)
  where
    split :
        (b : Bool) → eligible 0 p (later v s) ≡ b
        → entries v p (i + 1) ss ≡ map (early v) (entries 0 p (i + 1) (map (later v) ss))
        → entries v p i (s ∷ ss) ≡ map (early v) (entries 0 p i (map (later v) (s ∷ ss)))
    split true e h =
        let f : eligible v p s ≡ true = same_test v p s ∙ e in
        let d : v ≤ s.tag = a.0 (and_parts s.due (leb (s.tag - v) (0 + p * whole)) e).0 in
        let q : s.tag + whole / s.delay_weight ≡ s.tag - v + whole / s.delay_weight + v = omega arith in
        rw (f, e, h, q)
    split false e h = let f : eligible v p s ≡ false = same_test v p s ∙ e in rw (f, e) h

sooner_early : (v : ℕ) (x y : Entry) → sooner (early v x) (early v y) ≡ sooner x y
sooner_early v x y = grind (arith, nat_tests)

best_early : (v : ℕ) (x : Entry) (xs : List Entry) → best_of sooner (early v x) (map (early v) xs) ≡ early v (best_of sooner x xs)
best_early v x [] = refl
best_early v x (y ∷ ys) =
    ap (λ e. best_of sooner e (map (early v) ys)) (pick (sooner y x) refl) ∙ best_early v (cond (sooner y x) y x) ys
  where
    pick : (b : Bool) → sooner y x ≡ b → cond (sooner (early v y) (early v x)) (early v y) (early v x) ≡ early v (cond (sooner y x) y x)
    pick true e = let f : sooner (early v y) (early v x) ≡ true = sooner_early v y x ∙ e in rw (f, e)
    pick false e = let f : sooner (early v y) (early v x) ≡ false = sooner_early v y x ∙ e in rw (f, e)

soonest_early : (v : ℕ) (es : List Entry) → soonest (map (early v) es) ≡ soonest es
soonest_early v [] = refl
soonest_early v (e ∷ es) = ap (λ x. Some x.flow) (best_early v e es)

pub same_mark : (c : Clock) → AllByRecursion (Ahead c.time) c.stamps → marked c ≡ marked (clock (seen c))
same_mark c a =
    ap soonest (entries_is c.time c.lookahead 0 c.stamps a)
    ∙ soonest_early c.time (entries 0 c.lookahead 0 (map (later c.time) c.stamps))

-- Virtual time.
later_later : (v d : ℕ) (ss : List Stamp) → map (later d) (map (later v) ss) ≡ map (later (v + d)) ss
later_later v d [] = refl
later_later v d (s ∷ ss) =
    let e : s.tag - v - d ≡ s.tag - (v + d) = omega arith in rw e (ap (λ zs. later (v + d) s ∷ zs) (later_later v d ss))

time_is : (v : ℕ) (ss : List Stamp) → AllByRecursion (Ahead v) ss → v + advance (map (later v) ss) ≡ time_after v (lowest ss)
time_is v ss a = ap (λ o. v + time_after 0 o) (lowest_later v ss) ∙ split (lowest ss) refl
  where
    split : (o : Option ℕ) → lowest ss ≡ o → v + time_after 0 (fallen v o) ≡ time_after v o
    split None e = omega arith
    split (Some m) e =
        let k = lowest_at ss m e in
        let l : v ≤ (stamp_at ss k.0).tag = All-get_or (Ahead v) ss k.0 no_stamp k.1 a k.2 in
        omega (arith, l, k.3)

pub seen_later : (v : ℕ) (ss : List Stamp) → AllByRecursion (Ahead v) ss → map (later (time_after v (lowest ss))) ss ≡ settled (map (later v) ss)
seen_later v ss a = ap (λ t. map (later t) ss) (sym (time_is v ss a)) ∙ sym (later_later v (advance (map (later v) ss)) ss)

-- where virtual time v has moved on, no due flow is behind it
moved_ahead : (v : ℕ) (ss : List Stamp) → AllByRecursion (Ahead (time_after v (lowest ss))) ss
moved_ahead v ss =
    All-from_get_or (Ahead (time_after v (lowest ss))) ss no_stamp
    (λ k l d.
    let m = lowest_le ss k l d in
    subst (λ o. time_after v o ≤ (stamp_at ss k).tag) (sym m.1) m.2)

pub time_ahead : (v : ℕ) (ss : List Stamp) → time_after v (lowest ss) ≡ v → AllByRecursion (Ahead v) ss
time_ahead v ss e = subst (λ d. AllByRecursion (Ahead d) ss) e (moved_ahead v ss)

-- where a due flow is at virtual time, it stays
pub time_stays :
    (v : ℕ) (ss : List Stamp) (k : ℕ) → AllByRecursion (Ahead v) ss → k < length ss → (stamp_at ss k).due ≡ true
    → (stamp_at ss k).tag ≡ v → time_after v (lowest ss) ≡ v
time_stays v ss k a l due at =
    let m = lowest_le ss k l due in
    let j = lowest_at ss m.0 m.1 in
    let ahead : v ≤ (stamp_at ss j.0).tag = All-get_or (Ahead v) ss j.0 no_stamp j.1 a j.2 in
    ap (time_after v) m.1 ∙ omega (arith, m.2, at, ahead, j.3)

-- where a due flow f is past virtual time, another one is at it
pub other_at_time :
    (v : ℕ) (ss : List Stamp) (f : ℕ) → time_after v (lowest ss) ≡ v → f < length ss → (stamp_at ss f).due ≡ true
    → v < (stamp_at ss f).tag
    → (k : ℕ) × (k ≢ f) × (k < length ss) × ((stamp_at ss k).due ≡ true) × ((stamp_at ss k).tag ≡ v)
other_at_time v ss f e l due past =
    let m = lowest_le ss f l due in
    let j = lowest_at ss m.0 m.1 in
    let at : m.0 ≡ v = ap (time_after v) (sym m.1) ∙ e in
    (j.0, λ q. omega (arith, past, at, j.3, ap (λ k. (stamp_at ss k).tag) q), j.1, j.2, omega (arith, j.3, at))

call_ahead : (c : Clock) (x : Call) → AllByRecursion (Ahead (clock_after c x).time) (stamps_after c x)
call_ahead c x = moved_ahead c.time (stamps_after c x)

-- A change at flow f, seen from virtual time v.
module _ (v : ℕ) (ss : List Stamp) (f : ℕ) (y : Stamp) where
  seen_set :
      (g : Stamp → Stamp) → later v y ≡ g (later v (stamp_at ss f))
      → map (later v) (set ss f y) ≡ set (map (later v) ss) f (g (stamp_at (map (later v) ss) f))
  seen_set g e =
      ⊎_elim
      (λ l.
      map-set (later v) ss f y
      ∙ ap (set (map (later v) ss) f) (e ∙ ap g (sym (get_or-map (later v) ss f no_stamp no_stamp l))))
      (λ l.
      let m : length (map (later v) ss) ≤ f = simp length-map l in
      ap (map (later v)) (set_past ss f y l) ∙ sym (set_past (map (later v) ss) f (g (stamp_at (map (later v) ss) f)) m))
      (cases_lt f (length ss))

  set_ahead : AllByRecursion (Ahead v) ss → Ahead v y → AllByRecursion (Ahead v) (set ss f y)
  set_ahead a h = All-set (Ahead v) ss f y h a

-- the flow that a turn marks is due, and so not behind
marked_ahead :
    (c : Clock) (a : AllByRecursion (Ahead c.time) c.stamps) (f : ℕ) → marked c ≡ Some f
    → (f < length c.stamps) × (c.time ≤ (stamp_at c.stamps f).tag)
marked_ahead c a f e =
    let m = picked_eligible 0 c.lookahead (seen c).stamps f (sym (same_mark c a) ∙ e) in
    let l : f < length c.stamps = simp length-map at m.0 in
    let d : (stamp_at c.stamps f).due ≡ true
    = ap (λ z. z.due) (sym (get_or-map (later c.time) c.stamps f no_stamp no_stamp l))
    ∙ (and_parts (stamp_at (seen c).stamps f).due (leb (stamp_at (seen c).stamps f).tag (0 + c.lookahead * whole)) m.1).0 in
    (l, All-get_or (Ahead c.time) c.stamps f no_stamp l a d)

module _ (c : Clock) (a : AllByRecursion (Ahead c.time) c.stamps) where
  -- a call puts no due flow behind
  charge_ahead : (o : Option ℕ) → marked c ≡ o → AllByRecursion (Ahead c.time) (charge c.stamps o)
  charge_ahead None e = a
  charge_ahead (Some f) e =
      let m = marked_ahead c a f e in
      set_ahead c.time c.stamps f (charged (stamp_at c.stamps f)) a (λ _. omega (arith, m.1))

  stamps_ahead : (x : Call) → AllByRecursion (Ahead c.time) (stamps_after c x)
  stamps_ahead turning = charge_ahead (marked c) refl
  stamps_ahead (entering f) =
      set_ahead c.time c.stamps f (entered_at c.time (stamp_at c.stamps f)) a (λ _. omega arith)
  stamps_ahead (leaving f) =
      set_ahead c.time c.stamps f (departed (stamp_at c.stamps f)) a (λ d. absurd (both_ways false refl d))

  time_grows : (x : Call) → c.time ≤ (clock_after c x).time
  time_grows x = omega (arith, time_is c.time (stamps_after c x) (stamps_ahead x))

  charge_alike : (o : Option ℕ) → marked c ≡ o → map (later c.time) (charge c.stamps o) ≡ charge (seen c).stamps o
  charge_alike None e = refl
  charge_alike (Some f) e =
      let m = marked_ahead c a f e in
      let n : (stamp_at c.stamps f).tag + whole / (stamp_at c.stamps f).weight - c.time
      ≡ (stamp_at c.stamps f).tag - c.time + whole / (stamp_at c.stamps f).weight
      = omega (arith, m.1) in
      seen_set c.time c.stamps f (charged (stamp_at c.stamps f)) charged (ap (retag (stamp_at c.stamps f)) n)

  -- a call changes the stamps in the same way, seen from virtual time
  seen_call : (x : Call) → map (later c.time) (stamps_after c x) ≡ stamps_after (clock (seen c)) x
  seen_call turning = charge_alike (marked c) refl ∙ ap (charge (seen c).stamps) (same_mark c a)
  seen_call (entering f) =
      let s = stamp_at c.stamps f in
      let e : max (stamp_at c.stamps f).tag c.time - c.time ≡ max ((stamp_at c.stamps f).tag - c.time) 0 = omega arith in
      seen_set c.time c.stamps f (entered_at c.time s) (entered_at 0) (ap (retag (entered_at 0 s)) e)
  seen_call (leaving f) = seen_set c.time c.stamps f (departed (stamp_at c.stamps f)) departed refl

  pub same_step : (x : Call) → seen (clock_after c x) ≡ held_after (seen c) x
  same_step x =
      ap (with_lookahead c.lookahead)
      (seen_later c.time (stamps_after c x) (stamps_ahead x) ∙ ap settled (seen_call x))

-- The same marks for ever.
same_marks :
    (c : Clock) → AllByRecursion (Ahead c.time) c.stamps → (calls : List Call) → marks_of tags (seen c) calls ≡ rule_marks c calls
same_marks c a [] = refl
same_marks c a (turning ∷ xs) =
    ap (λ o. o ∷ marks_of tags (held_after (seen c) turning) xs) (sym (same_mark c a))
    ∙ ap (λ ms. marked c ∷ ms)
    (ap (λ h. marks_of tags h xs) (sym (same_step c a turning)) ∙ same_marks (clock_after c turning) (call_ahead c turning) xs)
same_marks c a (entering f ∷ xs) =
    ap (λ h. marks_of tags h xs) (sym (same_step c a (entering f)))
    ∙ same_marks (clock_after c (entering f)) (call_ahead c (entering f)) xs
same_marks c a (leaving f ∷ xs) =
    ap (λ h. marks_of tags h xs) (sym (same_step c a (leaving f)))
    ∙ same_marks (clock_after c (leaving f)) (call_ahead c (leaving f)) xs

all_ahead :
    (c : Clock) → AllByRecursion (Ahead c.time) c.stamps → (calls : List Call)
    → AllByRecursion (Ahead (clock_after_all c calls).time) (clock_after_all c calls).stamps
all_ahead c a [] = a
all_ahead c a (x ∷ xs) = all_ahead (clock_after c x) (call_ahead c x) xs

-- Start tags only grow.
set_grows :
    (ss : List Stamp) (f : ℕ) (y : Stamp) → (stamp_at ss f).tag ≤ y.tag
    → (k : ℕ) → (stamp_at ss k).tag ≤ (stamp_at (set ss f y) k).tag
set_grows ss f y le k =
    ⊎_elim
    (λ e.
    ⊎_elim
    (λ l. omega (arith, ap (λ j. (stamp_at ss j).tag) e, ap (λ j. (stamp_at (set ss f y) j).tag) e, ap tag_of (get_or-set_same ss f y no_stamp l)))
    (λ l. omega (arith, ap (λ zs. (stamp_at zs k).tag) (set_past ss f y l)))
    (cases_lt f (length ss)))
    (λ n. omega (arith, ap tag_of (get_or-set_other ss f k y no_stamp n)))
    (cases_eq k f)
  where
    tag_of : Stamp → ℕ
    tag_of s = s.tag

charge_grows : (ss : List Stamp) (o : Option ℕ) (k : ℕ) → (stamp_at ss k).tag ≤ (stamp_at (charge ss o) k).tag
charge_grows ss None k = omega arith
charge_grows ss (Some f) k = set_grows ss f (charged (stamp_at ss f)) (omega arith) k

tags_grow : (c : Clock) (x : Call) (k : ℕ) → (stamp_at c.stamps k).tag ≤ (stamp_at (stamps_after c x) k).tag
tags_grow c turning k = charge_grows c.stamps (marked c) k
tags_grow c (entering f) k = set_grows c.stamps f (entered_at c.time (stamp_at c.stamps f)) (omega arith) k
tags_grow c (leaving f) k = set_grows c.stamps f (departed (stamp_at c.stamps f)) (omega arith) k

-- What is seen of the start follows the rule.
pub start_follows : (p : ℕ) (ls : List Line) → Follows (start p ls) (seen (start p ls))
start_follows p ls =
    record {
      same_marks = same_marks (start p ls) ahead;
      marks_first_to_finish = λ calls. first_to_finish (clock_after_all (start p ls) calls);
      time_grows = λ calls x. time_grows (clock_after_all (start p ls) calls) (all_ahead (start p ls) ahead calls) x;
      tags_grow = λ calls x f. tags_grow (clock_after_all (start p ls) calls) x f;
    }
  where
    ahead : AllByRecursion (Ahead 0) (start p ls).stamps
    ahead = All-from_get_or (Ahead 0) (start p ls).stamps no_stamp (λ k l d. omega arith)
