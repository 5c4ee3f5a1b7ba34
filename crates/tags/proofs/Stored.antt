-- The array of the code and the stamps that it stands for, when a call changes them.
use Rattle.std.specs.Prelude.{◌≡◌, ℕ, ◌+◌, ◌*◌, ◌/◌, ◌<◌, ◌≤◌, max, Bool, true, false, cond, List, ◌&&◌, length, map, take, Some, None, nat_lt, nat_eq, slice_set}
use Rattle.std.proofs.Common.{sym, refl, ap, subst, ◌∙◌, arith, length-set}
use Rattle.std.specs.List.{AllByRecursion}
use Rattle.std.proofs.ByRecursion.{All-set, All-get_or}
use Rattle.std.proofs.lemmas.List.{get_or-map, get_or-set_same, get_or-set_other, take-map, length-map, map-set}
use Rattle.std.proofs.lemmas.Bool.{and_parts, leb-true, ltb-true, eqb-true}
use Rattle.reference.specs.Calls.Call.{turning, entering, leaving}
use Rattle.reference.specs.Flows.{sum}
use Rattle.reference.specs.Meaning.{whole}
use Rattle.reference.proofs.Fields.{part_map}
use Rattle.reference.proofs.Fronts.{front_each, front_length}
use Rattle.reference.proofs.Steps.{take_set}
use Rattle.reference.proofs.Totals.{sum_kept, sum_map}
use Rattle.tag_rule.specs.declared.stamp.Stamp.{Stamp}
use Rattle.tags.specs.declared.Tags.{Tags}
use Rattle.tag_rule.specs.Rule.{no_stamp, stamp_at, eligible, marked, charged, charge, entered_at, departed, lowest, time_after}
use Rattle.tag_rule.specs.Tags.{Ahead, is_due, with_lookahead, clock, seen, held_after, weight_of, advance, later, settled, switching, Kept, KeptBelow}
use Rattle.tags.specs.Base.{moved_on, stays}
use Rattle.tags.specs.View.{clock_of, tags_held, entry_of}
use Rattle.tag_rule.proofs.Laws.{changed_sound, settled_same, later_none}
use Rattle.tag_rule.proofs.Picks.{picked_eligible}
use Rattle.tag_rule.proofs.SameMarks.{seen_later, same_mark, same_step, time_ahead, time_stays, other_at_time}
use Rattle.tag_rule.proofs.VirtualTime.{seen_on_time, time_again}
use Rattle.tags.proofs.Steps.{entry_if, entry_due, entry_idle, entry_late}
use Rattle.tags.specs.Held.{held_sound, front_at}

-- What the array zs keeps, as it is seen from virtual time.
pub record Stored (t : Tags) (zs : List Stamp) : Type 0 where
  pub sized : length zs ≡ 16
  pub kept : KeptBelow t.lookahead zs t.count
  pub on_time : advance (take t.count zs) ≡ 0
  pub summed : t.total ≡ sum weight_of (take t.count zs)

-- What the struct keeps of its array and its virtual time: here of the array zs and v.
pub record Counted (t : Tags) (zs : List Stamp) (v : ℕ) : Type 0 where
  pub sized : length zs ≡ 16
  pub kept : KeptBelow t.lookahead (map (later v) zs) t.count
  pub on_time : time_after v (lowest (take t.count zs)) ≡ v
  pub summed : t.total ≡ sum weight_of (take t.count zs)

-- no due flow is behind
pub held_ahead : (t : Tags) → AllByRecursion (Ahead t.time) (clock_of t).stamps
held_ahead t = time_ahead t.time (clock_of t).stamps t.on_time

-- Flow f is given the stamp y, where virtual time stays. (i is f, as a number of another width.)
module _ (t : Tags) (f : ℕ) (y : Stamp) (i : ℕ) (l : f < t.count) (ahead : Ahead t.time y) (q : i ≡ f) where
  given : List Stamp
  given = slice_set (clock_of t).stamps f y

  given_ahead : AllByRecursion (Ahead t.time) given
  unfolding given
  given_ahead = All-set (Ahead t.time) (clock_of t).stamps f y ahead (held_ahead t)

  inside : f < length (clock_of t).stamps
  inside = omega (arith, l, front_length t.stamps t.count t.sized t.few)

  stays_by_other : (stamp_at (clock_of t).stamps f).due ≡ true → t.time < (stamp_at (clock_of t).stamps f).tag → time_after t.time (lowest given) ≡ t.time
  unfolding given
  stays_by_other due past =
      let o = other_at_time t.time (clock_of t).stamps f t.on_time inside due past in
      let same : stamp_at given o.0 ≡ stamp_at (clock_of t).stamps o.0 = get_or-set_other (clock_of t).stamps f o.0 y no_stamp o.1 in
      time_stays t.time given o.0 given_ahead (omega (arith, o.2, length-set (clock_of t).stamps f y))
      (ap is_due same ∙ o.3) (ap (λ s. s.tag) same ∙ o.4)

  stays_by_this : y.due ≡ true → y.tag ≡ t.time → time_after t.time (lowest given) ≡ t.time
  unfolding given
  stays_by_this due at =
      let same : stamp_at given f ≡ y = get_or-set_same (clock_of t).stamps f y no_stamp inside in
      time_stays t.time given f given_ahead (omega (arith, inside, length-set (clock_of t).stamps f y))
      (ap is_due same ∙ due) (ap (λ s. s.tag) same ∙ at)

  stays_cases :
      (b : Bool) → (stamp_at (clock_of t).stamps f).due ≡ b
      → cond b (nat_lt t.time (stamp_at (clock_of t).stamps f).tag) (y.due && nat_eq y.tag t.time) ≡ true
      → time_after t.time (lowest given) ≡ t.time
  stays_cases true due h = stays_by_other due (ltb-true _ _ h)
  stays_cases false idle h = let h = and_parts y.due (nat_eq y.tag t.time) h in stays_by_this h.0 (eqb-true _ _ h.1)

  pub put_stays : stays t.time (stamp_at t.stamps i) y ≡ true → t.time ≡ time_after t.time (lowest (take t.count (slice_set t.stamps i y)))
  unfolding given
  put_stays h =
      let there : stamp_at t.stamps i ≡ stamp_at (clock_of t).stamps f = ap (stamp_at t.stamps) q ∙ sym (front_at t.stamps t.count f l) in
      let front : take t.count (slice_set t.stamps i y) ≡ given = take_set t.count t.stamps i y ∙ ap (λ j. slice_set (clock_of t).stamps j y) q in
      sym
      (ap (λ ss. time_after t.time (lowest ss)) front
      ∙ stays_cases (stamp_at (clock_of t).stamps f).due refl (ap (λ s. stays t.time s y) (sym there) ∙ h))

-- Flow f is given the stamp y, and virtual time moves on. (n and i are the count and f, as numbers of another width.)
module _ (t : Tags) (f : ℕ) (y : Stamp) (n i v : ℕ)
    (share : y.weight ≡ (stamp_at (clock_of t).stamps f).weight) (k : Kept t.lookahead (later t.time y)) (ahead : Ahead t.time y)
    (e : n ≡ t.count) (q : i ≡ f) (moved : v ≡ time_after t.time (lowest (take n (slice_set t.stamps i y)))) where
  abbrev put_stamps : List Stamp
  put_stamps = slice_set (clock_of t).stamps f y

  put_front : take t.count (slice_set t.stamps i y) ≡ put_stamps
  put_front = take_set t.count t.stamps i y ∙ ap (λ j. slice_set (clock_of t).stamps j y) q

  put_time : v ≡ time_after t.time (lowest put_stamps)
  put_time = moved ∙ ap (λ ss. time_after t.time (lowest ss)) (ap (λ m. take m (slice_set t.stamps i y)) e ∙ put_front)

  -- as it is seen then, it is what was seen before, changed and settled
  put_seen : map (later v) put_stamps ≡ settled (slice_set (tags_held t).stamps f (later t.time y))
  put_seen =
      ap (λ d. map (later d) put_stamps) put_time
      ∙ (seen_later t.time put_stamps (All-set (Ahead t.time) (clock_of t).stamps f y ahead (held_ahead t))
      ∙ ap settled (map-set (later t.time) (clock_of t).stamps f y))

  pub put_counted : Counted t (slice_set t.stamps i y) v
  put_counted =
      let zs = slice_set t.stamps i y in
      let z : length (slice_set t.stamps i y) ≡ 16 = length-set t.stamps i y ∙ t.sized in
      let seen_share : y.weight ≡ (stamp_at (tags_held t).stamps f).weight
      = share ∙ sym (part_map weight_of no_stamp (clock_of t).stamps (later t.time) (λ _. refl) f) in
      let sounds = changed_sound t.lookahead (tags_held t).stamps f (later t.time y) seen_share (held_sound t) (λ _. k) in
      let front : take t.count (map (later v) (slice_set t.stamps i y)) ≡ settled (slice_set (tags_held t).stamps f (later t.time y))
      = take-map (later v) t.count zs ∙ (ap (map (later v)) put_front ∙ put_seen) in
      record {
        sized = z;
        kept =
            front_each (map (later v) zs) t.count (length-map zs (later v) ∙ z) t.few (Kept t.lookahead) no_stamp
            (subst (AllByRecursion (Kept t.lookahead)) (sym front) sounds.kept);
        on_time =
            ap (λ ss. time_after v (lowest ss)) put_front
            ∙ (ap (λ d. time_after d (lowest put_stamps)) put_time ∙ (time_again t.time (lowest put_stamps) ∙ sym put_time));
        summed =
            t.summed
            ∙ sym (ap (sum weight_of) put_front ∙ sum_kept weight_of no_stamp (clock_of t).stamps f y share);
      }

  pub put_holds :
      seen (record { stamps = take t.count (slice_set t.stamps i y); time = v; lookahead = t.lookahead })
      ≡ seen (moved_on (clock_of t) put_stamps)
  put_holds =
      ap (λ ss. seen (record { stamps = ss; time = v; lookahead = t.lookahead })) put_front
      ∙ ap (λ d. seen (record { stamps = put_stamps; time = d; lookahead = t.lookahead })) put_time

-- The base moves up to virtual time: nothing that is held changes.
module _ (t : Tags) (zs : List Stamp) (v : ℕ) (had : Counted t zs v) where
  pub base_counted : Counted t (map (later v) zs) 0
  base_counted =
      let front = take-map (later v) t.count zs in
      record {
        sized = length-map zs (later v) ∙ had.sized;
        kept = subst (λ ss. KeptBelow t.lookahead ss t.count) (sym (later_none (map (later v) zs))) had.kept;
        on_time = ap advance front ∙ seen_on_time v (take t.count zs) had.on_time;
        summed = had.summed ∙ sym (ap (sum weight_of) front ∙ sum_map weight_of no_stamp (later v) (take t.count zs));
      }

  pub base_holds :
      seen (record { stamps = take t.count (map (later v) zs); time = 0; lookahead = t.lookahead })
      ≡ seen (record { stamps = take t.count zs; time = v; lookahead = t.lookahead })
  base_holds =
      ap (λ ss. with_lookahead t.lookahead (map (later 0) ss)) (take-map (later v) t.count zs)
      ∙ ap (with_lookahead t.lookahead) (later_none (map (later v) (take t.count zs)))

-- What a turn marks, by the numbers of the code and by what they hold.
pub marked_same : (t : Tags) → marked (clock_of t) ≡ marked (clock (tags_held t))
marked_same t = same_mark (clock_of t) (held_ahead t)

-- A turn that marks no flow alters nothing.
pub unmarked_same : (t : Tags) → None ≡ marked (clock_of t) → tags_held t ≡ held_after (tags_held t) turning
unmarked_same t e =
    ap (with_lookahead t.lookahead)
    (sym (settled_same (tags_held t).stamps (held_sound t).on_time)
    ∙ ap (λ o. settled (charge (tags_held t).stamps o)) (e ∙ marked_same t))

-- a stamp with another start tag
abbrev pub retag : Stamp → ℕ → Stamp
retag s n = record { weight = s.weight; delay_weight = s.delay_weight; tag = n; due = s.due }

-- The stamp of flow f. (i is f, as a number of another width.)
module _ (t : Tags) (f i : ℕ) (q : i ≡ f) (l : f < t.count) where
  pub stamp_there : stamp_at t.stamps i ≡ stamp_at (clock_of t).stamps f
  stamp_there = ap (stamp_at t.stamps) q ∙ sym (front_at t.stamps t.count f l)

  pub stamp_kept : Kept t.lookahead (later t.time (stamp_at t.stamps i))
  stamp_kept =
      let inside : i < t.count = omega (arith, q, l) in
      subst (Kept t.lookahead)
      (get_or-map (later t.time) t.stamps i no_stamp no_stamp (omega (arith, inside, t.sized, t.few)))
      (t.kept i inside)

  -- the stamp as it is after the flow enters, or leaves
  abbrev pub switched : Bool → ℕ → Stamp
  switched b n =
      record { weight = (stamp_at t.stamps i).weight; delay_weight = (stamp_at t.stamps i).delay_weight; tag = n; due = b }

  pub switched_kept :
      (b : Bool) (n : ℕ) → n ≡ cond b (max (stamp_at t.stamps i).tag t.time) (stamp_at t.stamps i).tag
      → Kept t.lookahead (later t.time (switched b n))
  switched_kept true n e = let k = stamp_kept in (k.0, k.1, k.2, k.3, omega (arith, k.4, e))
  switched_kept false n e = let k = stamp_kept in (k.0, k.1, k.2, k.3, omega (arith, k.4, e))

  pub switched_holds :
      (b : Bool) (n : ℕ) → n ≡ cond b (max (stamp_at t.stamps i).tag t.time) (stamp_at t.stamps i).tag
      → seen (moved_on (clock_of t) (slice_set (clock_of t).stamps f (switched b n))) ≡ held_after (tags_held t) (switching b f)
  switched_holds true n e =
      ap (λ m. seen (moved_on (clock_of t) (slice_set (clock_of t).stamps f (switched true m)))) e
      ∙ (ap (λ s. seen (moved_on (clock_of t) (slice_set (clock_of t).stamps f (entered_at t.time s)))) stamp_there
      ∙ same_step (clock_of t) (held_ahead t) (entering f))
  switched_holds false n e =
      ap (λ m. seen (moved_on (clock_of t) (slice_set (clock_of t).stamps f (switched false m)))) e
      ∙ (ap (λ s. seen (moved_on (clock_of t) (slice_set (clock_of t).stamps f (departed s)))) stamp_there
      ∙ same_step (clock_of t) (held_ahead t) (leaving f))

-- The stamps ss that the slice of the flows shows, and the entry of flow f: it has one if it is due and not past the lookahead.
-- (p is the lookahead, as a number of another width.)
module _ (t : Tags) (ss : List Stamp) (f : ℕ) (same : ss ≡ (clock_of t).stamps) where
  shown : stamp_at ss f ≡ stamp_at (clock_of t).stamps f
  shown = ap (λ zs. stamp_at zs f) same

  pub shown_below : f < length ss → f < t.count
  shown_below l = omega (arith, l, ap length same, front_length t.stamps t.count t.sized t.few)

  pub shown_delay : f < length ss → (1 ≤ (stamp_at ss f).delay_weight) × ((stamp_at ss f).delay_weight ≤ 16)
  shown_delay l =
      let below = shown_below l in
      let delay = ap (λ s. s.delay_weight) (stamp_there t f f refl below ∙ sym shown) in
      let kept = stamp_kept t f f refl below in
      (omega (arith, kept.2, delay), omega (arith, kept.3, delay))

  pub entry_shown :
      (p n : ℕ) → p ≡ t.lookahead → n ≡ whole / (stamp_at ss f).delay_weight → (stamp_at ss f).due ≡ true
      → (stamp_at ss f).tag ≤ t.time + p * 720720
      → Some (record { finish = (stamp_at ss f).tag + n; flow = f }) ≡ entry_of (clock_of t) f
  entry_shown p n w e due le =
      ap (λ m. Some (record { finish = (stamp_at ss f).tag + m; flow = f })) e
      ∙ (entry_due t.time t.lookahead f (stamp_at ss f) due (omega (arith, w, le)) ∙ ap (entry_if t.time t.lookahead f) shown)

  pub none_shown_idle : (stamp_at ss f).due ≡ false → None ≡ entry_of (clock_of t) f
  none_shown_idle idle = entry_idle t.time t.lookahead f (stamp_at ss f) idle ∙ ap (entry_if t.time t.lookahead f) shown

  pub none_shown_late : (p : ℕ) → p ≡ t.lookahead → t.time + p * 720720 < (stamp_at ss f).tag → None ≡ entry_of (clock_of t) f
  none_shown_late p w late =
      entry_late t.time t.lookahead f (stamp_at ss f) (omega (arith, w, late)) ∙ ap (entry_if t.time t.lookahead f) shown

-- The flow f that a turn marks. (i is f, as a number of another width.)
module _ (t : Tags) (f i : ℕ) (q : i ≡ f) (e : Some f ≡ marked (clock_of t)) where
  picked : (f < length (clock_of t).stamps) × (eligible t.time t.lookahead (stamp_at (clock_of t).stamps f) ≡ true)
  picked = picked_eligible t.time t.lookahead (clock_of t).stamps f (sym e)

  pub pick_below : f < t.count
  pick_below = omega (arith, picked.0, front_length t.stamps t.count t.sized t.few)

  pub pick_at : stamp_at t.stamps i ≡ stamp_at (clock_of t).stamps f
  pick_at = stamp_there t f i q pick_below

  pub pick_kept : Kept t.lookahead (later t.time (stamp_at t.stamps i))
  pick_kept = stamp_kept t f i q pick_below

  pub pick_tag : (stamp_at t.stamps i).tag ≤ t.time + t.lookahead * 720720
  pick_tag = subst (λ (s : Stamp). s.tag ≤ t.time + t.lookahead * 720720) (sym pick_at) (leb-true _ _ (and_parts _ _ picked.1).1)

  pub pick_ahead : Ahead t.time (stamp_at t.stamps i)
  pick_ahead = subst (Ahead t.time) (sym pick_at) (All-get_or (Ahead t.time) (clock_of t).stamps f no_stamp picked.0 (held_ahead t))

  -- what charging it leaves
  pub pick_charged :
      (n : ℕ) → n ≡ whole / (stamp_at t.stamps i).weight
      → seen (moved_on (clock_of t) (slice_set (clock_of t).stamps f (retag (stamp_at t.stamps i) ((stamp_at t.stamps i).tag + n))))
      ≡ held_after (tags_held t) turning
  pick_charged n d =
      ap (λ m. seen (moved_on (clock_of t) (slice_set (clock_of t).stamps f (retag (stamp_at t.stamps i) ((stamp_at t.stamps i).tag + m))))) d
      ∙ (ap (λ y. seen (moved_on (clock_of t) (slice_set (clock_of t).stamps f (charged y)))) pick_at
      ∙ (ap (λ o. seen (moved_on (clock_of t) (charge (clock_of t).stamps o))) e ∙ same_step (clock_of t) (held_ahead t) turning))
