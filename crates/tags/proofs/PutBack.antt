-- What calls leave in an array whose front is worked on apart and put back, or in an array of stamps less virtual time, and what
-- a question finds of no flow. These theorems stood when the code held such an array, and worked on a part of it or on the
-- whole. The code holds start tags and virtual time from a base now and cites none of them; a theorem that stood stays.
use Rattle.std.proofs.Common.{◌≡◌, ℕ, ◌*◌, ◌<◌, ◌≤◌, Bool, true, false, List, ◌++◌, length, map, get_or, take, drop, Some, None, Option, nat_lt, slice_set, refl, sym, ap, subst, ◌∙◌, arith, length-set}
use Rattle.std.specs.List.{AllByRecursion}
use Rattle.std.proofs.ByRecursion.{All-get_or}
use Rattle.std.proofs.lemmas.List.{get_or_past, get_or-map, ext_get_or, length-map, take-map}
use Rattle.std.proofs.lemmas.Bool.{ltb-false}
use Rattle.reference.specs.Calls.{Call, after}
use Rattle.reference.specs.Calls.Call.{turning, entering, leaving}
use Rattle.reference.specs.Flows.{sum}
use Rattle.reference.specs.Meaning.{SameNumbers}
use Rattle.reference.proofs.Calls.{after_sound, after_numbers}
use Rattle.reference.proofs.Fronts.{front_each, back_front, back_sized}
use Rattle.reference.proofs.Steps.{take_set}
use Rattle.tag_rule.specs.declared.stamp.Stamp.{Stamp}
use Rattle.tags.specs.declared.Tags.{Tags}
use Rattle.tag_rule.specs.Rule.{no_stamp, stamp_at, marked}
use Rattle.tag_rule.specs.Tags.{Tagged, with_lookahead, clock, held_after, stamp_of, weight_of, is_due, advance, later, settled, switching, Kept, KeptBelow, Sound, tags}
use Rattle.tags.specs.View.{tags_held}
use Rattle.tags.specs.Held.{front_at, seen_stamps, seen_sized, held_front, held_length, held_total, held_sound}
use Rattle.tags.proofs.Stored.{Stored}
use Rattle.tag_rule.proofs.Laws.{changed_sound, changed_numbers, flagged, switched_is, tags_lawful, picked_parts, stamp_kept, switch_past}

pub all_below : (p : ℕ) (ss : List Stamp) → AllByRecursion (Kept p) ss → KeptBelow p ss (length ss)
all_below p ss a k l = All-get_or (Kept p) ss k no_stamp l a

after_is : (h : Tagged) (x : Call) → after tags h x ≡ held_after h x
after_is h turning = refl
after_is h (entering f) = refl
after_is h (leaving f) = refl

-- After a call x, with the stamps ms that it leaves put back at the front of the array bs.
module _ (t : Tags) (x : Call) (bs ms : List Stamp) (z : length bs ≡ 16) (e : ms ≡ (held_after (tags_held t) x).stamps) where
  over_is : with_lookahead t.lookahead ms ≡ held_after (tags_held t) x
  over_is = ap (with_lookahead t.lookahead) e

  sounds : Sound (with_lookahead t.lookahead ms)
  sounds = subst Sound (after_is (tags_held t) x ∙ sym over_is) (after_sound tags tags_lawful (tags_held t) (held_sound t) x)

  numbers : SameNumbers tags (tags_held t) (with_lookahead t.lookahead ms)
  numbers =
      subst (SameNumbers tags (tags_held t)) (after_is (tags_held t) x ∙ sym over_is)
      (after_numbers tags tags_lawful (tags_held t) (held_sound t) x)

  long : length ms ≡ t.count
  long = numbers.flows ∙ held_length t

  front : take t.count (ms ++ drop t.count bs) ≡ ms
  front = back_front t.count ms bs t.few z long

  pub stored : Stored t (ms ++ drop t.count bs)
  stored =
      let l = back_sized t.count ms bs t.few z long in
      record {
        sized = l;
        kept =
            front_each (ms ++ drop t.count bs) t.count l t.few (Kept t.lookahead) no_stamp
            (subst (AllByRecursion (Kept t.lookahead)) (sym front) sounds.kept);
        on_time = ap advance front ∙ sounds.on_time;
        summed = held_total t ∙ sym numbers.total ∙ ap (sum weight_of) (sym front);
      }

  pub stored_holds : with_lookahead t.lookahead (take t.count (ms ++ drop t.count bs)) ≡ held_after (tags_held t) x
  stored_holds = ap (with_lookahead t.lookahead) front ∙ over_is

-- A flow that enters or leaves: first its due is set in the array as it is seen from virtual time, then virtual time settles.
module _ (b : Bool) (t : Tags) (f : ℕ) where
  abbrev pub switched : List Stamp
  switched = slice_set (seen_stamps t) f (flagged b (stamp_at (seen_stamps t) f))

  pub switched_sized : length switched ≡ 16
  switched_sized = length-set (seen_stamps t) f (flagged b (stamp_at (seen_stamps t) f)) ∙ seen_sized t

  pub switched_settled :
      f < t.count → settled (take t.count switched) ≡ (held_after (tags_held t) (switching b f)).stamps
  switched_settled l =
      let array = seen_stamps t in
      ap settled
      (take_set t.count array f (flagged b (stamp_at array f))
      ∙ (ap (λ s. slice_set (take t.count (seen_stamps t)) f (flagged b s)) (sym (front_at array t.count f l))
      ∙ ap (λ ss. slice_set ss f (flagged b (stamp_at ss f))) (held_front t)))
      ∙ ap (λ h. h.stamps) (sym (switched_is b (tags_held t) f))

  pub switched_outside : t.count ≤ f → tags_held t ≡ held_after (tags_held t) (switching b f)
  switched_outside l =
      sym (switched_is b (tags_held t) f ∙ switch_past b (tags_held t) f (held_sound t) (omega (arith, held_length t)))

-- Flow f is given the stamp y in that array, and all is seen from where virtual time moves on to: zs is the array then. (n and i
-- are the count and f, as numbers of another width.)
module _ (t : Tags) (f : ℕ) (y : Stamp) (zs : List Stamp) (n i d : ℕ)
    (share : y.weight ≡ (stamp_at (tags_held t).stamps f).weight) (k : Kept t.lookahead y)
    (e : n ≡ t.count) (q : i ≡ f) (moved : d ≡ advance (take n (slice_set (seen_stamps t) i y)))
    (made : zs ≡ map (later d) (slice_set (seen_stamps t) i y)) where
  put_front : take t.count zs ≡ settled (slice_set (tags_held t).stamps f y)
  put_front =
      let long = ap (λ m. take m (slice_set (seen_stamps t) i y)) e in
      let step : take t.count (slice_set (seen_stamps t) i y) ≡ slice_set (tags_held t).stamps f y
      = take_set t.count (seen_stamps t) i y
      ∙ (ap (λ ss. slice_set ss i y) (held_front t) ∙ ap (λ j. slice_set (tags_held t).stamps j y) q) in
      let time : d ≡ advance (slice_set (tags_held t).stamps f y) = moved ∙ ap advance (long ∙ step) in
      ap (take t.count) made
      ∙ (take-map (later d) t.count (slice_set (seen_stamps t) i y)
      ∙ (ap (map (later d)) step ∙ ap (λ m. map (later m) (slice_set (tags_held t).stamps f y)) time))

  pub put_stored : Stored t zs
  put_stored =
      let array = slice_set (seen_stamps t) i y in
      let z : length zs ≡ 16 = ap length made ∙ (length-map array (later d) ∙ (length-set (seen_stamps t) i y ∙ seen_sized t)) in
      let sounds = changed_sound t.lookahead (tags_held t).stamps f y share (held_sound t) (λ _. k) in
      let numbers = changed_numbers t.lookahead (tags_held t).stamps f y share in
      record {
        sized = z;
        kept = front_each zs t.count z t.few (Kept t.lookahead) no_stamp (subst (AllByRecursion (Kept t.lookahead)) (sym put_front) sounds.kept);
        on_time = ap advance put_front ∙ sounds.on_time;
        summed = held_total t ∙ sym numbers.total ∙ ap (sum weight_of) (sym put_front);
      }

  pub put_holds : with_lookahead t.lookahead (take t.count zs) ≡ with_lookahead t.lookahead (settled (slice_set (tags_held t).stamps f y))
  put_holds = ap (with_lookahead t.lookahead) put_front

-- the list ys of what f makes of each of xs
pub mapped :
    {A B : Type 0} (f : A → B) (xs : List A) (ys : List B) (d : A) (e : B)
    → length ys ≡ length xs → ((k : ℕ) → k < length xs → get_or ys k e ≡ f (get_or xs k d)) → ys ≡ map f xs
mapped f xs ys d e l same =
    ext_get_or e ys (map f xs) (l ∙ sym (length-map xs f))
    (λ k h. same k (omega arith) ∙ sym (get_or-map f xs k d e (omega arith)))

-- The flow f that a turn marks.
module _ (p : ℕ) (ss : List Stamp) (f : ℕ) (s : Sound (with_lookahead p ss)) (o : Option ℕ) (e : o ≡ marked (clock (with_lookahead p ss))) (q : o ≡ Some f) where
  pub marked_below : f < length ss
  marked_below = (picked_parts (with_lookahead p ss) f (sym e ∙ q)).0

  pub marked_weight : 1 ≤ (stamp_at ss f).weight
  marked_weight = (stamp_kept p ss f s.kept marked_below).0

  pub marked_tag : (stamp_at ss f).tag ≤ 16 * 720720
  marked_tag =
      let a = (picked_parts (with_lookahead p ss) f (sym e ∙ q)).2 in
      omega (arith, a, s.looks)

-- What a question finds of no flow.
module _ (t : Tags) (f : ℕ) where
  pub none_not_due : None ≡ stamp_of (tags_held t) f → (stamp_at (tags_held t).stamps f).due ≡ false
  none_not_due e = split (nat_lt f (length (tags_held t).stamps)) refl
    where
      split : (b : Bool) → nat_lt f (length (tags_held t).stamps) ≡ b → (stamp_at (tags_held t).stamps f).due ≡ false
      split true q =
          let g : None ≡ Some (stamp_at (tags_held t).stamps f) = rw q at e in
          let no : ◌≡◌ {A = ℕ} 0 1 = cc in
          absurd (omega arith)
      split false q = ap is_due (get_or_past (tags_held t).stamps f no_stamp (ltb-false _ _ q))
