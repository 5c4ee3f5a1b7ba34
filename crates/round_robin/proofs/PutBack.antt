-- What a turn leaves in an array whose front is worked on apart and put back, what is told of a flow, and a call that
-- names no flow. These theorems stood when the code worked on a part of the array and put it back. The code works in
-- place now and cites none of them; a theorem that stood stays.
use Rattle.std.proofs.Common.{◌≡◌, ℕ, ◌<◌, ◌≤◌, Bool, false, List, ◌++◌, length, take, drop, Some, None, sym, ap, subst, ◌∙◌, arith}
use Rattle.std.specs.List.{AllByRecursion}
use Rattle.std.proofs.lemmas.Bool.{lt-ltb}
use Rattle.std.proofs.lemmas.Bool.Decides.{nat_tests}
use Rattle.std.proofs.lemmas.List.{get_or_past}
use Rattle.reference.specs.Flows.{sum, around}
use Rattle.reference.specs.Meaning.{SameNumbers}
use Rattle.reference.proofs.Fronts.{front_each, back_front, back_sized}
use Rattle.round_robin_rule.specs.declared.quota.Quota.{Quota}
use Rattle.round_robin.specs.declared.RoundRobin.{RoundRobin}
use Rattle.round_robin_rule.specs.Rule.{Robin, pointing_at, no_quota, quota_at, quota_of, weight_of, is_due, ready, renewed, after_turn, switch, Kept, KeptBelow, Sound, round_robin}
use Rattle.round_robin.specs.View.{robin_held}
use Rattle.round_robin_rule.proofs.Rounds.{quota_kept, renewed_kept}
use Rattle.round_robin_rule.proofs.Laws.{robin_lawful, switch_past}
use Rattle.round_robin.specs.Held.{held_length, held_sound, held_at}
use Rattle.round_robin.proofs.Changes.{found_below}

-- A turn, whose quotas ms and pointer p are put back into the array.

module _ (r : RoundRobin) (ms : List Quota) (p : ℕ) (e : pointing_at p ms ≡ after_turn (robin_held r)) where
  turn_sound : Sound (pointing_at p ms)
  turn_sound = subst Sound (sym e) (robin_lawful.turn_sound (robin_held r) (held_sound r))

  turn_numbers : SameNumbers round_robin (robin_held r) (pointing_at p ms)
  turn_numbers =
      subst (SameNumbers round_robin (robin_held r)) (sym e)
      (robin_lawful.turn_keeps_numbers (robin_held r) (held_sound r))

  turn_length : length ms ≡ r.count
  turn_length = turn_numbers.flows ∙ held_length r

  turn_front : take r.count (ms ++ drop r.count r.quotas) ≡ ms
  turn_front = back_front r.count ms r.quotas r.few r.sized turn_length

  pub turn_sized : length (ms ++ drop r.count r.quotas) ≡ 16
  turn_sized = back_sized r.count ms r.quotas r.few r.sized turn_length

  pub turn_points : p < r.count
  turn_points = omega (arith, turn_length, turn_sound.points)

  pub turn_kept : KeptBelow (ms ++ drop r.count r.quotas) r.count
  turn_kept =
      front_each (ms ++ drop r.count r.quotas) r.count turn_sized r.few Kept no_quota
      (subst (AllByRecursion Kept) (sym turn_front) turn_sound.kept)

  pub turn_summed : r.total ≡ sum weight_of (take r.count (ms ++ drop r.count r.quotas))
  turn_summed = r.summed ∙ sym (ap (sum weight_of) turn_front ∙ turn_numbers.total)

  pub turn_held : pointing_at p (take r.count (ms ++ drop r.count r.quotas)) ≡ after_turn (robin_held r)
  turn_held = ap (pointing_at p) turn_front ∙ e

-- The flow that a search finds.

pub found_used :
    (h : Robin) (ms : List Quota) (f : ℕ)
    → Sound h
    → ms ≡ renewed h.quotas
    → Some f ≡ around ready h.pointer ms
    → (quota_at ms f).used ≤ 16
found_used h ms f s q e =
    let k =
    quota_kept ms f (subst (AllByRecursion Kept) (sym q) (renewed_kept h.quotas s.kept)) (found_below h.pointer ms f e) in
    omega (arith, k.1, k.2)

-- What is told of a flow, and a call that names none.

module _ (r : RoundRobin) where
  pub quota_found : (f : ℕ) → f < r.count → quota_of (robin_held r) f ≡ Some (quota_at r.quotas f)
  quota_found f h = rw (lt-ltb f (length (take r.count r.quotas)) (omega (arith, held_length r)), held_at r f h)

module _ (h : Robin) (f : ℕ) where
  pub none_not_due : None ≡ quota_of h f → (quota_at h.quotas f).due ≡ false
  none_not_due e =
      let outside : length h.quotas ≤ f = grind (arith, nat_tests) in ap is_due (get_or_past h.quotas f no_quota outside)

module _ (b : Bool) (r : RoundRobin) (f : ℕ) where
  pub switch_outside : r.count ≤ f → robin_held r ≡ switch b (robin_held r) f
  switch_outside h = sym (switch_past b (robin_held r) f (omega (arith, held_length r)))
