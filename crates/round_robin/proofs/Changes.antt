-- What the calls change: a place of the array, or each of them.
use Rattle.std.specs.Prelude.{◌≡◌, ℕ, ◌+◌, ◌*◌, ◌%◌, ◌<◌, ◌≤◌, ◌≢◌, Bool, true, List, ◌++◌, map, length, take, drop, set, None, Some, Option, IfSome, nat_lt, slice_set}
use Rattle.std.proofs.Common.{sym, ap, subst, ◌∙◌, ⊎_elim, arith}
use Rattle.std.proofs.Math.Nat.{mod-eq_of_lt}
use Rattle.std.proofs.lemmas.Nat.{mod-mul-add}
use Rattle.std.proofs.lemmas.List.{get_or-map, take-map, get_or-set_same, get_or-set_other, take_all, drop_all, append-nil}
use Rattle.std.proofs.lemmas.Bool.{cases_Bool, cases_eq, both_ways, and_parts, ltb-true}
use Rattle.reference.specs.Flows.{sum, some, around}
use Rattle.reference.proofs.Searches.{around_passes, some_none}
use Rattle.reference.proofs.Steps.{take_set}
use Rattle.reference.proofs.Totals.{sum_kept, sum_map}
use Rattle.round_robin_rule.specs.declared.quota.Quota.{Quota}
use Rattle.round_robin.specs.declared.RoundRobin.{RoundRobin}
use Rattle.round_robin_rule.specs.Rule.{Robin, pointing_at, no_quota, quota_at, weight_of, ready, switched, spent, unused, renewed, chosen, after_mark, after_turn, switch, Kept, KeptBelow}
use Rattle.round_robin.specs.View.{robin_held}
use Rattle.round_robin.specs.Held.{held_length, held_at}

-- A flow that enters or leaves, which changes one place of the array.

module _ (r : RoundRobin) (f : ℕ) (h : f < r.count) (q : Quota) where
  pub set_kept : Kept q → KeptBelow (slice_set r.quotas f q) r.count
  set_kept kept k l =
      ⊎_elim
      (λ e.
      let same : quota_at (slice_set r.quotas f q) k ≡ q =
      ap (quota_at (slice_set r.quotas f q)) e
      ∙ get_or-set_same r.quotas f q no_quota (omega (arith, r.sized, r.few)) in
      subst Kept (sym same) kept)
      (λ n. subst Kept (sym (get_or-set_other r.quotas f k q no_quota n)) (r.kept k l))
      (cases_eq k f)

  pub set_summed :
      q.weight ≡ (quota_at r.quotas f).weight
      → r.total ≡ sum weight_of (take r.count (slice_set r.quotas f q))
  set_summed e =
      r.summed
      ∙ sym
      (ap (sum weight_of) (take_set r.count r.quotas f q)
      ∙ sum_kept weight_of no_quota (take r.count r.quotas) f q (e ∙ ap weight_of (sym (held_at r f h))))

module _ (b : Bool) (r : RoundRobin) (f : ℕ) where
  pub switch_inside :
      f < r.count
      → pointing_at r.pointer (take r.count (slice_set r.quotas f (switched b (quota_at r.quotas f))))
      ≡ switch b (robin_held r) f
  switch_inside h =
      ap (pointing_at r.pointer)
      (take_set r.count r.quotas f (switched b (quota_at r.quotas f))
      ∙ ap (λ q. set (take r.count r.quotas) f (switched b q)) (sym (held_at r f h)))

-- The flow that a search finds.

pub found_below : (p : ℕ) (ms : List Quota) (f : ℕ) → Some f ≡ around ready p ms → f < length ms
found_below p ms f e = (around_passes ready no_quota p ms f (sym e)).0

pub found_inside :
    (r : RoundRobin) (o : Option ℕ) → o ≡ around ready r.pointer (take r.count r.quotas) → IfSome o (λ f. f < r.count)
found_inside r None e = tt
found_inside r (Some f) e = omega (arith, held_length r, found_below r.pointer (take r.count r.quotas) f e)

pub found_some : (p : ℕ) (ms : List Quota) (f : ℕ) → Some f ≡ around ready p ms → some ready ms ≡ true
found_some p ms f e =
    let found = around_passes ready no_quota p ms f (sym e) in
    ⊎_elim
    (λ a. a)
    (λ n. absurd (both_ways _ (some_none ready no_quota ms n f found.0) found.1))
    (cases_Bool (some ready ms))

-- The beginning of a round, which resets every place of the array.

module _ (r : RoundRobin) where
  pub reset_kept : KeptBelow (map unused r.quotas) r.count
  reset_kept k l =
      let q : quota_at (map unused r.quotas) k ≡ unused (quota_at r.quotas k) =
      get_or-map unused r.quotas k no_quota no_quota (omega (arith, r.sized, r.few)) in
      let kept = r.kept k l in
      subst Kept (sym q) (kept.0, kept.1, omega arith)

  pub reset_all :
      (ms : List Quota) (i : ℕ) → 16 ≤ i
      → ms ≡ map unused (take i r.quotas) ++ drop i r.quotas
      → ms ≡ map unused r.quotas
  reset_all ms i h e =
      let all = take_all i r.quotas (omega (arith, r.sized)) in
      let none = drop_all i r.quotas (omega (arith, r.sized)) in
      let end = append-nil (map unused r.quotas) in
      cc

  pub reset_front : take r.count (map unused r.quotas) ≡ map unused (take r.count r.quotas)
  reset_front = take-map unused r.count r.quotas

  pub reset_summed : r.total ≡ sum weight_of (take r.count (map unused r.quotas))
  reset_summed =
      r.summed ∙ sym (ap (sum weight_of) reset_front ∙ sum_map weight_of no_quota unused (take r.count r.quotas))

-- A mark of flow f, which a search found.

module _ (r : RoundRobin) (f : ℕ) (e : Some f ≡ around ready r.pointer (take r.count r.quotas)) where
  pub mark_inside : f < r.count
  mark_inside = omega (arith, held_length r, found_below r.pointer (take r.count r.quotas) f e)

  mark_used : (quota_at r.quotas f).used < (quota_at r.quotas f).weight
  mark_used =
      let q = quota_at r.quotas f in
      let ready_there : ready q ≡ true =
      ap ready (sym (held_at r f mark_inside))
      ∙ (around_passes ready no_quota r.pointer (take r.count r.quotas) f (sym e)).1 in
      ltb-true _ _ (and_parts q.due (nat_lt q.used q.weight) ready_there).1

  pub mark_kept : Kept (spent (quota_at r.quotas f))
  mark_kept = let kept = r.kept f mark_inside in (kept.0, kept.1, omega (arith, mark_used))

  -- the following flow, around
  pub next_around : f + 1 ≡ r.count → 0 ≡ (f + 1) % r.count
  next_around q =
      let one : 1 * r.count + 0 ≡ f + 1 = omega arith in
      sym (mod-mul-add 1 r.count 0 r.some) ∙ ap (λ n. n % r.count) one

  pub next_above : f + 1 ≢ r.count → f + 1 ≡ (f + 1) % r.count
  next_above n = let l : f + 1 < r.count = omega (arith, mark_inside) in sym (mod-eq_of_lt l)

  pub mark_held :
      (i : ℕ) → i ≡ (f + 1) % r.count
      → pointing_at i (take r.count (slice_set r.quotas f (spent (quota_at r.quotas f))))
      ≡ after_mark (take r.count r.quotas) r.pointer (Some f)
  mark_held i q =
      let front = take_set r.count r.quotas f (spent (quota_at r.quotas f)) in
      let at = held_at r f mark_inside in
      let long = held_length r in
      cc

-- A turn: what is held once a round has begun, if one does, is k.

module _ (h k : Robin) (e : k ≡ pointing_at h.pointer (renewed h.quotas)) where
  pub turn_marks : around ready k.pointer k.quotas ≡ chosen h
  turn_marks = ap (λ k. around ready k.pointer k.quotas) e

  pub turn_leaves : after_mark k.quotas k.pointer (around ready k.pointer k.quotas) ≡ after_turn h
  turn_leaves = ap (λ k. after_mark k.quotas k.pointer (around ready k.pointer k.quotas)) e
