-- What the beginning of a round and a mark do to the arrears.
use Rattle.std.specs.Prelude.{◌≡◌, ℕ, zero, suc, ◌+◌, ◌-◌, ◌*◌, ◌<◌, ◌≤◌, true, false, ◌≢◌, List, [], ◌∷◌, map, length, nat_lt, slice_set, refl}
use Rattle.std.proofs.Common.{sym, ap, ◌∙◌, arith, mul-add, mul_comm, mul_assoc, mul-le-mul_left}
use Rattle.std.specs.List.{AllByRecursion}
use Rattle.std.proofs.lemmas.List.{get_or-set_same, get_or-set_other, get_or-map}
use Rattle.std.proofs.lemmas.Bool.{ltb-false}
use Rattle.reference.specs.Flows.{sum, others}
use Rattle.reference.specs.Meaning.{whole}
use Rattle.reference.proofs.Fields.{part_map}
use Rattle.reference.proofs.Searches.{some_none}
use Rattle.reference.proofs.Totals.{others_set_same, others_set, others_map}
use Rattle.round_robin_rule.specs.declared.quota.Quota.{Quota}
use Rattle.round_robin_rule.specs.Rule.{no_quota, quota_at, weight_of, used_of, ready, spent, unused, renewed, arrears, Kept}
use Rattle.round_robin_rule.proofs.Rounds.{used_le, due_inside, renewed_cases}

-- Numbers: of a flow of weight r that has used u, where the others have weight w and have used o.

pub within : (r u w o : ℕ) → o ≤ w → whole * (r * o + w * (r - u)) ≤ whole * (2 * r * w)
within r u w o h =
    let a : r * o ≤ r * w = mul-le-mul_left r h in
    let b : w * (r - u) ≤ w * r = mul-le-mul_left w (omega arith) in
    let c : w * r ≡ r * w = mul_comm w r in
    let e : 2 * r * w ≡ 2 * (r * w) = mul_assoc 2 r w in
    omega arith

one_more : (r o w v : ℕ) → whole * (r * o + w * v) + whole * r ≤ whole * (r * (o + 1) + w * v)
one_more r o w v = let a : r * (o + 1) ≡ r * o + r * 1 = mul-add r o 1 in omega arith

one_less : (r u o w : ℕ) → u < r → whole * (r * o + w * (r - u)) ≤ whole * (r * o + w * (r - (u + 1))) + whole * w
one_less r u o w h =
    let q : r - u ≡ (r - (u + 1)) + 1 = omega arith in
    let a : w * (r - u) ≡ w * (r - (u + 1)) + w * 1 = ap (λ n. w * n) q ∙ mul-add w (r - (u + 1)) 1 in
    omega arith

anew : (r u o w : ℕ) → r ≤ u → o ≤ w → whole * (r * o + w * (r - u)) ≤ whole * (r * 0 + w * (r - 0))
anew r u o w h k =
    let a : r * o ≤ r * w = mul-le-mul_left r k in
    let q : r - u ≡ 0 = omega arith in
    let b : w * (r - u) ≡ w * 0 = ap (λ n. w * n) q in
    let s : r - 0 ≡ r = omega arith in
    let c : w * (r - 0) ≡ r * w = ap (λ n. w * n) s ∙ mul_comm w r in
    omega arith

zero_sum : {A : Type 0} (xs : List A) → sum (λ (x : A). 0) xs ≡ 0
zero_sum [] = refl
zero_sum (x ∷ xs) = omega (arith, zero_sum xs)

zero_others : {A : Type 0} (xs : List A) (f : ℕ) → others (λ (x : A). 0) xs f ≡ 0
zero_others [] f = refl
zero_others (x ∷ xs) zero = zero_sum xs
zero_others (x ∷ xs) (suc f) = omega (arith, zero_others xs f)

-- The beginning of a round lowers no due flow's arrears.

pub renewed_arrears :
    (qs : List Quota) (k : ℕ) → AllByRecursion Kept qs → (quota_at qs k).due ≡ true → arrears qs k ≤ arrears (renewed qs) k
renewed_arrears qs k a e =
    renewed_cases qs (λ m. arrears qs k ≤ arrears m k)
    (λ _ none.
    let i : k < length qs = due_inside qs k e in
    let x : ready (quota_at qs k) ≡ false = some_none ready no_quota qs none k i in
    let z : nat_lt (quota_at qs k).used (quota_at qs k).weight ≡ false = rw e at x in
    let e1 : (quota_at (map unused qs) k).weight ≡ (quota_at qs k).weight =
    part_map weight_of no_quota qs unused (λ _. refl) k in
    let e2 : others weight_of (map unused qs) k ≡ others weight_of qs k = others_map weight_of no_quota unused qs k in
    let e3 : (quota_at (map unused qs) k).used ≡ 0 = ap used_of (get_or-map unused qs k no_quota no_quota i) in
    let e4 : others used_of (map unused qs) k ≡ 0 = others_map used_of no_quota unused qs k ∙ zero_others qs k in
    rw (e1, e2, e3, e4)
    (anew (quota_at qs k).weight (quota_at qs k).used (others used_of qs k) (others weight_of qs k) (ltb-false _ _ z)
    (used_le qs k a)))
    (omega arith)

-- A mark of flow f.

module _ (qs : List Quota) (f : ℕ) (i : f < length qs) where
  pub spent_raises :
      (g : ℕ) → f ≢ g
      → arrears qs g + whole * (quota_at qs g).weight ≤ arrears (slice_set qs f (spent (quota_at qs f))) g
  spent_raises g n =
      let e : quota_at (slice_set qs f (spent (quota_at qs f))) g ≡ quota_at qs g =
      get_or-set_other qs f g (spent (quota_at qs f)) no_quota (λ e. n (sym e)) in
      let o : others used_of (slice_set qs f (spent (quota_at qs f))) g ≡ others used_of qs g + 1 =
      omega (arith, others_set used_of no_quota qs f g (spent (quota_at qs f)) i n) in
      let w : others weight_of (slice_set qs f (spent (quota_at qs f))) g ≡ others weight_of qs g =
      omega (arith, others_set weight_of no_quota qs f g (spent (quota_at qs f)) i n) in
      rw (e, o, w)
      (one_more (quota_at qs g).weight (others used_of qs g) (others weight_of qs g)
      ((quota_at qs g).weight - (quota_at qs g).used))

  pub spent_lowers :
      (quota_at qs f).used < (quota_at qs f).weight
      → arrears qs f ≤ arrears (slice_set qs f (spent (quota_at qs f))) f + whole * others weight_of qs f
  spent_lowers h =
      let e : quota_at (slice_set qs f (spent (quota_at qs f))) f ≡ spent (quota_at qs f) =
      get_or-set_same qs f (spent (quota_at qs f)) no_quota i in
      let o : others used_of (slice_set qs f (spent (quota_at qs f))) f ≡ others used_of qs f =
      others_set_same used_of no_quota qs f (spent (quota_at qs f)) in
      let w : others weight_of (slice_set qs f (spent (quota_at qs f))) f ≡ others weight_of qs f =
      others_set_same weight_of no_quota qs f (spent (quota_at qs f)) in
      rw (e, o, w)
      (one_less (quota_at qs f).weight (quota_at qs f).used (others used_of qs f) (others weight_of qs f) h)
