-- What is told of a flow.
use Rattle.std.specs.Prelude.{◌≡◌, ℕ, ◌-◌, ◌*◌, ◌<◌, ◌≤◌, true, length, Some, nat_lt}
use Rattle.std.proofs.Common.{sym, ap, ◌∙◌, arith}
use Rattle.std.proofs.lemmas.Bool.{lt-ltb}
use Rattle.std.proofs.lemmas.Bool.Decides.{nat_tests}
use Rattle.reference.specs.Flows.{sum, others}
use Rattle.reference.specs.Meaning.{told}
use Rattle.reference.proofs.Totals.{sum_split}
use Rattle.round_robin_rule.specs.declared.quota.Quota.{Quota}
use Rattle.round_robin_rule.specs.Rule.{Robin, no_quota, quota_at, quota_of, weight_of, round_robin}

module _ (h : Robin) (f : ℕ) where
  quota_inside : (q : Quota) → Some q ≡ quota_of h f → f < length h.quotas
  quota_inside q e = grind (arith, nat_tests)

  quota_is : (q : Quota) → Some q ≡ quota_of h f → q ≡ quota_at h.quotas f
  quota_is q e = grind (arith, nat_tests)

  -- a weight is within the total, and what is left of it is the weight of the others
  pub weight_in_total : (q : Quota) → Some q ≡ quota_of h f → q.weight ≤ sum weight_of h.quotas
  weight_in_total q e =
      let w = ap weight_of (quota_is q e) in
      omega (arith, sum_split weight_of no_quota h.quotas f (quota_inside q e))

  pub allowance_told :
      (q : Quota) → Some q ≡ quota_of h f
      → told round_robin h f round_robin.allowance ≡ Some (2 * q.weight * (sum weight_of h.quotas - q.weight))
  allowance_told q e =
      let w = ap weight_of (quota_is q e) in
      let rest : others weight_of h.quotas f ≡ sum weight_of h.quotas - q.weight =
      omega (arith, sum_split weight_of no_quota h.quotas f (quota_inside q e)) in
      let inside : nat_lt f (length h.quotas) ≡ true = lt-ltb f (length h.quotas) (quota_inside q e) in
      rw inside (ap (λ n. Some (2 * n * (others weight_of h.quotas f))) (sym w) ∙ ap (λ n. Some (2 * q.weight * n)) rest)
