-- The quotas of the flows, and what the beginning of a round leaves of them.
use Rattle.std.specs.Prelude.{◌≡◌, ℕ, ◌<◌, ◌≤◌, true, false, not, ◌&&◌, List, map, length, refl}
use Rattle.std.proofs.Common.{sym, ap, subst, ◌∙◌, ⊎_elim, arith}
use Rattle.std.specs.List.{AllByRecursion}
use Rattle.std.proofs.ByRecursion.{All-get_or, All-map, All-weaker}
use Rattle.std.proofs.lemmas.List.{get_or_past, length-map}
use Rattle.std.proofs.lemmas.Bool.{cases_lt, cases_Bool, and_parts, not-true}
use Rattle.reference.specs.Flows.{sum, others, some}
use Rattle.reference.proofs.Fields.{part_map}
use Rattle.reference.proofs.Totals.{sum_map, others_map, others_le}
use Rattle.round_robin_rule.specs.declared.quota.Quota.{Quota}
use Rattle.round_robin_rule.specs.Rule.{no_quota, quota_at, weight_of, used_of, is_due, ready, unused, renewed, Kept}

-- Quotas that are kept.

pub quota_kept : (qs : List Quota) (f : ℕ) → AllByRecursion Kept qs → f < length qs → Kept (quota_at qs f)
quota_kept qs f a h = All-get_or Kept qs f no_quota h a

pub used_le : (qs : List Quota) (f : ℕ) → AllByRecursion Kept qs → others used_of qs f ≤ others weight_of qs f
used_le qs f a = others_le used_of weight_of qs f (All-weaker Kept (λ q. q.used ≤ q.weight) (λ q k. k.2) qs a)

-- only a flow is due
pub due_inside : (qs : List Quota) (f : ℕ) → (quota_at qs f).due ≡ true → f < length qs
due_inside qs f e =
    ⊎_elim
    (λ h. h)
    (λ h.
    let none : quota_at qs f ≡ no_quota = get_or_past qs f no_quota h in
    let no : false ≡ true = sym (ap is_due none) ∙ e in
    let no : ◌≡◌ {A = ℕ} 0 1 = cc in
    absurd (omega arith))
    (cases_lt f (length qs))

-- Where a round begins and where none does: what holds in both cases holds.

module _ (qs : List Quota) where
  pub renewed_cases :
      (P : List Quota → Type 0)
      → (some is_due qs ≡ true → some ready qs ≡ false → P (map unused qs))
      → P qs
      → P (renewed qs)
  renewed_cases P a b =
      ⊎_elim
      (λ (e : (some is_due qs && not (some ready qs)) ≡ true).
      let q = and_parts (some is_due qs) (not (some ready qs)) e in
      let r : map unused qs ≡ renewed qs = rw e in
      subst P r (a q.0 (not-true (some ready qs) q.1)))
      (λ (e : (some is_due qs && not (some ready qs)) ≡ false).
      let r : qs ≡ renewed qs = rw e in
      subst P r b)
      (cases_Bool (some is_due qs && not (some ready qs)))

  pub renewed_anew : some is_due qs ≡ true → some ready qs ≡ false → renewed qs ≡ map unused qs
  renewed_anew d n = rw (d, n)

  pub renewed_none_due : some is_due qs ≡ false → renewed qs ≡ qs
  renewed_none_due d = rw d

  pub renewed_some_ready : some ready qs ≡ true → renewed qs ≡ qs
  renewed_some_ready n =
      ⊎_elim
      (λ (d : some is_due qs ≡ true). rw (d, n))
      renewed_none_due
      (cases_Bool (some is_due qs))

  pub renewed_length : length (renewed qs) ≡ length qs
  renewed_length = renewed_cases (λ m. length m ≡ length qs) (λ _ _. simp length-map) refl

  pub renewed_kept : AllByRecursion Kept qs → AllByRecursion Kept (renewed qs)
  renewed_kept a =
      renewed_cases (AllByRecursion Kept)
      (λ _ _. All-map Kept unused qs (All-weaker Kept (λ q. Kept (unused q)) (λ q k. (k.0, k.1, omega arith)) qs a))
      a

  -- a part that no reset alters
  pub renewed_part :
      {B : Type 0} (t : Quota → B)
      → ((q : Quota) → t (unused q) ≡ t q)
      → (k : ℕ) → t (quota_at (renewed qs) k) ≡ t (quota_at qs k)
  renewed_part t same k =
      renewed_cases (λ m. t (quota_at m k) ≡ t (quota_at qs k)) (λ _ _. part_map t no_quota qs unused same k) refl

  pub renewed_others : (k : ℕ) → others weight_of (renewed qs) k ≡ others weight_of qs k
  renewed_others k =
      renewed_cases (λ m. others weight_of m k ≡ others weight_of qs k)
      (λ _ _. others_map weight_of no_quota unused qs k)
      refl

  pub renewed_sum : sum weight_of (renewed qs) ≡ sum weight_of qs
  renewed_sum =
      renewed_cases (λ m. sum weight_of m ≡ sum weight_of qs) (λ _ _. sum_map weight_of no_quota unused qs) refl
