-- Round robin keeps the laws of a reference.
use Rattle.std.specs.Prelude.{◌≡◌, ℕ, ◌+◌, ◌-◌, ◌*◌, ◌<◌, ◌≤◌, Bool, true, false, not, ◌&&◌, ltb, ◌≢◌, List, map, length, Some, None, Option, nat_lt, slice_set, refl}
use Rattle.std.proofs.Common.{sym, ap, subst, ◌∙◌, ⊎_elim, arith, length-set}
use Rattle.std.specs.List.{AllByRecursion}
use Rattle.std.proofs.ByRecursion.{All-set}
use Rattle.std.proofs.Math.Nat.{le_of_eq}
use Rattle.std.proofs.lemmas.List.Recursion.{or_from_places}
use Rattle.std.proofs.lemmas.List.{get_or-set_same, get_or-set_other, get_or-map, get_or_past, set_past, set-get_or, length-map}
use Rattle.std.proofs.lemmas.Bool.{cases_lt, cases_Bool, and_parts, and_cases, not-false, ltb-true, lt-ltb, both_ways}
use Rattle.reference.specs.Flows.{sum, others, some, around}
use Rattle.reference.specs.Meaning.{Lawful, SameNumbers, whole}
use Rattle.reference.proofs.Fields.{part_set}
use Rattle.reference.proofs.Searches.{around_passes, around_none, some_none}
use Rattle.reference.proofs.Totals.{sum_split, sum_below_is, sum_kept, others_kept}
use Rattle.round_robin_rule.specs.declared.quota.Quota.{Quota}
use Rattle.round_robin_rule.specs.Rule.{
  Robin,
  pointing_at,
  no_quota,
  quota_at,
  weight_of,
  used_of,
  is_due,
  ready,
  spent,
  unused,
  switched,
  renewed,
  chosen,
  after_mark,
  after_turn,
  switch,
  arrears,
  Kept,
  Sound,
  round_robin,
}
use Rattle.round_robin_rule.proofs.Rounds.{quota_kept, used_le, due_inside, renewed_length, renewed_kept, renewed_part, renewed_others, renewed_sum}
use Rattle.round_robin_rule.proofs.Arrears.{within, renewed_arrears, spent_raises, spent_lowers}

-- Entering and leaving.

module _ (b : Bool) (h : Robin) (f : ℕ) where
  switch_weight : (k : ℕ) → (quota_at (switch b h f).quotas k).weight ≡ (quota_at h.quotas k).weight
  switch_weight k = part_set weight_of no_quota h.quotas f (switched b (quota_at h.quotas f)) refl k

  switch_others_weight : (k : ℕ) → others weight_of (switch b h f).quotas k ≡ others weight_of h.quotas k
  switch_others_weight k = others_kept weight_of no_quota h.quotas f (switched b (quota_at h.quotas f)) refl k

  switch_numbers : SameNumbers round_robin h (switch b h f)
  switch_numbers =
      record {
        flows = length-set h.quotas f (switched b (quota_at h.quotas f));
        weight = switch_weight;
        allowance =
            λ k.
            ap (λ r. 2 * r * others weight_of (switch b h f).quotas k) (switch_weight k)
            ∙ ap (λ w. 2 * (quota_at h.quotas k).weight * w) (switch_others_weight k);
        total = sum_kept weight_of no_quota h.quotas f (switched b (quota_at h.quotas f)) refl;
      }

  switch_arrears : (k : ℕ) → arrears (switch b h f).quotas k ≡ arrears h.quotas k
  switch_arrears k =
      let q = switched b (quota_at h.quotas f) in
      let u : (quota_at (switch b h f).quotas k).used ≡ (quota_at h.quotas k).used =
      part_set used_of no_quota h.quotas f q refl k in
      let o : others used_of (switch b h f).quotas k ≡ others used_of h.quotas k =
      others_kept used_of no_quota h.quotas f q refl k in
      rw (switch_weight k, switch_others_weight k, u, o)

  switch_sound : Sound h → Sound (switch b h f)
  switch_sound s =
      let q = switched b (quota_at h.quotas f) in
      let e = length-set h.quotas f q in
      record {
        some_flows = omega (arith, e, s.some_flows);
        few_flows = omega (arith, e, s.few_flows);
        points = omega (arith, e, s.points);
        kept =
            ⊎_elim
            (λ l. All-set Kept h.quotas f q (quota_kept h.quotas f s.kept l) s.kept)
            (λ l. subst (AllByRecursion Kept) (sym (set_past h.quotas f q l)) s.kept)
            (cases_lt f (length h.quotas));
      }

  switch_others_due : (k : ℕ) → f ≢ k → (quota_at (switch b h f).quotas k).due ≡ (quota_at h.quotas k).due
  switch_others_due k n =
      ap is_due (get_or-set_other h.quotas f k (switched b (quota_at h.quotas f)) no_quota (λ e. n (sym e)))

  switch_due : f < length h.quotas → (quota_at (switch b h f).quotas f).due ≡ b
  switch_due l = ap is_due (get_or-set_same h.quotas f (switched b (quota_at h.quotas f)) no_quota l)

  switch_again : (quota_at h.quotas f).due ≡ b → switch b h f ≡ h
  switch_again e =
      let q : switched b (quota_at h.quotas f) ≡ quota_at h.quotas f =
      ap (λ c. switched c (quota_at h.quotas f)) (sym e) in
      ap (pointing_at h.pointer) (ap (slice_set h.quotas f) q ∙ set-get_or h.quotas f no_quota)

  pub switch_past : length h.quotas ≤ f → switch b h f ≡ h
  switch_past l = ap (pointing_at h.pointer) (set_past h.quotas f (switched b (quota_at h.quotas f)) l)

-- A turn.

module _ (h : Robin) where
  marked_ready :
      (f : ℕ) → chosen h ≡ Some f
      → (f < length (renewed h.quotas)) × (ready (quota_at (renewed h.quotas) f) ≡ true)
  marked_ready f e = around_passes ready no_quota h.pointer (renewed h.quotas) f e

  marked_parts :
      (f : ℕ) → chosen h ≡ Some f
      → ((quota_at (renewed h.quotas) f).due ≡ true)
      × ((quota_at (renewed h.quotas) f).used < (quota_at (renewed h.quotas) f).weight)
  marked_parts f e =
      let q = quota_at (renewed h.quotas) f in
      let p = and_parts q.due (nat_lt q.used q.weight) (marked_ready f e).1 in
      (p.0, ltb-true _ _ p.1)

  marked_due : (f : ℕ) → chosen h ≡ Some f → (quota_at h.quotas f).due ≡ true
  marked_due f e = sym (renewed_part h.quotas is_due (λ _. refl) f) ∙ (marked_parts f e).0

  -- what holds after a turn without a mark, and after one with a mark, holds after a turn
  turned_cases :
      (P : Robin → Type 0)
      → P (pointing_at h.pointer (renewed h.quotas))
      → ((f : ℕ) → chosen h ≡ Some f → P (after_mark (renewed h.quotas) h.pointer (Some f)))
      → P (after_turn h)
  turned_cases P a b = split (chosen h) refl
    where
      split : (o : Option ℕ) → chosen h ≡ o → P (after_mark (renewed h.quotas) h.pointer o)
      split None e = a
      split (Some f) e = b f e

  -- a part that no turn alters
  turned_part :
      {B : Type 0} (t : Quota → B)
      → ((q : Quota) → t (unused q) ≡ t q)
      → ((q : Quota) → t (spent q) ≡ t q)
      → (k : ℕ) → t (quota_at (after_turn h).quotas k) ≡ t (quota_at h.quotas k)
  turned_part t u s k =
      turned_cases (λ r. t (quota_at r.quotas k) ≡ t (quota_at h.quotas k))
      (renewed_part h.quotas t u k)
      (λ f _.
      part_set t no_quota (renewed h.quotas) f (spent (quota_at (renewed h.quotas) f)) (s _) k
      ∙ renewed_part h.quotas t u k)

  turned_length : length (after_turn h).quotas ≡ length h.quotas
  turned_length =
      turned_cases (λ r. length r.quotas ≡ length h.quotas)
      (renewed_length h.quotas)
      (λ f _.
      length-set (renewed h.quotas) f (spent (quota_at (renewed h.quotas) f)) ∙ renewed_length h.quotas)

  turned_others : (k : ℕ) → others weight_of (after_turn h).quotas k ≡ others weight_of h.quotas k
  turned_others k =
      turned_cases (λ r. others weight_of r.quotas k ≡ others weight_of h.quotas k)
      (renewed_others h.quotas k)
      (λ f _.
      others_kept weight_of no_quota (renewed h.quotas) f (spent (quota_at (renewed h.quotas) f)) refl k
      ∙ renewed_others h.quotas k)

  turned_sum : sum weight_of (after_turn h).quotas ≡ sum weight_of h.quotas
  turned_sum =
      turned_cases (λ r. sum weight_of r.quotas ≡ sum weight_of h.quotas)
      (renewed_sum h.quotas)
      (λ f _.
      sum_kept weight_of no_quota (renewed h.quotas) f (spent (quota_at (renewed h.quotas) f)) refl
      ∙ renewed_sum h.quotas)

  turned_numbers : SameNumbers round_robin h (after_turn h)
  turned_numbers =
      let w = turned_part weight_of (λ _. refl) (λ _. refl) in
      record {
        flows = turned_length;
        weight = w;
        allowance =
            λ k.
            ap (λ r. 2 * r * others weight_of (after_turn h).quotas k) (w k)
            ∙ ap (λ w. 2 * (quota_at h.quotas k).weight * w) (turned_others k);
        total = turned_sum;
      }

  turned_sound : Sound h → Sound (after_turn h)
  turned_sound s =
      let qs = renewed h.quotas in
      let kept = renewed_kept h.quotas s.kept in
      let e = renewed_length h.quotas in
      turned_cases Sound
      (record {
        some_flows = omega (arith, e, s.some_flows);
        few_flows = omega (arith, e, s.few_flows);
        points = omega (arith, e, s.points);
        kept = kept;
      })
      (λ f m.
      let l = length-set qs f (spent (quota_at qs f)) in
      let k = quota_kept qs f kept (marked_ready f m).0 in
      record {
        some_flows = omega (arith, e, l, s.some_flows);
        few_flows = omega (arith, e, l, s.few_flows);
        points = omega (arith, e, l, s.some_flows);
        kept = All-set Kept qs f (spent (quota_at qs f)) (k.0, k.1, omega (arith, (marked_parts f m).1)) kept;
      })

-- The arrears after a turn: a round that begins, if one does, then a mark.

raises : (a b c q r : ℕ) → a ≤ b → b + whole * q ≤ c → q ≡ r → a + whole * r ≤ c
raises a b c q r h k e = omega arith

lowers : (a b c w v : ℕ) → a ≤ b → b ≤ c + whole * w → w ≡ v → a ≤ c + whole * v
lowers a b c w v h k e = omega arith

module _ (h : Robin) (s : Sound h) (f : ℕ) (m : chosen h ≡ Some f) where
  turned_raises :
      (g : ℕ) → f ≢ g
      → (quota_at h.quotas g).due ≡ true
      → arrears h.quotas g + whole * (quota_at h.quotas g).weight ≤ arrears (after_turn h).quotas g
  turned_raises g n d =
      subst
      (λ o.
      arrears h.quotas g + whole * (quota_at h.quotas g).weight
      ≤ arrears (after_mark (renewed h.quotas) h.pointer o).quotas g)
      (sym m)
      (raises _ _ _ _ _
      (renewed_arrears h.quotas g s.kept d)
      (spent_raises (renewed h.quotas) f (marked_ready h f m).0 g n)
      (renewed_part h.quotas weight_of (λ _. refl) g))

  rest_of_total : others weight_of h.quotas f ≡ sum weight_of h.quotas - (quota_at h.quotas f).weight
  rest_of_total =
      omega (arith, sum_split weight_of no_quota h.quotas f (due_inside h.quotas f (marked_due h f m)))

  turned_lowers :
      arrears h.quotas f
      ≤ arrears (after_turn h).quotas f + whole * (sum weight_of h.quotas - (quota_at h.quotas f).weight)
  turned_lowers =
      subst
      (λ o.
      arrears h.quotas f
      ≤ arrears (after_mark (renewed h.quotas) h.pointer o).quotas f
      + whole * (sum weight_of h.quotas - (quota_at h.quotas f).weight))
      (sym m)
      (lowers _ _ _ _ _
      (renewed_arrears h.quotas f s.kept (marked_due h f m))
      (spent_lowers (renewed h.quotas) f (marked_ready h f m).0 (marked_parts h f m).1)
      (renewed_others h.quotas f ∙ rest_of_total))

-- A turn marks nobody exactly where nobody is due.

not_both : {P : Type 0} (x : Bool) → x ≡ false → x ≡ true → P
not_both x p q = absurd (both_ways x p q)

all_not_due :
    (qs : List Quota) (f : ℕ) → ((k : ℕ) → k < length qs → (quota_at qs k).due ≡ false) → (quota_at qs f).due ≡ false
all_not_due qs f h = ⊎_elim (h f) (λ l. ap is_due (get_or_past qs f no_quota l)) (cases_lt f (length qs))

module _ (h : Robin) where
  none_due_anew :
      Sound h → chosen h ≡ None
      → (some is_due h.quotas && not (some ready h.quotas)) ≡ true
      → (k : ℕ) → k < length h.quotas → (quota_at h.quotas k).due ≡ false
  none_due_anew s m e k l =
      let q = quota_at h.quotas k in
      let r : renewed h.quotas ≡ map unused h.quotas = rw e in
      let n : ready (quota_at (map unused h.quotas) k) ≡ false =
      around_none ready no_quota h.pointer (map unused h.quotas) (ap (around ready h.pointer) (sym r) ∙ m) k
      (simp length-map l) in
      let t : ready (unused (quota_at h.quotas k)) ≡ false =
      ap ready (sym (get_or-map unused h.quotas k no_quota no_quota l)) ∙ n in
      let w : ltb 0 q.weight ≡ true = lt-ltb _ _ (quota_kept h.quotas k s.kept l).0 in
      ⊎_elim (λ x. x) (λ y. not_both (nat_lt 0 q.weight) y w) (and_cases q.due (nat_lt 0 q.weight) t)

  none_due_as_is :
      chosen h ≡ None
      → (some is_due h.quotas && not (some ready h.quotas)) ≡ false
      → (k : ℕ) → k < length h.quotas → (quota_at h.quotas k).due ≡ false
  none_due_as_is m e =
      let r : renewed h.quotas ≡ h.quotas = rw e in
      let n : some ready h.quotas ≡ false =
      or_from_places (some ready) ready refl (λ _ _. refl) h.quotas no_quota
      (around_none ready no_quota h.pointer h.quotas (ap (around ready h.pointer) (sym r) ∙ m)) in
      ⊎_elim
      (λ x. some_none is_due no_quota h.quotas x)
      (λ y. not_both (some ready h.quotas) n (not-false (some ready h.quotas) y))
      (and_cases (some is_due h.quotas) (not (some ready h.quotas)) e)

  none_marked : Sound h → chosen h ≡ None → (f : ℕ) → (quota_at h.quotas f).due ≡ false
  none_marked s m f =
      all_not_due h.quotas f
      (⊎_elim (none_due_anew s m) (none_due_as_is m)
      (cases_Bool (some is_due h.quotas && not (some ready h.quotas))))

  none_due : ((f : ℕ) → (quota_at h.quotas f).due ≡ false) → chosen h ≡ None
  none_due none = split (chosen h) refl
    where
      split : (o : Option ℕ) → chosen h ≡ o → chosen h ≡ None
      split None e = e
      split (Some f) e = not_both (quota_at h.quotas f).due (none f) (marked_due h f e)

-- All laws.

same_le : (a b : ℕ) → a ≡ b → b ≤ a
same_le a b e = le_of_eq (sym e)

pub robin_lawful : Lawful round_robin
robin_lawful =
    record {
      enter_sound = switch_sound true;
      leave_sound = switch_sound false;
      turn_sound = turned_sound;
      one_to_sixteen_flows = λ h s. (s.some_flows, s.few_flows);
      weight_at_least_one = λ h f s l. (quota_kept h.quotas f s.kept l).0;
      total_covers_weights = λ h s. same_le _ _ (sym (sum_below_is weight_of no_quota h.quotas));
      enter_keeps_numbers = λ h f _. switch_numbers true h f;
      leave_keeps_numbers = λ h f _. switch_numbers false h f;
      turn_keeps_numbers = λ h _. turned_numbers h;
      only_flows_are_due = λ h f _ d. due_inside h.quotas f d;
      arrears_within_allowance =
          λ h f s _.
          within (quota_at h.quotas f).weight (quota_at h.quotas f).used (others weight_of h.quotas f)
          (others used_of h.quotas f) (used_le h.quotas f s.kept);
      entered_is_due = λ h f _ l. switch_due true h f l;
      enter_keeps_others_due = λ h f g _ n. switch_others_due true h f g n;
      enter_lowers_no_arrears = λ h f g _ _ _. same_le _ _ (switch_arrears true h f g);
      left_is_not_due = λ h f _ l. switch_due false h f l;
      leave_keeps_others_due = λ h f g _ n. switch_others_due false h f g n;
      leave_lowers_no_arrears = λ h f g _ _ _. same_le _ _ (switch_arrears false h f g);
      entering_again_alters_nothing = λ h f _ d. switch_again true h f d;
      leaving_again_alters_nothing = λ h f _ d. switch_again false h f d;
      entering_outside_alters_nothing = λ h f _ l. switch_past true h f l;
      leaving_outside_alters_nothing = λ h f _ l. switch_past false h f l;
      marked_is_due = λ h f _ m. marked_due h f m;
      none_marked_none_due = none_marked;
      none_due_none_marked = λ h _ n. none_due h n;
      turn_keeps_due = λ h f _. turned_part h is_due (λ _. refl) (λ _. refl) f;
      turn_raises_others = λ h f g s m n d. turned_raises h s f m g n d;
      turn_lowers_marked = λ h f s m. turned_lowers h s f m;
    }
