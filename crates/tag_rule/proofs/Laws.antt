-- The laws of tags.
use Rattle.std.proofs.Common.{◌≡◌, ℕ, ◌+◌, ◌-◌, ◌*◌, ◌/◌, ◌<◌, ◌≤◌, max, Bool, true, false, leb, ◌≢◌, List, [], ◌∷◌, map, length, set, Some, None, Option, sym, refl, ap, ◌∙◌, subst, ⊎_elim, mul_comm, mul-le-mul_left, mul-add, arith, length-set}
use lib.ListN.{length-map}
use Rattle.std.specs.List.{AllByRecursion}
use Rattle.std.proofs.ByRecursion.{All-get_or, All-set, All-map, All-weaker}
use Rattle.std.proofs.Math.Nat.{le_of_eq}
use Rattle.std.proofs.lemmas.List.{get_or-set_same, get_or-set_other, get_or-map, get_or_past, set_past, set-get_or}
use Rattle.std.proofs.lemmas.Bool.{cases_lt, and_parts, leb-true}
use Rattle.tag_rule.specs.declared.stamp.Stamp.{Stamp}
use Rattle.reference.specs.Calls.Call.{turning}
use Rattle.reference.specs.Flows.{sum, others}
use Rattle.reference.specs.Meaning.{Lawful, SameNumbers, whole}
use Rattle.tag_rule.specs.Rule.{no_stamp, stamp_at, marked, charged, charge}
use Rattle.tag_rule.specs.Tags.{
  Tagged,
  clock,
  held_after,
  weight_of,
  owed,
  is_due,
  later,
  advance,
  settled,
  switching,
  arrears,
  Kept,
  Sound,
  tags,
}
use Rattle.reference.proofs.Fields.{part_set, part_map}
use Rattle.reference.proofs.Totals.{
  sum_split,
  sum_map,
  sum_kept,
  sum_below_is,
  others_set,
  others_set_same,
  others_map,
  others_kept,
  others_le,
  others_add,
  others_times,
  others_const,
}
use Rattle.reference.proofs.Marks.{unmarked}
use Rattle.tag_rule.proofs.Numbers.{in_parts, owed_cap, within, one_more, one_less, shifted}
use Rattle.tag_rule.proofs.VirtualTime.{settled_again, advance_le}
use Rattle.tag_rule.proofs.Picks.{picked_eligible, picked_none}

-- a stamp with due set, and what is held once a flow is switched so
abbrev pub flagged : Bool → Stamp → Stamp
flagged b s = record { weight = s.weight; delay_weight = s.delay_weight; tag = s.tag; due = b }

abbrev pub set_due : Bool → Tagged → ℕ → Tagged
set_due b h f =
    record { stamps = settled (set h.stamps f (flagged b (stamp_at h.stamps f))); lookahead = h.lookahead }

abbrev picked : Tagged → Option ℕ
picked h = marked (clock h)

abbrev after_turn : Tagged → Tagged
after_turn h = held_after h turning

-- Stamps.
pub stamp_kept : (p : ℕ) (ss : List Stamp) (f : ℕ) → AllByRecursion (Kept p) ss → f < length ss → Kept p (stamp_at ss f)
stamp_kept p ss f a h = All-get_or (Kept p) ss f no_stamp h a

inside : (ss : List Stamp) (f : ℕ) → (stamp_at ss f).due ≡ true → f < length ss
inside ss f e =
    ⊎_elim
    (λ h. h)
    (λ h.
    let q : false ≡ true = sym (ap is_due (get_or_past ss f no_stamp h)) ∙ e in
    let z : ◌≡◌ {A = ℕ} 0 1 = cc in
    absurd (omega arith))
    (cases_lt f (length ss))

capped : (p : ℕ) (s : Stamp) → Kept p s → owed s ≤ whole * (p * s.weight + 1)
capped p s k = owed_cap p s.weight s.tag k.0 k.1 k.4

-- what the others owe is capped
others_capped : (p : ℕ) (ss : List Stamp) (f : ℕ) → AllByRecursion (Kept p) ss → f < length ss → others owed ss f ≤ whole * (p * others weight_of ss f + (length ss - 1))
others_capped p ss f a l =
    let one : others owed ss f ≤ others (λ s. whole * (p * s.weight + 1)) ss f
    = others_le owed (λ s. whole * (p * s.weight + 1)) ss f (All-weaker (Kept p) (λ s. owed s ≤ whole * (p * s.weight + 1)) (capped p) ss a) in
    let two : others (λ s. whole * (p * s.weight + 1)) ss f ≡ whole * others (λ s. p * s.weight + 1) ss f = others_times whole (λ s. p * s.weight + 1) ss f in
    let three : others (λ s. p * s.weight + 1) ss f ≡ others (λ s. p * s.weight) ss f + others (λ s. 1) ss f = others_add (λ s. p * s.weight) (λ s. 1) ss f in
    let four : others (λ s. p * s.weight) ss f ≡ p * others weight_of ss f = others_times p weight_of ss f in
    let five : others (λ (s : Stamp). 1) ss f ≡ 1 * (length ss - 1) = others_const 1 ss f l in
    omega arith

-- Virtual time moves on by d, at most the tag of the due flow g.
module _ (p d : ℕ) (ss : List Stamp) (g : ℕ) (a : AllByRecursion (Kept p) ss) (l : g < length ss) (le : d ≤ (stamp_at ss g).tag) where
  later_arrears : arrears p ss g ≤ arrears p (map (later d) ss) g
  later_arrears =
      let e1 : stamp_at (map (later d) ss) g ≡ later d (stamp_at ss g) = get_or-map (later d) ss g no_stamp no_stamp l in
      let w : others weight_of (map (later d) ss) g ≡ others weight_of ss g = others_map weight_of no_stamp (later d) ss g in
      let o : others owed (map (later d) ss) g ≡ others (λ s. owed (later d s)) ss g = others_map owed no_stamp (later d) ss g in
      let falls : others owed ss g ≤ others (λ s. owed (later d s)) ss g + d * others weight_of ss g
      = fall in
      rw (e1, w, o)
      (shifted (stamp_at ss g).weight (others owed ss g) (others (λ s. owed (later d s)) ss g) (others weight_of ss g)
      (whole * (p * (stamp_at ss g).weight + 1)) (stamp_at ss g).tag ((stamp_at ss g).tag - d) d falls (omega arith)
      (capped p (stamp_at ss g) (stamp_kept p ss g a l)))
    where
      each : (s : Stamp) → owed s ≤ owed (later d s) + d * s.weight
      each s =
          let one : s.weight * s.tag ≤ s.weight * ((s.tag - d) + d) = mul-le-mul_left s.weight (omega arith) in
          let two : s.weight * ((s.tag - d) + d) ≡ s.weight * (s.tag - d) + s.weight * d = mul-add s.weight (s.tag - d) d in
          let three : s.weight * d ≡ d * s.weight = mul_comm s.weight d in
          omega arith

      fall : others owed ss g ≤ others (λ s. owed (later d s)) ss g + d * others weight_of ss g
      fall =
          let one : others owed ss g ≤ others (λ s. owed (later d s) + d * s.weight) ss g
          = others_le owed (λ s. owed (later d s) + d * s.weight) ss g (All-weaker (Kept p) (λ s. owed s ≤ owed (later d s) + d * s.weight) (λ s _. each s) ss a) in
          let two : others (λ s. owed (later d s) + d * s.weight) ss g ≡ others (λ s. owed (later d s)) ss g + others (λ s. d * s.weight) ss g
          = others_add (λ s. owed (later d s)) (λ s. d * s.weight) ss g in
          let three : others (λ s. d * s.weight) ss g ≡ d * others weight_of ss g = others_times d weight_of ss g in
          omega arith

later_kept : (p d : ℕ) (ss : List Stamp) → AllByRecursion (Kept p) ss → AllByRecursion (Kept p) (map (later d) ss)
later_kept p d ss a =
    All-map (Kept p) (later d) ss
    (All-weaker (Kept p) (λ s. Kept p (later d s)) (λ s k. (k.0, k.1, k.2, k.3, omega (arith, k.4))) ss a)

-- what settling leaves
settled_arrears : (p : ℕ) (ss : List Stamp) (g : ℕ) → AllByRecursion (Kept p) ss → (stamp_at ss g).due ≡ true → arrears p ss g ≤ arrears p (settled ss) g
settled_arrears p ss g a e = later_arrears p (advance ss) ss g a (inside ss g e) (advance_le ss g (inside ss g e) e)

settled_part : {B : Type 0} (t : Stamp → B) → ((d : ℕ) (s : Stamp) → t (later d s) ≡ t s) → (ss : List Stamp) (k : ℕ) → t (stamp_at (settled ss) k) ≡ t (stamp_at ss k)
settled_part t same ss k = part_map t no_stamp ss (later (advance ss)) (same (advance ss)) k

settled_length : (ss : List Stamp) → length (settled ss) ≡ length ss
settled_length ss = length-map ss (later (advance ss))

pub later_none : (ss : List Stamp) → map (later 0) ss ≡ ss
later_none [] = refl
later_none (s ∷ ss) = let e : s.tag - 0 ≡ s.tag = omega arith in rw e (ap (λ zs. s ∷ zs) (later_none ss))

pub settled_same : (ss : List Stamp) → advance ss ≡ 0 → settled ss ≡ ss
settled_same ss e = ap (λ d. map (later d) ss) e ∙ later_none ss

-- A changed list, settled: what is told, and what is kept.
module _ (p : ℕ) (ss : List Stamp) (f : ℕ) (y : Stamp) (share : y.weight ≡ (stamp_at ss f).weight) where
  weights_kept : (k : ℕ) → (stamp_at (settled (set ss f y)) k).weight ≡ (stamp_at ss k).weight
  weights_kept k = settled_part weight_of (λ _ _. refl) (set ss f y) k ∙ part_set weight_of no_stamp ss f y share k

  others_same : (k : ℕ) → others weight_of (settled (set ss f y)) k ≡ others weight_of ss k
  others_same k = others_map weight_of no_stamp (later (advance (set ss f y))) (set ss f y) k ∙ others_kept weight_of no_stamp ss f y share k

  sum_same : sum weight_of (settled (set ss f y)) ≡ sum weight_of ss
  sum_same = sum_map weight_of no_stamp (later (advance (set ss f y))) (set ss f y) ∙ sum_kept weight_of no_stamp ss f y share

  length_same : length (settled (set ss f y)) ≡ length ss
  length_same = settled_length (set ss f y) ∙ length-set ss f y

  pub changed_numbers : SameNumbers tags (record { stamps = ss; lookahead = p }) (record { stamps = settled (set ss f y); lookahead = p })
  changed_numbers =
      record {
        flows = length_same;
        weight = weights_kept;
        allowance =
            λ k.
            ap (λ r. 2 * p * r * others weight_of (settled (set ss f y)) k + r * (length (settled (set ss f y)) - 1) + others weight_of (settled (set ss f y)) k) (weights_kept k)
            ∙ (ap (λ w. 2 * p * (stamp_at ss k).weight * w + (stamp_at ss k).weight * (length (settled (set ss f y)) - 1) + w) (others_same k)
            ∙ ap (λ n. 2 * p * (stamp_at ss k).weight * others weight_of ss k + (stamp_at ss k).weight * (n - 1) + others weight_of ss k) length_same);
        total = sum_same;
      }

  pub changed_sound :
      Sound (record { stamps = ss; lookahead = p })
      → (f < length ss → Kept p y)
      → Sound (record { stamps = settled (set ss f y); lookahead = p })
  changed_sound s k =
      record {
        some_flows = omega (arith, length_same, s.some_flows);
        few_flows = omega (arith, length_same, s.few_flows);
        looks = s.looks;
        kept =
            later_kept p (advance (set ss f y)) (set ss f y)
            (⊎_elim
            (λ l. All-set (Kept p) ss f y (k l) s.kept)
            (λ l. subst (AllByRecursion (Kept p)) (sym (set_past ss f y l)) s.kept)
            (cases_lt f (length ss)));
        on_time = settled_again (set ss f y);
      }

-- Entering and leaving.
at : ℕ → List Stamp → Tagged
at p ss = record { stamps = ss; lookahead = p }

module _ (b : Bool) (h : Tagged) (f : ℕ) where
  switch_numbers : SameNumbers tags h (set_due b h f)
  switch_numbers = changed_numbers h.lookahead h.stamps f (flagged b (stamp_at h.stamps f)) refl

  switch_sound : Sound h → Sound (set_due b h f)
  switch_sound s =
      changed_sound h.lookahead h.stamps f (flagged b (stamp_at h.stamps f)) refl s
      (λ l. stamp_kept h.lookahead h.stamps f s.kept l)

  switch_others : (k : ℕ) → f ≢ k → (stamp_at (set_due b h f).stamps k).due ≡ (stamp_at h.stamps k).due
  switch_others k n =
      settled_part is_due (λ _ _. refl) (set h.stamps f (flagged b (stamp_at h.stamps f))) k
      ∙ ap is_due (get_or-set_other h.stamps f k (flagged b (stamp_at h.stamps f)) no_stamp (λ e. n (sym e)))

  switch_due : f < length h.stamps → (stamp_at (set_due b h f).stamps f).due ≡ b
  switch_due l =
      settled_part is_due (λ _ _. refl) (set h.stamps f (flagged b (stamp_at h.stamps f))) f
      ∙ ap is_due (get_or-set_same h.stamps f (flagged b (stamp_at h.stamps f)) no_stamp l)

  -- a change that is none
  switch_same : Sound h → set h.stamps f (flagged b (stamp_at h.stamps f)) ≡ h.stamps → set_due b h f ≡ h
  unfolding at
  switch_same s e = ap (λ ss. at h.lookahead (settled ss)) e ∙ ap (at h.lookahead) (settled_same h.stamps s.on_time)

  switch_again : Sound h → (stamp_at h.stamps f).due ≡ b → set_due b h f ≡ h
  switch_again s e =
      switch_same s (ap (λ c. set h.stamps f (flagged c (stamp_at h.stamps f))) (sym e) ∙ set-get_or h.stamps f no_stamp)

  pub switch_past : Sound h → length h.stamps ≤ f → set_due b h f ≡ h
  switch_past s l = switch_same s (set_past h.stamps f (flagged b (stamp_at h.stamps f)) l)

  -- before settling nobody's arrears change
  switch_arrears : (k : ℕ) → arrears h.lookahead (set h.stamps f (flagged b (stamp_at h.stamps f))) k ≡ arrears h.lookahead h.stamps k
  switch_arrears k =
      let y = flagged b (stamp_at h.stamps f) in
      let e1 : (stamp_at (set h.stamps f (flagged b (stamp_at h.stamps f))) k).weight ≡ (stamp_at h.stamps k).weight
      = part_set weight_of no_stamp h.stamps f y refl k in
      let e2 : (stamp_at (set h.stamps f (flagged b (stamp_at h.stamps f))) k).tag ≡ (stamp_at h.stamps k).tag
      = part_set (λ s. s.tag) no_stamp h.stamps f y refl k in
      let w : others weight_of (set h.stamps f (flagged b (stamp_at h.stamps f))) k ≡ others weight_of h.stamps k
      = others_kept weight_of no_stamp h.stamps f y refl k in
      let o : others owed (set h.stamps f (flagged b (stamp_at h.stamps f))) k ≡ others owed h.stamps k
      = others_kept owed no_stamp h.stamps f y refl k in
      rw (e1, e2, w, o)

  switch_keeps :
      (k : ℕ) → Sound h → f ≢ k → (stamp_at h.stamps k).due ≡ true
      → arrears h.lookahead h.stamps k ≤ arrears h.lookahead (set_due b h f).stamps k
  switch_keeps k s n e =
      let ss = set h.stamps f (flagged b (stamp_at h.stamps f)) in
      let d : (stamp_at (set h.stamps f (flagged b (stamp_at h.stamps f))) k).due ≡ true
      = ap is_due (get_or-set_other h.stamps f k (flagged b (stamp_at h.stamps f)) no_stamp (λ q. n (sym q))) ∙ e in
      let kept : AllByRecursion (Kept h.lookahead) (set h.stamps f (flagged b (stamp_at h.stamps f)))
      = ⊎_elim
      (λ l. All-set (Kept h.lookahead) h.stamps f (flagged b (stamp_at h.stamps f)) (stamp_kept h.lookahead h.stamps f s.kept l) s.kept)
      (λ l. subst (AllByRecursion (Kept h.lookahead)) (sym (set_past h.stamps f (flagged b (stamp_at h.stamps f)) l)) s.kept)
      (cases_lt f (length h.stamps)) in
      subst (λ n. n ≤ arrears h.lookahead (set_due b h f).stamps k) (switch_arrears k) (settled_arrears h.lookahead ss k kept d)

-- A turn.
after_ind :
    (h : Tagged) (P : Tagged → Type 0)
    → Sound h
    → P h
    → ((f : ℕ) → picked h ≡ Some f → P (record { stamps = settled (set h.stamps f (charged (stamp_at h.stamps f))); lookahead = h.lookahead }))
    → P (after_turn h)
after_ind h P s a b = split (picked h) refl
  where
    split : (o : Option ℕ) → picked h ≡ o → P (record { stamps = settled (charge h.stamps o); lookahead = h.lookahead })
    split None e = subst (λ ss. P (record { stamps = ss; lookahead = h.lookahead })) (sym (settled_same h.stamps s.on_time)) a
    split (Some f) e = b f e

-- the flow that a turn marks
pub picked_parts :
    (h : Tagged) (f : ℕ) → picked h ≡ Some f
    → (f < length h.stamps) × ((stamp_at h.stamps f).due ≡ true) × ((stamp_at h.stamps f).tag ≤ h.lookahead * whole)
picked_parts h f e =
    let m = picked_eligible 0 h.lookahead h.stamps f e in
    let q = and_parts (stamp_at h.stamps f).due (leb (stamp_at h.stamps f).tag (0 + h.lookahead * whole)) m.1 in
    (m.0, q.0, omega (arith, leb-true _ _ q.1))

charged_kept : (p : ℕ) (s : Stamp) → Kept p s → s.tag ≤ p * whole → Kept p (charged s)
charged_kept p s k l = (k.0, k.1, k.2, k.3, omega arith)

pub after_sound : (h : Tagged) → Sound h → Sound (after_turn h)
after_sound h s =
    after_ind h Sound s s
    (λ f e.
    let m = picked_parts h f e in
    changed_sound h.lookahead h.stamps f (charged (stamp_at h.stamps f)) refl s
    (λ l. charged_kept h.lookahead (stamp_at h.stamps f) (stamp_kept h.lookahead h.stamps f s.kept l) m.2))

turn_numbers : (h : Tagged) → Sound h → SameNumbers tags h (after_turn h)
turn_numbers h s =
    after_ind h (SameNumbers tags h) s
    (record { flows = refl; weight = λ _. refl; allowance = λ _. refl; total = refl })
    (λ f e. changed_numbers h.lookahead h.stamps f (charged (stamp_at h.stamps f)) refl)

after_due : (h : Tagged) (k : ℕ) → Sound h → (stamp_at (after_turn h).stamps k).due ≡ (stamp_at h.stamps k).due
after_due h k s =
    after_ind h (λ r. (stamp_at r.stamps k).due ≡ (stamp_at h.stamps k).due) s refl
    (λ f e.
    settled_part is_due (λ _ _. refl) (set h.stamps f (charged (stamp_at h.stamps f))) k
    ∙ part_set is_due no_stamp h.stamps f (charged (stamp_at h.stamps f)) refl k)

-- the charge, before settling
module _ (p : ℕ) (ss : List Stamp) (f : ℕ) (i : f < length ss) (k : Kept p (stamp_at ss f)) where
  one_owed : owed (charged (stamp_at ss f)) ≡ owed (stamp_at ss f) + whole
  one_owed =
      mul-add (stamp_at ss f).weight (stamp_at ss f).tag (whole / (stamp_at ss f).weight)
      ∙ ap (λ n. owed (stamp_at ss f) + n) (in_parts (stamp_at ss f).weight k.0 k.1)

  charge_raises : (g : ℕ) → f ≢ g → arrears p ss g + whole * (stamp_at ss g).weight ≤ arrears p (set ss f (charged (stamp_at ss f))) g
  charge_raises g n =
      let e1 : stamp_at (set ss f (charged (stamp_at ss f))) g ≡ stamp_at ss g = get_or-set_other ss f g (charged (stamp_at ss f)) no_stamp (λ e. n (sym e)) in
      let w : others weight_of (set ss f (charged (stamp_at ss f))) g ≡ others weight_of ss g = others_kept weight_of no_stamp ss f (charged (stamp_at ss f)) refl g in
      let o : others owed (set ss f (charged (stamp_at ss f))) g ≡ others owed ss g + whole
      = entered_at _ _ _ _ (others_set owed no_stamp ss f g (charged (stamp_at ss f)) i n) one_owed in
      rw (e1, w, o)
      (one_more (stamp_at ss g).weight (others owed ss g) (others weight_of ss g) (whole * (p * (stamp_at ss g).weight + 1) - owed (stamp_at ss g)))
    where
      entered_at : (a b c d : ℕ) → a + b ≡ c + d → d ≡ b + whole → a ≡ c + whole
      entered_at a b c d h e = omega arith

  charge_lowers : (stamp_at ss f).tag ≤ p * whole → arrears p ss f ≤ arrears p (set ss f (charged (stamp_at ss f))) f + whole * others weight_of ss f
  charge_lowers t =
      let e1 : stamp_at (set ss f (charged (stamp_at ss f))) f ≡ charged (stamp_at ss f) = get_or-set_same ss f (charged (stamp_at ss f)) no_stamp i in
      let w : others weight_of (set ss f (charged (stamp_at ss f))) f ≡ others weight_of ss f = others_set_same weight_of no_stamp ss f (charged (stamp_at ss f)) in
      let o : others owed (set ss f (charged (stamp_at ss f))) f ≡ others owed ss f = others_set_same owed no_stamp ss f (charged (stamp_at ss f)) in
      let room : owed (stamp_at ss f) + whole ≤ whole * (p * (stamp_at ss f).weight + 1)
      = subst (λ n. n ≤ whole * (p * (stamp_at ss f).weight + 1)) one_owed (capped p (charged (stamp_at ss f)) (charged_kept p (stamp_at ss f) k t)) in
      rw (e1, w, o, one_owed)
      (one_less (stamp_at ss f).weight (others owed ss f) (others weight_of ss f) (whole * (p * (stamp_at ss f).weight + 1)) (owed (stamp_at ss f)) room)

chain_up : (a b c d : ℕ) → a + d ≤ b → b ≤ c → a + d ≤ c
chain_up a b c d h k = omega arith

chain_down : (a b c d e : ℕ) → a ≤ b + whole * d → b ≤ c → d ≡ e → a ≤ c + whole * e
chain_down a b c d e h k q = omega arith

total_less : (ss : List Stamp) (f : ℕ) → f < length ss → others weight_of ss f ≡ sum weight_of ss - (stamp_at ss f).weight
total_less ss f l = omega (arith, sum_split weight_of no_stamp ss f l)

module _ (h : Tagged) (f : ℕ) (s : Sound h) (e : picked h ≡ Some f) where
  charged_all : AllByRecursion (Kept h.lookahead) (set h.stamps f (charged (stamp_at h.stamps f)))
  charged_all =
      let m = picked_parts h f e in
      All-set (Kept h.lookahead) h.stamps f (charged (stamp_at h.stamps f))
      (charged_kept h.lookahead (stamp_at h.stamps f) (stamp_kept h.lookahead h.stamps f s.kept m.0) m.2)
      s.kept

  charged_due : (g : ℕ) → (stamp_at h.stamps g).due ≡ true → (stamp_at (set h.stamps f (charged (stamp_at h.stamps f))) g).due ≡ true
  charged_due g d = part_set is_due no_stamp h.stamps f (charged (stamp_at h.stamps f)) refl g ∙ d

  after_raises :
      (g : ℕ) → f ≢ g → (stamp_at h.stamps g).due ≡ true
      → arrears h.lookahead h.stamps g + whole * (stamp_at h.stamps g).weight ≤ arrears h.lookahead (after_turn h).stamps g
  after_raises g n d =
      let m = picked_parts h f e in
      subst
      (λ o.
      arrears h.lookahead h.stamps g + whole * (stamp_at h.stamps g).weight
      ≤ arrears h.lookahead (settled (charge h.stamps o)) g)
      (sym e)
      (chain_up _ _ _ _
      (charge_raises h.lookahead h.stamps f m.0 (stamp_kept h.lookahead h.stamps f s.kept m.0) g n)
      (settled_arrears h.lookahead (set h.stamps f (charged (stamp_at h.stamps f))) g charged_all (charged_due g d)))

  after_lowers :
      arrears h.lookahead h.stamps f
      ≤ arrears h.lookahead (after_turn h).stamps f + whole * (sum weight_of h.stamps - (stamp_at h.stamps f).weight)
  after_lowers =
      let m = picked_parts h f e in
      subst
      (λ o.
      arrears h.lookahead h.stamps f
      ≤ arrears h.lookahead (settled (charge h.stamps o)) f + whole * (sum weight_of h.stamps - (stamp_at h.stamps f).weight))
      (sym e)
      (chain_down _ _ _ _ _
      (charge_lowers h.lookahead h.stamps f m.0 (stamp_kept h.lookahead h.stamps f s.kept m.0) m.2)
      (settled_arrears h.lookahead (set h.stamps f (charged (stamp_at h.stamps f))) f charged_all (charged_due f m.1))
      (total_less h.stamps f m.0))

none_due : (h : Tagged) → Sound h → picked h ≡ None → (f : ℕ) → (stamp_at h.stamps f).due ≡ false
none_due h s e f =
    ⊎_elim
    (picked_none h.lookahead h.stamps s.on_time e f)
    (λ l. ap is_due (get_or_past h.stamps f no_stamp l))
    (cases_lt f (length h.stamps))

-- a flow that enters keeps its tag, which is at least virtual time
abbrev retagged : Stamp → ℕ → Stamp
retagged s t = record { weight = s.weight; delay_weight = s.delay_weight; tag = t; due = true }

pub switched_is : (b : Bool) (h : Tagged) (f : ℕ) → held_after h (switching b f) ≡ set_due b h f
switched_is true h f =
    let s = stamp_at h.stamps f in
    let e : max (stamp_at h.stamps f).tag 0 ≡ (stamp_at h.stamps f).tag = omega arith in
    ap (λ t. record { stamps = settled (set h.stamps f (retagged s t)); lookahead = h.lookahead }) e
switched_is false h f = refl

pub tags_lawful : Lawful tags
tags_lawful =
    record {
      enter_sound = λ h f s. subst Sound (sym (switched_is true h f)) (switch_sound true h f s);
      leave_sound = switch_sound false;
      turn_sound = after_sound;
      one_to_sixteen_flows = λ h s. (s.some_flows, s.few_flows);
      weight_at_least_one = λ h f s l. (stamp_kept h.lookahead h.stamps f s.kept l).0;
      total_covers_weights = λ h s. le_of_eq (sum_below_is weight_of no_stamp h.stamps);
      enter_keeps_numbers = λ h f _. subst (SameNumbers tags h) (sym (switched_is true h f)) (switch_numbers true h f);
      leave_keeps_numbers = λ h f _. switch_numbers false h f;
      turn_keeps_numbers = turn_numbers;
      only_flows_are_due = λ h f _ d. inside h.stamps f d;
      arrears_within_allowance =
          λ h f s d.
          let l = inside h.stamps f d in
          within h.lookahead (stamp_at h.stamps f).weight (others weight_of h.stamps f) (others owed h.stamps f) (length h.stamps - 1)
          (owed (stamp_at h.stamps f))
          (others_capped h.lookahead h.stamps f s.kept l);
      entered_is_due = λ h f _ l. subst (λ k. (stamp_at k.stamps f).due ≡ true) (sym (switched_is true h f)) (switch_due true h f l);
      enter_keeps_others_due =
          λ h f g _ n.
          subst (λ k. (stamp_at k.stamps g).due ≡ (stamp_at h.stamps g).due) (sym (switched_is true h f)) (switch_others true h f g n);
      enter_lowers_no_arrears =
          λ h f g s n d.
          subst (λ k. arrears h.lookahead h.stamps g ≤ arrears k.lookahead k.stamps g) (sym (switched_is true h f))
          (switch_keeps true h f g s n d);
      left_is_not_due = λ h f _ l. switch_due false h f l;
      leave_keeps_others_due = λ h f g _ n. switch_others false h f g n;
      leave_lowers_no_arrears = λ h f g s n d. switch_keeps false h f g s n d;
      entering_again_alters_nothing = λ h f s d. switched_is true h f ∙ switch_again true h f s d;
      leaving_again_alters_nothing = switch_again false;
      entering_outside_alters_nothing = λ h f s l. switched_is true h f ∙ switch_past true h f s l;
      leaving_outside_alters_nothing = switch_past false;
      marked_is_due = λ h f _ e. (picked_parts h f e).1;
      none_marked_none_due = none_due;
      none_due_none_marked = λ h _ n. unmarked tags h (λ f e. (picked_parts h f e).1) n;
      turn_keeps_due = λ h f s. after_due h f s;
      turn_raises_others = λ h f g s e n d. after_raises h f s e g n d;
      turn_lowers_marked = λ h f s e. after_lowers h f s e;
    }
