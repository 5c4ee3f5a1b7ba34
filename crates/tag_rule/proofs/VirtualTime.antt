-- Virtual time: the smallest start tag of the due flows.
use Rattle.std.proofs.Common.{◌≡◌, ℕ, zero, suc, ◌-◌, ◌<◌, ◌≤◌, min, Bool, true, false, List, [], ◌∷◌, map, length, Some, None, Option, sym, refl, ap, ◌∙◌, subst, ⊎_elim, arith}
use Rattle.std.proofs.lemmas.Bool.{cases_lt}
use Rattle.tag_rule.specs.declared.stamp.Stamp.{Stamp}
use Rattle.tag_rule.specs.Rule.{stamp_at, lower, lowest, time_after}
use Rattle.tag_rule.specs.Tags.{later, advance, settled}

abbrev pub fallen : ℕ → Option ℕ → Option ℕ
fallen d None = None
fallen d (Some n) = Some (n - d)

lower_fallen : (t d : ℕ) (o : Option ℕ) → lower (t - d) (fallen d o) ≡ lower t o - d
lower_fallen t d None = refl
lower_fallen t d (Some u) = omega arith

pub lowest_later : (d : ℕ) (ss : List Stamp) → lowest (map (later d) ss) ≡ fallen d (lowest ss)
lowest_later d [] = refl
lowest_later d (s ∷ ss) = split s.due refl (lowest_later d ss)
  where
    split : (b : Bool) → s.due ≡ b → lowest (map (later d) ss) ≡ fallen d (lowest ss) → lowest (map (later d) (s ∷ ss)) ≡ fallen d (lowest (s ∷ ss))
    split true e h = rw (e, h) (ap Some (lower_fallen s.tag d (lowest ss)))
    split false e h = rw (e, h)

pub settled_again : (ss : List Stamp) → advance (settled ss) ≡ 0
settled_again ss = ap (time_after 0) (lowest_later (advance ss) ss) ∙ none (lowest ss)
  where
    none : (o : Option ℕ) → time_after 0 (fallen (time_after 0 o) o) ≡ 0
    none None = refl
    none (Some n) = omega arith

-- seen from where it is, virtual time is 0
pub seen_on_time : (v : ℕ) (ss : List Stamp) → time_after v (lowest ss) ≡ v → advance (map (later v) ss) ≡ 0
seen_on_time v ss e = ap (time_after 0) (lowest_later v ss) ∙ none (lowest ss) e
  where
    none : (o : Option ℕ) → time_after v o ≡ v → time_after 0 (fallen v o) ≡ 0
    none None q = refl
    none (Some n) q = omega arith

-- moved on again, virtual time stays
pub time_again : (v : ℕ) (o : Option ℕ) → time_after (time_after v o) o ≡ time_after v o
time_again v None = refl
time_again v (Some t) = refl

-- no due flow's tag is below the lowest
pub lowest_le : (ss : List Stamp) (k : ℕ) → k < length ss → (stamp_at ss k).due ≡ true → (m : ℕ) × (lowest ss ≡ Some m) × (m ≤ (stamp_at ss k).tag)
lowest_le [] k l e = absurd (omega arith)
lowest_le (s ∷ ss) zero l e = (lower s.tag (lowest ss), rw e, at_most s.tag (lowest ss))
  where
    at_most : (t : ℕ) (o : Option ℕ) → lower t o ≤ t
    at_most t None = omega arith
    at_most t (Some u) = omega arith
lowest_le (s ∷ ss) (suc k) l e = split s.due refl (lowest_le ss k (omega arith) e)
  where
    split :
        (b : Bool) → s.due ≡ b
        → (m : ℕ) × (lowest ss ≡ Some m) × (m ≤ (stamp_at ss k).tag)
        → (m : ℕ) × (lowest (s ∷ ss) ≡ Some m) × (m ≤ (stamp_at ss k).tag)
    split true q h = (min s.tag h.0, rw (q, h.1), omega (arith, h.2))
    split false q h = (h.0, rw q h.1, h.2)

pub advance_le : (ss : List Stamp) (k : ℕ) → k < length ss → (stamp_at ss k).due ≡ true → advance ss ≤ (stamp_at ss k).tag
advance_le ss k l e = let m = lowest_le ss k l e in subst (λ o. time_after 0 o ≤ (stamp_at ss k).tag) (sym m.1) m.2

-- the lowest is some due flow's tag
pub lowest_at : (ss : List Stamp) (m : ℕ) → lowest ss ≡ Some m → (k : ℕ) × (k < length ss) × ((stamp_at ss k).due ≡ true) × ((stamp_at ss k).tag ≡ m)
lowest_at [] m e = let z : ◌≡◌ {A = ℕ} 0 1 = cc in absurd (omega arith)
lowest_at (s ∷ ss) m e = split s.due refl (lowest ss) refl (lowest_at ss)
  where
    split :
        (b : Bool) → s.due ≡ b → (o : Option ℕ) → lowest ss ≡ o
        → ((m : ℕ) → lowest ss ≡ Some m → (k : ℕ) × (k < length ss) × ((stamp_at ss k).due ≡ true) × ((stamp_at ss k).tag ≡ m))
        → (k : ℕ) × (k < length (s ∷ ss)) × ((stamp_at (s ∷ ss) k).due ≡ true) × ((stamp_at (s ∷ ss) k).tag ≡ m)
    split false q o r more =
        let f : lowest ss ≡ Some m = rw q at e in let n = more m f in (suc n.0, omega (arith, n.1), n.2, n.3)
    split true q None r more =
        let f : Some s.tag ≡ Some m = rw (q, r) at e in let g : s.tag ≡ m = cc in (0, omega arith, q, g)
    split true q (Some u) r more =
        let f : Some (min s.tag u) ≡ Some m = rw (q, r) at e in
        let g : min s.tag u ≡ m = cc in
        ⊎_elim
        (λ l. (0, omega arith, q, omega arith))
        (λ l. let n = more u r in (suc n.0, omega (arith, n.1), n.2, omega (arith, n.3)))
        (cases_lt s.tag u)
