-- A waiting flow below its lag limit forfeits only where nobody can take its turn on account, and one that leads never
-- does.
use Rattle.std.proofs.Common.{◌≡◌, ℕ, ◌<◌, Bool, cond, ◌&&◌, true, false, ◌⊎◌, ltb, List, Some, None, Option, sym, refl, subst, inl, inr}
use Rattle.std.proofs.lemmas.Bool.{cond_both, and_from, lt-ltb, both_ways}
use Rattle.std.proofs.lemmas.Option.{same_Some}
use Rattle.std.specs.Option.{option_map_or}
use Rattle.record.specs.declared.taking.Charge.{Charge}
use Rattle.record.specs.declared.taking.Charge.TheVariants.{Nothing, LeadDown, LagUp, Forfeited}
use Rattle.record.specs.declared.taking.Taking.{Taking}
use Rattle.record.specs.declared.taking.Taking.TheVariants.{Own, LagRepaid, LeadCharged}
use Rattle.cell_rules.specs.declared.row.Row.{Row}
use Rattle.cell_rules.specs.Rules.{Ring, at, waiting, leads, able, designated, ring_finds, chargeable, lowest_able_or_idle, ring_or, chargeable_or, leading_slot, owing_slot, forfeited_slot, marked_slot, slot_of}

owing_forfeits :
    (t : Taking) (o p : Option ℕ)
    → (option_map_or {U = Taking × Charge} (λ f. (LagRepaid f, LagUp)) o (option_map_or (λ f. (LeadCharged f, LagUp)) p (t, Forfeited))).1 ≡ Forfeited
    → (o ≡ None) × (p ≡ None)
owing_forfeits t None None e = (refl, refl)
owing_forfeits t None (Some f) e = cc e
owing_forfeits t (Some g) p e = cc e

leading_forfeits_not :
    (o : Option ℕ) (b : Bool) (m : ℕ) (t : Taking)
    → (option_map_or {U = Taking × Charge} (λ f. (LagRepaid f, LeadDown)) o (cond b (Own m, Nothing) (t, LeadDown))).1 ≡ Forfeited → ⊥
leading_forfeits_not (Some g) b m t e = cc e
leading_forfeits_not None b m t e =
    cond_both b (Own m, Nothing) (t, LeadDown) (λ (x : Taking × Charge). x.1 ≡ Forfeited → ⊥) (λ _ q. cc q) (λ _ q. cc q) e

-- who leads is charged a lead, or nothing
abbrev LeadOrNothing : Taking × Charge → Type 0
LeadOrNothing x = (x.1 ≡ Nothing) ⊎ (x.1 ≡ LeadDown)

leading_charged :
    (o : Option ℕ) (b : Bool) (m : ℕ) (t : Taking)
    → LeadOrNothing (option_map_or {U = Taking × Charge} (λ f. (LagRepaid f, LeadDown)) o (cond b (Own m, Nothing) (t, LeadDown)))
leading_charged (Some g) b m t = inr refl
leading_charged None true m t = inl refl
leading_charged None false m t = inr refl

module _ (rows : List Row) (clean : ℕ → Bool) (ring : Ring) where
  pub leader_charged :
      (o : Option ℕ) (m : ℕ) → o ≡ Some m → 0 < (at rows m).lead → LeadOrNothing (slot_of rows clean ring o)
  leader_charged None m e l = cc e
  leader_charged (Some g) m e l =
      let lead : leads (at rows g) ≡ true = subst (λ j. leads (at rows j) ≡ true) (sym (same_Some g m e)) (lt-ltb 0 (at rows m).lead l) in
      rw lead (leading_charged (cond (designated (at rows g)) (ring_finds rows clean ring).0 None) (able rows clean g) g _)

  abbrev pub NobodyOnAccount : Type 0
  NobodyOnAccount = ((ring_finds rows clean ring).0 ≡ None) × (chargeable rows clean ≡ None)

  marked_forfeits :
      (m : ℕ) → 0 < waiting (at rows m) → (at rows m).lag < (at rows m).lag_limit
      → (marked_slot rows clean ring m).1 ≡ Forfeited → NobodyOnAccount
  marked_forfeits m w l =
      let owes = and_from _ _ (lt-ltb 0 (waiting (at rows m)) w) (lt-ltb (at rows m).lag (at rows m).lag_limit l) in
      let P : Taking × Charge → Type 0 = λ x. x.1 ≡ Forfeited → NobodyOnAccount in
      cond_both (leads (at rows m)) (leading_slot rows clean ring m) _ P
      (λ _ e. absurd (leading_forfeits_not
      (cond (designated (at rows m)) (ring_finds rows clean ring).0 None) (able rows clean m) m
      (ring_or rows clean ring (chargeable_or rows clean (lowest_able_or_idle rows clean))) e))
      (λ _. cond_both (able rows clean m) (Own m, Nothing) _ P (λ _ e. cc e)
      (λ _. cond_both (ltb 0 (waiting (at rows m)) && ltb (at rows m).lag (at rows m).lag_limit) (owing_slot rows clean ring)
      (forfeited_slot rows clean ring) P
      (λ _. owing_forfeits (lowest_able_or_idle rows clean) (ring_finds rows clean ring).0 (chargeable rows clean))
      (λ n. absurd (both_ways _ n owes))))

  pub slot_forfeits :
      (o : Option ℕ) (m : ℕ) → o ≡ Some m → 0 < waiting (at rows m) → (at rows m).lag < (at rows m).lag_limit
      → (slot_of rows clean ring o).1 ≡ Forfeited → NobodyOnAccount
  slot_forfeits None m e w l c = cc e
  slot_forfeits (Some g) m e w l c =
      let same : m ≡ g = sym (same_Some g m e) in
      marked_forfeits g (rw (← same) w) (rw (← same) l) c
