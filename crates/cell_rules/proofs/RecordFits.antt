-- What the rules say of a slot fits a record.
use Rattle.std.proofs.Common.{◌≡◌, ℕ, ◌<◌, min, Bool, true, false, cond, not, ◌&&◌, eqb, eq-eqb, ltb, List, length, Some, None, Option, sym, refl, ◌∙◌, subst, arith}
use Rattle.std.proofs.lemmas.Bool.{cond_both, lt-ltb, ltb-true, true≢false, ne_eqb}
use Rattle.record.specs.Pairs.{marked_pair}
use Rattle.record.specs.declared.taking.Charge.{Charge}
use Rattle.record.specs.declared.taking.Charge.TheVariants.{Nothing, LeadDown, Forfeited}
use Rattle.record.specs.declared.taking.Taking.{Taking}
use Rattle.record.specs.declared.taking.Taking.TheVariants.{Idle, Own, LagRepaid, LeadCharged, Free}
use Rattle.cell_rules.specs.declared.row.Row.{Row}
use Rattle.cell_rules.specs.RecordFits.{FitsRecord}
use Rattle.cell_rules.specs.Rules.{Ring, at, flows, leads, able, lowest_able, ring_finds, chargeable, ring_or, chargeable_or, lowest_able_or_idle, designated, leading_slot, owing_slot, forfeited_slot, unmarked_slot, marked_slot, slot_of, waiting}
use Rattle.cell_rules.proofs.Found.{Found, find_found, map_or_both}
use Rattle.cell_rules.proofs.Settling.{Serves, able_inside, ring_found, charge_found}

module _ (rows : List Row) (clean : ℕ → Bool) (ring : Ring) where
  of_the_cell : (f : ℕ) → able rows clean f ≡ true → ltb f (length rows) ≡ true
  of_the_cell f e = lt-ltb f (length rows) (able_inside rows clean f e)

  unmarked_fits : FitsRecord (length rows) None (unmarked_slot rows clean ring)
  unmarked_fits =
      let fits = λ (t : Taking). FitsRecord (length rows) None (t, Nothing) in
      map_or_both (λ f. Serves rows clean (LagRepaid f)) LagRepaid (ring_finds rows clean ring).0 _ fits (ring_found rows clean ring)
      (λ f s. let i = of_the_cell f s.0 in (rw i refl, refl))
      (map_or_both (λ f. able rows clean f ≡ true) Free (lowest_able rows clean) Idle fits (find_found (able rows clean) (flows rows))
      (λ f a. let i = of_the_cell f a in (rw i refl, refl))
      (refl, refl))

  module _ (m : ℕ) (inside : m < length rows) where
    -- a flow of the cell other than the marked one
    abbrev Other : ℕ → Type 0
    Other f = (ltb f (length rows) ≡ true) × (eqb m f ≡ false)

    abbrev Fits : Taking × Charge → Type 0
    Fits x = FitsRecord (length rows) (Some m) x

    other_fits : (f : ℕ) → Other f → (ltb m (length rows) && (ltb f (length rows) && not (eqb m f))) ≡ true
    other_fits f o = let i = lt-ltb m (length rows) inside in let l = o.0 in let e = o.1 in rw (i, l, e)

    own_fits : Fits (Own m, Nothing)
    own_fits =
        let i = lt-ltb m (length rows) inside in
        let e : eqb m m ≡ true = eq-eqb m m refl in
        (rw (i, e) refl, refl)

    -- one who is able is another flow than a marked one that is not
    able_other : able rows clean m ≡ false → (f : ℕ) → able rows clean f ≡ true → Other f
    able_other un f a =
        (of_the_cell f a, ne_eqb m f (λ e. true≢false (sym (subst (λ j. able rows clean j ≡ true) (sym e) a) ∙ un)))

    -- and one who lags is another flow than a marked one that does not
    lagging_other : (at rows m).lag ≡ 0 → (f : ℕ) → Serves rows clean (LagRepaid f) → Other f
    lagging_other un f s =
        (of_the_cell f s.0, ne_eqb m f (λ e. let l = subst (λ j. 0 < (at rows j).lag) (sym e) s.1 in omega arith))

    module _ (un : able rows clean m ≡ false) where
      ring_fits :
          (c : Charge) (other : Taking) → ((f : ℕ) → marked_pair (LagRepaid f) c ≡ true)
          → Fits (other, c) → Fits (ring_or rows clean ring other, c)
      ring_fits c other pair h =
          map_or_both (λ f. Serves rows clean (LagRepaid f)) LagRepaid (ring_finds rows clean ring).0 other (λ t. Fits (t, c))
          (ring_found rows clean ring) (λ f s. (other_fits f (able_other un f s.0), pair f)) h

      charge_fits :
          (c : Charge) (other : Taking) → ((f : ℕ) → marked_pair (LeadCharged f) c ≡ true)
          → Fits (other, c) → Fits (chargeable_or rows clean other, c)
      charge_fits c other pair h =
          map_or_both (λ f. Serves rows clean (LeadCharged f)) LeadCharged (chargeable rows clean) other (λ t. Fits (t, c))
          (charge_found rows clean ring) (λ f s. (other_fits f (able_other un f s.0), pair f)) h

      free_fits :
          (c : Charge) → ((f : ℕ) → marked_pair (Free f) c ≡ true) → marked_pair Idle c ≡ true
          → Fits (lowest_able_or_idle rows clean, c)
      free_fits c pair idle =
          map_or_both (λ f. able rows clean f ≡ true) Free (lowest_able rows clean) Idle (λ t. Fits (t, c))
          (find_found (able rows clean) (flows rows)) (λ f a. (other_fits f (able_other un f a), pair f))
          (let i = lt-ltb m (length rows) inside in (rw i refl, idle))

      passed_on_fits : Fits (ring_or rows clean ring (chargeable_or rows clean (lowest_able_or_idle rows clean)), LeadDown)
      passed_on_fits =
          ring_fits LeadDown _ (λ f. refl) (charge_fits LeadDown _ (λ f. refl) (free_fits LeadDown (λ f. refl) refl))

      owing_fits : Fits (owing_slot rows clean ring)
      owing_fits =
          map_or_both (λ f. Serves rows clean (LagRepaid f)) _ (ring_finds rows clean ring).0 _ Fits (ring_found rows clean ring)
          (λ f s. (other_fits f (able_other un f s.0), refl))
          (map_or_both (λ f. Serves rows clean (LeadCharged f)) _ (chargeable rows clean) _ Fits (charge_found rows clean ring)
          (λ f s. (other_fits f (able_other un f s.0), refl))
          (free_fits Forfeited (λ f. refl) refl))

      forfeited_fits : Fits (forfeited_slot rows clean ring)
      forfeited_fits = ring_fits Forfeited _ (λ f. refl) (free_fits Forfeited (λ f. refl) refl)

    -- a marked flow that leads must not lag
    leading_fits : (at rows m).lag ≡ 0 → Fits (leading_slot rows clean ring m)
    leading_fits never =
        map_or_both (λ f. Serves rows clean (LagRepaid f)) _ (cond (designated (at rows m)) (ring_finds rows clean ring).0 None) _ Fits
        (cond_both (designated (at rows m)) (ring_finds rows clean ring).0 None (Found (λ f. Serves rows clean (LagRepaid f)))
        (λ _. ring_found rows clean ring) (λ _. tt))
        (λ f s. (other_fits f (lagging_other never f s), refl))
        (cond_both (able rows clean m) _ _ Fits (λ _. own_fits) (λ un. passed_on_fits un))

    marked_fits : min (at rows m).lead (at rows m).lag ≡ 0 → Fits (marked_slot rows clean ring m)
    marked_fits never =
        cond_both (leads (at rows m)) _ _ Fits
        (λ l. let lead = ltb-true 0 (at rows m).lead l in leading_fits (omega arith))
        (λ _. cond_both (able rows clean m) _ _ Fits (λ _. own_fits)
        (λ un. cond_both (ltb 0 (waiting (at rows m)) && ltb (at rows m).lag (at rows m).lag_limit) _ _ Fits
        (λ _. owing_fits un) (λ _. forfeited_fits un)))

  -- who is marked is a flow of the cell, and does not both lead and lag
  pub slot_fits :
      (o : Option ℕ) → ((m : ℕ) → o ≡ Some m → (m < length rows) × (min (at rows m).lead (at rows m).lag ≡ 0))
      → FitsRecord (length rows) o (slot_of rows clean ring o)
  slot_fits None h = unmarked_fits
  slot_fits (Some m) h = let k = h m refl in marked_fits m k.0 k.1
