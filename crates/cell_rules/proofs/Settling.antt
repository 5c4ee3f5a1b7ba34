-- What is right to say of a slot's sender and of the charge on the marked flow, and that the rules say only that.
use Rattle.std.proofs.Common.{◌≡◌, ℕ, ◌<◌, ◌≤◌, Bool, true, false, cond, ◌&&◌, eqb, ltb, ◌⊎◌, List, length, Some, None, Option, sym, refl, ◌∙◌, subst, inl, inr, arith}
use Rattle.std.proofs.lemmas.Bool.{cond_both, and_parts, ltb-true, ltb-false, eqb-true, true≢false, cases_lt, ne_eqb}
use Rattle.std.proofs.lemmas.List.{get_or_past}
use Rattle.std.specs.Option.{option_map_or}
use Rattle.record.specs.Accounts.{names}
use Rattle.record.specs.declared.taking.Charge.{Charge}
use Rattle.record.specs.declared.taking.Charge.TheVariants.{Nothing, LeadDown, LagUp, Forfeited}
use Rattle.record.specs.declared.taking.Taking.{Taking}
use Rattle.record.specs.declared.taking.Taking.TheVariants.{Idle, Own, LagRepaid, LeadCharged, Free}
use Rattle.record.specs.Pairs.{sender_of}
use Rattle.table.specs.Lines.{no_line}
use Rattle.cell_rules.specs.declared.row.Row.{Row}
use Rattle.cell_rules.specs.Rules.{Ring, at, fresh, waiting, flows, leads, lags, in_sync, able, flows_around, lowest_able, repayable, moved_to, ring_finds, finds_again, can_lead_more, can_start_to_lead, leads_less, chargeable, ring_or, chargeable_or, lowest_able_or_idle, designated, leading_slot, owing_slot, forfeited_slot, slot_of}
use Rattle.cell_rules.specs.Bookable.{MaySend, MayBear, Settles}
use Rattle.cell_rules.proofs.Found.{Found, Missed, found_as, find_found, find_missed, least_found, either_found, all_in_range, map_or_both}

module _ (rows : List Row) (clean : ℕ → Bool) where
  -- a sender other than the marked flow, or nobody
  abbrev pub Serves : Taking → Type 0
  Serves Idle = (f : ℕ) → able rows clean f ≡ false
  Serves (Own f) = ⊥
  Serves (LagRepaid f) = (able rows clean f ≡ true) × (0 < (at rows f).lag)
  Serves (LeadCharged f) =
      (able rows clean f ≡ true)
      × ((at rows f).lead < (at rows f).lead_limit)
      × ((0 < (at rows f).lead) ⊎ ((at rows f).lag ≡ 0))
  Serves (Free f) = able rows clean f ≡ true

  -- a charge on the marked flow m, which does not send
  abbrev pub Bears : ℕ → Charge → Type 0
  Bears m Nothing = ⊥
  Bears m LeadDown = 0 < (at rows m).lead
  Bears m LagUp =
      (able rows clean m ≡ false)
      × (0 < waiting (at rows m))
      × ((at rows m).lag < (at rows m).lag_limit)
      × ((at rows m).lead ≡ 0)
  Bears m Forfeited = (able rows clean m ≡ false) × ((at rows m).lead ≡ 0)

  abbrev pub Right : Option ℕ → Taking × Charge → Type 0
  Right None x = Serves x.0 × (x.1 ≡ Nothing)
  Right (Some m) x = ((x.0 ≡ Own m) × (x.1 ≡ Nothing) × (able rows clean m ≡ true)) ⊎ (Serves x.0 × Bears m x.1)

  pub past_unable : (f : ℕ) → length rows ≤ f → able rows clean f ≡ false
  past_unable f h = rw (get_or_past rows f (fresh no_line) h) refl

  pub able_inside : (f : ℕ) → able rows clean f ≡ true → f < length rows
  able_inside f e = elim (cases_lt f (length rows)) [
    | inl l ↦ l
    | inr l ↦ absurd (true≢false (sym e ∙ past_unable f l))
  ]

  able_waits : (f : ℕ) → able rows clean f ≡ true → 0 < waiting (at rows f)
  able_waits f e = ltb-true 0 (waiting (at rows f)) (and_parts (ltb 0 (waiting (at rows f))) (clean f) e).0

  -- ## Who is idle

  -- a slot in which somebody is able is not idle
  pub idle_if_nobody : ((f : ℕ) → able rows clean f ≡ false) → (t : Taking) → Serves t → t ≡ Idle
  idle_if_nobody n Idle a = refl
  idle_if_nobody n (Own f) a = absurd a
  idle_if_nobody n (LagRepaid f) a = absurd (true≢false (sym a.0 ∙ n f))
  idle_if_nobody n (LeadCharged f) a = absurd (true≢false (sym a.0 ∙ n f))
  idle_if_nobody n (Free f) a = absurd (true≢false (sym a ∙ n f))

  pub idle_exactly :
      (o : Option ℕ) (x : Taking × Charge) → Right o x
      → (x.0 ≡ Idle → (f : ℕ) → able rows clean f ≡ false) × (((f : ℕ) → able rows clean f ≡ false) → x.0 ≡ Idle)
  idle_exactly None x r = (λ e. subst Serves e r.0, λ n. idle_if_nobody n x.0 r.0)
  idle_exactly (Some m) x (inl r) =
      (λ e. cc (e, r.0), λ n. absurd (true≢false (sym r.2 ∙ n m)))
  idle_exactly (Some m) x (inr r) = (λ e. subst Serves e r.0, λ n. idle_if_nobody n x.0 r.0)

  -- ## What is right can be booked

  -- one who is able is not one who is not
  not_named : (f m : ℕ) → able rows clean f ≡ true → able rows clean m ≡ false → names (Some f) m ≡ false
  not_named f m a b =
      ne_eqb f m (λ e. true≢false (sym (subst (λ j. able rows clean j ≡ true) e a) ∙ b))

  sender_not : (t : Taking) (m : ℕ) → Serves t → able rows clean m ≡ false → names (sender_of t) m ≡ false
  sender_not Idle m s b = refl
  sender_not (Own f) m s b = absurd s
  sender_not (LagRepaid f) m s b = not_named f m s.0 b
  sender_not (LeadCharged f) m s b = not_named f m s.0 b
  sender_not (Free f) m s b = not_named f m s b

  may_send : (t : Taking) → Serves t → MaySend rows t
  may_send Idle s = tt
  may_send (Own f) s = s
  may_send (LagRepaid f) s = (able_waits f s.0, s.1)
  may_send (LeadCharged f) s = (able_waits f s.0, s.1, s.2)
  may_send (Free f) s = able_waits f s

  may_bear : (m : ℕ) (t : Taking) (c : Charge) → Serves t → Bears m c → MayBear rows m t c
  may_bear m t Nothing s b = b
  may_bear m t LeadDown s b = b
  may_bear m t LagUp s b = (b.2, b.3, sender_not t m s b.0)
  may_bear m t Forfeited s b = tt

  right_settles :
      (o : Option ℕ) (t : Taking) (c : Charge) → ((m : ℕ) → o ≡ Some m → m < length rows)
      → Right o (t, c) → Settles rows o t c
  right_settles None t c inside r = (may_send t r.0, r.1)
  right_settles (Some m) t c inside (inl r) = (inside m refl, inl (r.0, r.1, able_waits m r.2))
  right_settles (Some m) t c inside (inr r) = (inside m refl, inr (may_send t r.0, may_bear m t c r.0 r.1))

  -- ## What the rules say is right

  module _ (ring : Ring) where
    repays : (f : ℕ) → repayable rows clean f ≡ true → Serves (LagRepaid f)
    repays f e = let p = and_parts (lags (at rows f)) (able rows clean f) e in (p.1, ltb-true 0 (at rows f).lag p.0)

    leads_more : (f : ℕ) → can_lead_more rows clean f ≡ true → Serves (LeadCharged f)
    leads_more f e =
        let p = and_parts (able rows clean f) _ e in
        let q = and_parts (leads (at rows f)) _ p.1 in
        (p.0, ltb-true (at rows f).lead (at rows f).lead_limit q.1, inl (ltb-true 0 (at rows f).lead q.0))

    begins_to_lead : (f : ℕ) → can_start_to_lead rows clean f ≡ true → Serves (LeadCharged f)
    begins_to_lead f e =
        let p = and_parts (able rows clean f) _ e in
        let q = and_parts (in_sync (at rows f)) _ p.1 in
        let r = and_parts (eqb (at rows f).lead 0) _ q.0 in (
          p.0,
          omega (arith, eqb-true (at rows f).lead 0 r.0, ltb-true 0 (at rows f).lead_limit q.1),
          inr (eqb-true (at rows f).lag 0 r.1),
        )

    moved_found : (P : ℕ → Type 0) (o : Option ℕ) → Found P o → Found P (moved_to rows clean ring o).0
    moved_found P None h = h
    moved_found P (Some f) h = h

    pub ring_found : Found (λ f. Serves (LagRepaid f)) (ring_finds rows clean ring).0
    ring_found =
        let test : ℕ → Bool = repayable rows clean in
        found_as (λ f. test f ≡ true) (λ f. Serves (LagRepaid f)) repays (ring_finds rows clean ring).0
        (cond_both (finds_again rows clean ring) _ _ (λ (x : Option ℕ × Ring). Found (λ f. test f ≡ true) x.0)
        (λ e. (and_parts (test ring.pointer) (ltb 0 ring.remainder) e).0)
        (λ _. moved_found (λ f. test f ≡ true) _ (find_found test (flows_around (length rows) ring.pointer))))

    pub charge_found : Found (λ f. Serves (LeadCharged f)) (chargeable rows clean)
    charge_found =
        either_found (λ f. Serves (LeadCharged f)) _ _
        (found_as (λ f. can_lead_more rows clean f ≡ true) (λ f. Serves (LeadCharged f)) leads_more _
        (least_found (can_lead_more rows clean) (leads_less rows clean) (flows rows)))
        (found_as (λ f. can_start_to_lead rows clean f ≡ true) (λ f. Serves (LeadCharged f)) begins_to_lead _
        (find_found (can_start_to_lead rows clean) (flows rows)))

    able_serves : Serves (lowest_able_or_idle rows clean)
    able_serves =
        go (lowest_able rows clean) (find_found (able rows clean) (flows rows)) (find_missed (able rows clean) (flows rows))
      where
        go :
            (o : Option ℕ) → Found (λ f. Serves (Free f)) o → Missed (able rows clean) (flows rows) o
            → Serves (option_map_or Free o Idle)
        go None h k = λ f. elim (cases_lt f (length rows)) [
          | inl l ↦ all_in_range (λ x. able rows clean x ≡ false) 0 (length rows) k f (omega arith) (omega arith)
          | inr l ↦ past_unable f l
        ]
        go (Some f) h k = h

    ring_serves : (other : Taking) → Serves other → Serves (ring_or rows clean ring other)
    ring_serves other h = map_or_both _ LagRepaid (ring_finds rows clean ring).0 other Serves ring_found (λ f e. e) h

    charge_serves : (other : Taking) → Serves other → Serves (chargeable_or rows clean other)
    charge_serves other h = map_or_both _ LeadCharged (chargeable rows clean) other Serves charge_found (λ f e. e) h

    leading_right : (m : ℕ) → 0 < (at rows m).lead → Right (Some m) (leading_slot rows clean ring m)
    leading_right m l =
        map_or_both (λ f. Serves (LagRepaid f)) _ (cond (designated (at rows m)) (ring_finds rows clean ring).0 None) _
        (Right (Some m))
        (cond_both (designated (at rows m)) (ring_finds rows clean ring).0 None (Found (λ f. Serves (LagRepaid f)))
        (λ _. ring_found) (λ _. tt))
        (λ f e. inr (e, l))
        (cond_both (able rows clean m) _ _ (Right (Some m)) (λ a. inl (refl, refl, a))
        (λ _. inr (ring_serves _ (charge_serves _ able_serves), l)))

    owing_right : (m : ℕ) → Bears m LagUp → Right (Some m) (owing_slot rows clean ring)
    owing_right m b =
        map_or_both (λ f. Serves (LagRepaid f)) _ (ring_finds rows clean ring).0 _ (Right (Some m)) ring_found (λ f e. inr (e, b))
        (map_or_both (λ f. Serves (LeadCharged f)) _ (chargeable rows clean) _ (Right (Some m)) charge_found (λ f e. inr (e, b))
        (inr (able_serves, (b.0, b.3))))

    in_turn_right :
        (m : ℕ) → (at rows m).lead ≡ 0
        → Right (Some m)
        (cond (able rows clean m) (Own m, Nothing)
        (cond (ltb 0 (waiting (at rows m)) && ltb (at rows m).lag (at rows m).lag_limit) (owing_slot rows clean ring)
        (forfeited_slot rows clean ring)))
    in_turn_right m l =
        cond_both (able rows clean m) _ _ (Right (Some m)) (λ a. inl (refl, refl, a))
        (λ a. cond_both (ltb 0 (waiting (at rows m)) && ltb (at rows m).lag (at rows m).lag_limit) _ _ (Right (Some m))
        (λ e.
        let p = and_parts (ltb 0 (waiting (at rows m))) _ e in
        owing_right m (a, ltb-true 0 (waiting (at rows m)) p.0, ltb-true (at rows m).lag (at rows m).lag_limit p.1, l))
        (λ _. inr (ring_serves _ able_serves, (a, l))))

    pub slot_right : (o : Option ℕ) → Right o (slot_of rows clean ring o)
    slot_right None = (ring_serves _ able_serves, refl)
    slot_right (Some m) =
        cond_both (leads (at rows m)) _ _ (Right (Some m)) (λ e. leading_right m (ltb-true 0 (at rows m).lead e))
        (λ e. in_turn_right m (omega (arith, ltb-false 0 (at rows m).lead e)))

    -- and so it can be booked
    pub slot_settles :
        (o : Option ℕ) → ((m : ℕ) → o ≡ Some m → m < length rows)
        → Settles rows o (slot_of rows clean ring o).0 (slot_of rows clean ring o).1
    slot_settles o inside = right_settles o _ _ inside (slot_right o)
