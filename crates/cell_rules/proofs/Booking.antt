-- What booking does to the rows: it reaches each of them, and every flow keeps its facts.
use Rattle.std.proofs.Common.{◌≡◌, ℕ, zero, suc, ◌+◌, ◌-◌, ◌<◌, ◌≤◌, min, max, false, cond, eqb, List, [], ◌∷◌, length, Some, None, Option, sym, refl, ap, ◌∙◌, subst, subst₂, inl, inr, add-zero, arith}
use Rattle.std.proofs.lemmas.Bool.{cond_both, cond-false, eqb-true, eqb-false, ltb-true, leb-false}
use Rattle.record.specs.Accounts.{names, repaid_sender, charged_sender, free_sender, lead_down_of, lag_up_of, forfeited_by}
use Rattle.record.specs.declared.taking.Charge.{Charge}
use Rattle.record.specs.declared.taking.Charge.TheVariants.{Nothing, LeadDown, LagUp, Forfeited}
use Rattle.record.specs.declared.taking.Taking.{Taking}
use Rattle.record.specs.declared.taking.Taking.TheVariants.{Idle, Own, LagRepaid, LeadCharged, Free}
use Rattle.record.specs.Pairs.{sender_of}
use Rattle.cell_rules.specs.declared.row.Row.{Row}
use Rattle.cell_rules.specs.Rules.{Outcome, at, waiting, leads, designated, given, giving_after, once, booked_row, each, booked}
use Rattle.cell_rules.specs.Facts.{Facts, Bounded, KeptRows}
use Rattle.cell_rules.specs.Bookable.{MaySend, MayBear, Settles, Bookable}

-- ## Every row is booked

each_length : (g : ℕ → Row → Row) (j : ℕ) (rows : List Row) → length (each g j rows) ≡ length rows
each_length g j [] = refl
each_length g j (r ∷ rows) = ap suc (each_length g (suc j) rows)

each_at : (g : ℕ → Row → Row) (j : ℕ) (rows : List Row) (k : ℕ) → k < length rows → at (each g j rows) k ≡ g (j + k) (at rows k)
each_at g j [] k h = absurd (omega arith)
each_at g j (r ∷ rows) zero h = rw add-zero refl
each_at g j (r ∷ rows) (suc k) h = each_at g (suc j) rows k (omega arith) ∙ ap (λ i. g i (at rows k)) (omega arith)

pub booked_length : (x : Outcome) (rows : List Row) → length (booked x rows) ≡ length rows
booked_length x rows = each_length (booked_row x) 0 rows

pub booked_at : (x : Outcome) (rows : List Row) (k : ℕ) → k < length rows → at (booked x rows) k ≡ booked_row x k (at rows k)
booked_at x rows k h = each_at (booked_row x) 0 rows k h ∙ ap (λ i. booked_row x i (at rows k)) (omega arith)

-- ## One flow

-- a flow is the one that is named, or another
pub once_case : (f k : ℕ) (P : ℕ → Type 0) → (f ≡ k → P 1) → ((f ≡ k → ⊥) → P 0) → P (once (Some f) k)
once_case f k P named other = cond_both (eqb f k) 1 0 P (λ e. named (eqb-true f k e)) (λ e. other (eqb-false f k e))

once_le : (f k : ℕ) (g : ℕ → ℕ) → 0 < g f → once (Some f) k ≤ g k
once_le f k g h = once_case f k (λ n. n ≤ g k) (λ e. subst (λ i. 0 < g i) e h) (λ _. omega arith)

once_few : (o : Option ℕ) (k : ℕ) → once o k ≤ 1
once_few None k = omega arith
once_few (Some f) k = once_case f k (λ n. n ≤ 1) (λ _. omega arith) (λ _. omega arith)

pub unnamed : (o : Option ℕ) (k : ℕ) → names o k ≡ false → once o k ≡ 0
unnamed o k e = cond-false (names o k) 1 0 e

module _ (rows : List Row) (k : ℕ) where
  -- what a sender does to the counts of flow k
  record Sends (t : Taking) : Type 0 where
    on_account : once (sender_of t) k ≡ once (repaid_sender t) k + once (charged_sender t) k + once (free_sender t) k
    waits : once (sender_of t) k ≤ waiting (at rows k)
    repays : once (repaid_sender t) k ≤ (at rows k).lag
    leads : (at rows k).lead ≤ (at rows k).lead_limit → (at rows k).lead + once (charged_sender t) k ≤ (at rows k).lead_limit
    lags_not : min (at rows k).lead (at rows k).lag ≡ 0 → min (once (charged_sender t) k) (at rows k).lag ≡ 0

  sends : (t : Taking) → MaySend rows t → Sends t
  sends Idle h = omega arith
  sends (Own f) h = absurd h
  sends (LagRepaid f) h =
      let w = once_le f k (λ i. waiting (at rows i)) h.0 in
      let l = once_le f k (λ i. (at rows i).lag) h.1 in
      omega arith
  sends (Free f) h = let w = once_le f k (λ i. waiting (at rows i)) h in omega arith
  sends (LeadCharged f) h =
      let w = once_le f k (λ i. waiting (at rows i)) h.0 in
      let same : f ≡ k → MaySend rows (LeadCharged k) = λ e. subst (λ j. MaySend rows (LeadCharged j)) e h in
      record {
        on_account = omega arith;
        waits = w;
        repays = omega arith;
        leads =
            λ l. once_case f k (λ n. (at rows k).lead + n ≤ (at rows k).lead_limit) (λ e. let s = same e in omega arith)
            (λ _. omega arith);
        lags_not = λ l. once_case f k (λ n. min n (at rows k).lag ≡ 0) (λ e. let s = same e in omega arith) (λ _. omega arith);
      }

  -- what the charge on flow m does to them
  record Bears (m : ℕ) (t : Taking) (c : Charge) : Type 0 where
    on_account :
        once (Some m) k
        ≡ once (lead_down_of c (Some m)) k + once (lag_up_of c (Some m)) k + once (forfeited_by c (Some m)) k
    pays : once (lead_down_of c (Some m)) k ≤ (at rows k).lead
    owes : (at rows k).lag ≤ (at rows k).lag_limit → (at rows k).lag + once (lag_up_of c (Some m)) k ≤ (at rows k).lag_limit
    leads_not : min (once (lag_up_of c (Some m)) k) (at rows k).lead ≡ 0
    apart : once (lag_up_of c (Some m)) k + once (sender_of t) k ≤ 1

  bears : (m : ℕ) (t : Taking) (c : Charge) → MayBear rows m t c → Bears m t c
  bears m t Nothing h = absurd h
  bears m t LeadDown h =
      let l = once_le m k (λ i. (at rows i).lead) h in let s = once_few (sender_of t) k in omega arith
  bears m t Forfeited h = let s = once_few (sender_of t) k in omega arith
  bears m t LagUp h =
      let same : m ≡ k → MayBear rows k t LagUp = λ e. subst (λ j. MayBear rows j t LagUp) e h in
      record {
        on_account = omega arith;
        pays = omega arith;
        owes =
            λ l. once_case m k (λ n. (at rows k).lag + n ≤ (at rows k).lag_limit) (λ e. let s = same e in omega arith)
            (λ _. omega arith);
        leads_not = once_case m k (λ n. min n (at rows k).lead ≡ 0) (λ e. let s = same e in omega arith) (λ _. omega arith);
        apart =
            once_case m k (λ n. n + once (sender_of t) k ≤ 1)
            (λ e. let s = unnamed (sender_of t) k (same e).2 in omega arith)
            (λ _. let s = once_few (sender_of t) k in omega arith);
      }

  -- both together
  pub record Moves (m : Option ℕ) (t : Taking) (c : Charge) : Type 0 where
    pub balance :
        once (sender_of t) k + once (lead_down_of c m) k + once (lag_up_of c m) k + once (forfeited_by c m) k
        ≡ once m k + once (repaid_sender t) k + once (charged_sender t) k + once (free_sender t) k
    pub waits : once (sender_of t) k ≤ waiting (at rows k)
    pub repays : once (repaid_sender t) k ≤ (at rows k).lag
    pub pays : once (lead_down_of c m) k ≤ (at rows k).lead
    pub leads : (at rows k).lead ≤ (at rows k).lead_limit → (at rows k).lead + once (charged_sender t) k ≤ (at rows k).lead_limit
    pub owes : (at rows k).lag ≤ (at rows k).lag_limit → (at rows k).lag + once (lag_up_of c m) k ≤ (at rows k).lag_limit
    pub lags_not : min (at rows k).lead (at rows k).lag ≡ 0 → min (once (charged_sender t) k) (at rows k).lag ≡ 0
    pub leads_not : min (once (lag_up_of c m) k) (at rows k).lead ≡ 0
    pub apart : once (lag_up_of c m) k + once (charged_sender t) k ≤ 1

  pub moves : (m : Option ℕ) (t : Taking) (c : Charge) → Settles rows m t c → Moves m t c
  moves None t c h =
      subst (λ d. Moves None t d) (sym h.1)
      (let s = sends t h.0 in
      record {
        balance = omega arith;
        waits = s.waits;
        repays = s.repays;
        pays = omega arith;
        leads = s.leads;
        owes = λ l. omega arith;
        lags_not = s.lags_not;
        leads_not = omega arith;
        apart = omega (arith, once_few (sender_of t) k);
      })
  moves (Some m) t c (l, inl h) =
      subst₂ (λ u d. Moves (Some m) u d) (sym h.0) (sym h.1) (let w = once_le m k (λ i. waiting (at rows i)) h.2 in omega arith)
  moves (Some m) t c (l, inr h) =
      let s = sends t h.0 in
      let b = bears m t c h.1 in
      record {
        balance = omega arith;
        waits = s.waits;
        repays = s.repays;
        pays = b.pays;
        leads = s.leads;
        owes = b.owes;
        lags_not = s.lags_not;
        leads_not = b.leads_not;
        apart = omega arith;
      }

  -- ## Facts and bounds are kept

  giving_kept : (r : Row) → r.lead ≤ r.lead_limit → r.giving < max 1 r.lead_limit → giving_after r < max 1 r.lead_limit
  giving_kept r l a =
      cond_both (leads r) (cond (designated r) (given r - r.lead_limit) (given r)) r.giving (λ n. n < max 1 r.lead_limit)
      (λ e. cond_both (designated r) (given r - r.lead_limit) (given r) (λ n. n < max 1 r.lead_limit)
      (λ d. omega (arith, ltb-true 0 r.lead e)) (λ d. omega (arith, leb-false r.lead_limit (given r) d)))
      (λ _. a)

  pub facts_booked : (x : Outcome) → Bookable rows x → Facts (at rows k) → Facts (booked_row x k (at rows k))
  facts_booked x h a =
      let m = moves x.marked x.taking x.charge h in
      record {
        lead_within_limit = omega arith;
        lag_within_limit = omega arith;
        never_leads_and_lags = omega (arith, m.lags_not a.never_leads_and_lags);
        giving_below_limit =
            cond_both (names x.marked k) (giving_after (at rows k)) (at rows k).giving (λ n. n < max 1 (at rows k).lead_limit)
            (λ _. giving_kept (at rows k) a.lead_within_limit a.giving_below_limit) (λ _. a.giving_below_limit);
        balance = omega arith;
        sent_at_most_arrived = omega arith;
      }

  bounded_booked : (slots : ℕ) (x : Outcome) → Bounded slots (at rows k) → Bounded (slots + 1) (booked_row x k (at rows k))
  bounded_booked slots x b =
      record {
        arrived = b.arrived;
        marked = omega (arith, b.marked, once_few x.marked k);
        free = omega (arith, b.free, once_few (free_sender x.taking) k);
        forfeited = omega (arith, b.forfeited, once_few (forfeited_by x.charge x.marked) k);
      }

-- every row keeps both
pub rows_booked :
    (slots : ℕ) (rows : List Row) (x : Outcome) → Bookable rows x → KeptRows slots rows
    → KeptRows (slots + 1) (booked x rows)
rows_booked slots rows x h k =
    let inside : (f : ℕ) → f < length (booked x rows) → f < length rows = λ f l. omega (arith, booked_length x rows) in
    record {
      facts = λ f l. subst Facts (sym (booked_at x rows f (inside f l))) (facts_booked rows f x h (k.facts f (inside f l)));
      bounded =
          λ f l. subst (Bounded (slots + 1)) (sym (booked_at x rows f (inside f l)))
          (bounded_booked rows f slots x (k.bounded f (inside f l)));
    }
