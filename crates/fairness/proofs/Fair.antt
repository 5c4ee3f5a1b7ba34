-- A cell is fair in every past.
use Rattle.std.proofs.Common.{All, ◌≡◌, ℕ, ◌+◌, ◌*◌, ◌<◌, ◌≤◌, Bool, false, cond, ltb, List, length, get_or, count_by, sym, refl, ap, ◌∙◌, subst, inl, inr, mul-le-mul_right, zero-mul, arith}
use Rattle.std.proofs.lemmas.List.Elements.{All-from_recursion, recursion_from_All}
use Rattle.std.proofs.lemmas.Bool.{and_left, and_right, and_cases, and_parts, ltb-true, lt-ltb, le-ltb, cases_lt, both_ways}
use Rattle.record.specs.Accounts.{names, free_sender, forfeited_by}
use Rattle.record.specs.Pairs.{sender_of}
use Rattle.reference.specs.Meaning.{Meaning, Lawful}
use Rattle.table.specs.declared.line.Line.{Line}
use Rattle.table.specs.Lines.{no_line}
use Rattle.cell_rules.specs.declared.row.Row.{Row}
use Rattle.cell_rules.specs.Rules.{State, Outcome, Reports, at, fresh, waiting, able, booked_row, with_arrived, slot_of, flags_clean, created}
use Rattle.cell_rules.proofs.Settling.{idle_exactly, slot_right}
use Rattle.cell_rules.proofs.Booking.{booked_at}
use Rattle.cell_rules.proofs.Rows.{fresh_at}
use Rattle.fairness.specs.Past.{Which, Call, Decision, after, deciding, packets_accepted}
use Rattle.fairness.specs.Past.Which.{cell, twin}
use Rattle.fairness.specs.Fairness.{ByTheRules, IdleExactlyWhenNobodyCanSend, SenderWaitsAndIsClean, LagsOrForfeitsOnlyIfItCannotSend, ForfeitsOnlyIfNobodySendsOnAccount, LeaderIsChargedALeadOrNothing, SendsItsMark, CleanIn, DueAround, CountsAreTotals, decisions_of, CleanThroughout, DueWithoutABreak, Fair, FairInEveryPast}
use Rattle.fairness.proofs.Runs.{slots_counted, kept, always, each_decision, counted}
use Rattle.fairness.proofs.Arrivals.{arrivals_counted}
use Rattle.fairness.proofs.Keeping.{arrived_at, Whole, created_whole, decided_right, whole_always}
use Rattle.fairness.proofs.Twin.{InTurn, Twin, twin_always, twin_sends}
use Rattle.fairness.proofs.Same.{same_self, AlikeFrom, alike}
use Rattle.fairness.proofs.NotBehind.{Level, CleanKept, clean_keeps, marked_at_most_sent}
use Rattle.fairness.proofs.Senders.{sender_able, charged_unable}
use Rattle.fairness.proofs.Forfeits.{leader_charged, slot_forfeits}
use Rattle.fairness.proofs.Shares.{ShareKept, share_keeps, marked_share}

-- a waiting flow that is not able is dirty, and a dirty one is not able
module _ (rows : List Row) (clean : ℕ → Bool) (f : ℕ) where
  dirty : able rows clean f ≡ false → 0 < waiting (at rows f) → clean f ≡ false
  dirty e w = elim (and_cases (ltb 0 (waiting (at rows f))) (clean f) e) [
    | inl n ↦ absurd (both_ways (ltb 0 (waiting (at rows f))) n (lt-ltb 0 (waiting (at rows f)) w))
    | inr n ↦ n
  ]

  unable : (0 < waiting (at rows f) → clean f ≡ false) → able rows clean f ≡ false
  unable n = elim (cases_lt 0 (waiting (at rows f))) [
    | inl l ↦ and_right (ltb 0 (waiting (at rows f))) (clean f) (n l)
    | inr l ↦ and_left (ltb 0 (waiting (at rows f))) (clean f) (le-ltb 0 (waiting (at rows f)) l)
  ]

-- every decision, from whatever the cell held before it, is idle exactly when no waiting flow is clean
pub idle_when : (M : Meaning) (s : State M) (set : Reports) → IdleExactlyWhenNobodyCanSend M (deciding M cell s set)
idle_when M s set =
    let clean : ℕ → Bool = flags_clean set in
    let idle
    = idle_exactly s.rows clean (M.marks s.held) (slot_of s.rows clean s.ring (M.marks s.held))
    (slot_right s.rows clean s.ring (M.marks s.held)) in
    (λ e f. dirty s.rows clean f (idle.0 e f), λ n. idle.1 (λ f. unable s.rows clean f (n f)))

module _ (M : Meaning) (L : Lawful M) (h : M.Held) (sound : M.Sound h)
    (lines : List Line) (as_many : length lines ≡ M.flows h) (calls : List Call) where
  -- ## The cell and the twin, before these calls and after them

  abbrev begun : State M
  begun = created M h lines

  abbrev left : Which → State M
  left w = after M w begun calls

  abbrev row_left : Which → ℕ → Row
  row_left w f = at (left w).rows f

  begun_whole : Whole M h lines begun
  begun_whole = created_whole M L h lines sound as_many

  begun_twin : Twin M h lines begun
  begun_twin = record { whole = begun_whole; in_turn = λ k _. subst InTurn (sym (fresh_at lines k)) (refl, refl) }

  whole : (w : Which) → Whole M h lines (left w)
  whole w = always M w (Whole M h lines) (whole_always M L h lines w) calls begun begun_whole

  twin_in_turn : (f : ℕ) → f < length (left twin).rows → InTurn (row_left twin f)
  twin_in_turn = (always M twin (Twin M h lines) (twin_always M L h lines) calls begun begun_twin).in_turn

  both : AlikeFrom M cell twin calls begun begun
  both = alike M L h lines cell twin calls begun begun begun_whole (same_self M begun)

  slots_here : (left cell).slot ≡ length (decisions_of M h lines calls cell)
  slots_here = omega (arith, slots_counted M cell calls begun)

  -- ## A decision

  -- what is kept gives Q of each decision of the cell
  each :
      (Q : Decision M → Type 0) → ((s : State M) (set : Reports) → Whole M h lines s → Q (deciding M cell s set))
      → All Q (decisions_of M h lines calls cell)
  each Q gives =
      All-from_recursion Q (decisions_of M h lines calls cell)
      (each_decision M cell (Whole M h lines) (whole_always M L h lines cell) Q gives calls begun begun_whole)

  sender_is_right : (s : State M) (set : Reports) → Whole M h lines s → SenderWaitsAndIsClean M (deciding M cell s set)
  sender_is_right s set i f e =
      let x : Outcome = (deciding M cell s set).came_to in
      let a = sender_able s.rows (flags_clean set) x.marked (x.taking, x.charge) (decided_right M L h lines s i cell set) f e in
      let p = and_parts (ltb 0 (waiting (at s.rows f))) (flags_clean set f) a in
      (ltb-true 0 (waiting (at s.rows f)) p.0, p.1)

  charge_is_right :
      (s : State M) (set : Reports) → Whole M h lines s → LagsOrForfeitsOnlyIfItCannotSend M (deciding M cell s set)
  charge_is_right s set i m e c =
      let x : Outcome = (deciding M cell s set).came_to in
      dirty s.rows (flags_clean set) m
      (charged_unable s.rows (flags_clean set) x.marked (x.taking, x.charge) (decided_right M L h lines s i cell set) m e c)

  -- ## A flow

  module _ (f : ℕ) (inside : f < M.flows h) where
    in_cell : (w : Which) → f < length (left w).rows
    in_cell w = omega (arith, (whole w).count)

    -- a count that arrivals leave, and that a decision of which p holds raises by 1
    totals :
        (count : Row → ℕ) (p : Outcome → Bool)
        → ((n : ℕ) (r : Row) → count (with_arrived n r) ≡ count r)
        → ((x : Outcome) (r : Row) → count (booked_row x f r) ≡ count r + cond (p x) 1 0)
        → ((l : Line) → count (fresh l) ≡ 0)
        → (w : Which) → count (row_left w f) ≡ count_by (λ d. p d.came_to) (decisions_of M h lines calls w)
    totals count p stays grows none w =
        let all
        = counted M w (Whole M h lines) (whole_always M L h lines w) (λ s. count (at s.rows f)) (λ d. p d.came_to)
        (λ s g n e. ap count (arrived_at M s g n e f) ∙ stays _ (at s.rows f))
        (λ s set i.
        let x = (deciding M w s set).came_to in
        ap count (booked_at x s.rows f (omega (arith, i.count))) ∙ grows x (at s.rows f))
        calls begun begun_whole in
        let start : count (at begun.rows f) ≡ 0 = ap count (fresh_at lines f) ∙ none (get_or lines f no_line) in
        omega arith

    counts : (w : Which) → CountsAreTotals M (decisions_of M h lines calls w) f (row_left w f)
    counts w =
        record {
          marked = totals (λ r. r.marked) (λ x. names x.marked f) (λ _ _. refl) (λ _ _. refl) (λ _. refl) w;
          sent = totals (λ r. r.sent) (λ x. names (sender_of x.taking) f) (λ _ _. refl) (λ _ _. refl) (λ _. refl) w;
          free = totals (λ r. r.free) (λ x. names (free_sender x.taking) f) (λ _ _. refl) (λ _ _. refl) (λ _. refl) w;
          forfeited =
              totals (λ r. r.forfeited) (λ x. names (forfeited_by x.charge x.marked) f) (λ _ _. refl) (λ _ _. refl) (λ _. refl) w;
        }

    arrivals : (w : Which) → (row_left w f).arrived ≡ packets_accepted M w begun f calls
    arrivals w =
        let all = arrivals_counted M w f calls begun (omega (arith, begun_whole.count)) in
        let start : (at begun.rows f).arrived ≡ 0 = ap (λ r. r.arrived) (fresh_at lines f) in
        omega arith

    -- what the twin sent is what the cell marked
    twin_sent : (row_left twin f).sent ≡ (row_left cell f).marked
    twin_sent = (twin_in_turn f (in_cell twin)).0 ∙ sym (both.same.rows f (in_cell cell)).1

    far_behind :
        (row_left twin f).sent ≤ (row_left cell f).sent + (get_or lines f no_line).lag_limit + (row_left cell f).forfeited
    far_behind =
        let k = (whole cell).kept f (in_cell cell) in omega (arith, twin_sent, k.facts.balance, k.facts.lag_within_limit, k.lag_limit)

    far_ahead :
        (row_left cell f).sent ≤ (row_left twin f).sent + (get_or lines f no_line).lead_limit + (row_left cell f).free
    far_ahead =
        let k = (whole cell).kept f (in_cell cell) in
        omega (arith, twin_sent, k.facts.balance, k.facts.lead_within_limit, k.lead_limit)

    marked_sent : CleanThroughout M h lines calls f → (row_left cell f).marked ≤ (row_left cell f).sent
    marked_sent clean =
        let start : CleanKept M h lines f begun
        = record { whole = begun_whole; level = subst Level (sym (fresh_at lines f)) (omega arith) } in
        marked_at_most_sent M L h lines f inside (left cell)
        (kept M cell (CleanKept M h lines f) (CleanIn M f) (clean_keeps M L h lines f inside) calls begun start
        (recursion_from_All (CleanIn M f) (decisions_of M h lines calls cell) clean))

    has_share :
        CleanThroughout M h lines calls f → DueWithoutABreak M h lines calls f
        → length (decisions_of M h lines calls cell) * M.weight h f ≤ (row_left cell f).sent * M.total h + M.allowance h f
    has_share clean due =
        let start : ShareKept M h lines f begun
        = record { kept = begun_whole; due = λ z. absurd (omega arith); covered = omega (arith, zero-mul (M.weight h f)) } in
        let share
        = marked_share M L h lines f inside (left cell)
        (kept M cell (ShareKept M h lines f) (DueAround M f) (share_keeps M L h lines f inside) calls begun start
        (recursion_from_All (DueAround M f) (decisions_of M h lines calls cell) due)) in
        let more : (row_left cell f).marked * M.total h ≤ (row_left cell f).sent * M.total h
        = mul-le-mul_right (M.total h) (marked_sent clean) in
        subst (λ n. n * M.weight h f ≤ (row_left cell f).sent * M.total h + M.allowance h f) slots_here (omega arith)

  fair : Fair M h lines calls
  fair =
      record {
        decided_by_the_rules = each (ByTheRules M) (λ s set i. record { came_to = refl; after = refl });
        idle_exactly_when_nobody_can_send = each (IdleExactlyWhenNobodyCanSend M) (λ s set i. idle_when M s set);
        sender_waits_and_is_clean = each (SenderWaitsAndIsClean M) sender_is_right;
        lags_or_forfeits_only_if_it_cannot_send = each (LagsOrForfeitsOnlyIfItCannotSend M) charge_is_right;
        forfeits_only_if_nobody_sends_on_account =
            each (ForfeitsOnlyIfNobodySendsOnAccount M)
            (λ s set i m e c w l. slot_forfeits s.rows (flags_clean set) s.ring (M.marks s.held) m e w l c);
        leader_is_charged_a_lead_or_nothing =
            each (LeaderIsChargedALeadOrNothing M)
            (λ s set i m e l. leader_charged s.rows (flags_clean set) s.ring (M.marks s.held) m e l);
        as_many_flows = λ w. (whole w).count;
        reference_tells_the_same = λ w. (whole w).numbers;
        arrived_is_the_total = λ w f l. arrivals f l w;
        counts_are_totals = λ w f l. counts f l w;
        lag_limit_is_the_tables = λ w f l. ((whole w).kept f (in_cell f l w)).lag_limit;
        lead_limit_is_the_tables = λ w f l. ((whole w).kept f (in_cell f l w)).lead_limit;
        slot_counts_decisions = slots_here;
        flows_keep_their_facts = λ w f l. ((whole w).kept f (in_cell f l w)).facts;
        no_turn_without_a_packet = λ w f l. ((whole w).kept f (in_cell f l w)).marked_arrived;
        reference_agrees_on_due = λ w f l. ((whole w).kept f (in_cell f l w)).is_due;
        refused_the_same = ap (λ z. z.refusals) both.seen;
        marked_the_same = ap (λ z. z.marks) both.seen;
        twin_sends_its_marks =
            All-from_recursion (SendsItsMark M) (decisions_of M h lines calls twin)
            (each_decision M twin (Twin M h lines) (twin_always M L h lines) (SendsItsMark M)
            (λ s set i. twin_sends M L h lines s i set) calls begun begun_twin);
        clean_flow_is_not_behind = λ f l clean. omega (arith, twin_sent f l, marked_sent f l clean);
        no_flow_is_far_behind = far_behind;
        no_flow_is_far_ahead = far_ahead;
        clean_flow_that_stays_due_has_its_share = has_share;
      }

pub fair_in_every_past : (M : Meaning) → Lawful M → FairInEveryPast M
fair_in_every_past M L h lines calls sound as_many = fair M L h sound lines as_many calls
