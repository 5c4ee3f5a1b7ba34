-- What a cell keeps in every past, over every reference: each decision is the rules', and beside its clear-weather twin
-- no flow is further behind than it should be.
use Rattle.std.specs.Prelude.{All, ◌≡◌, ℕ, ◌+◌, ◌*◌, ◌<◌, ◌≤◌, false, true, ◌⊎◌, ◌↔◌, List, map, length, Some, None, count_by, Option, nat_lt, slice_index_or}
use Rattle.record.specs.Accounts.{names, free_sender, forfeited_by}
use Rattle.record.specs.declared.taking.Charge.TheVariants.{Nothing, LeadDown, LagUp, Forfeited}
use Rattle.record.specs.declared.taking.Taking.{Taking}
use Rattle.record.specs.declared.taking.Taking.TheVariants.{Idle, Own}
use Rattle.record.specs.Pairs.{sender_of}
use Rattle.reference.specs.Meaning.{Meaning, SameNumbers}
use Rattle.table.specs.declared.line.Line.{Line}
use Rattle.table.specs.Lines.{no_line}
use Rattle.cell_rules.specs.declared.row.Row.{Row}
use Rattle.cell_rules.specs.Rules.{at, waiting, due, ring_finds, chargeable, flags_clean, outcome, decided, created}
use Rattle.cell_rules.specs.Facts.{Facts}
use Rattle.fairness.specs.Past.{Which, Call, Decision, after, answers, decisions, packets_accepted, refusal_in}
use Rattle.fairness.specs.Past.Which.{cell, twin}

-- the taking of a slot whose sender is the marked flow, and idle where none is marked
abbrev pub own_or_idle : Option ℕ → Taking
own_or_idle None = Idle
own_or_idle (Some m) = Own m

module _ (M : Meaning) where
  -- ## One decision

  -- it is the one that the rules make on the flags of its own set
  pub record ByTheRules (d : Decision M) : Type 0 where
    pub came_to : d.came_to ≡ outcome M d.before (flags_clean d.reports)
    pub after : d.after ≡ decided M d.before (flags_clean d.reports)

  -- no waiting flow is clean in its set
  abbrev pub NoWaitingFlowIsClean : Decision M → Type 0
  NoWaitingFlowIsClean d = (f : ℕ) → 0 < waiting (at d.before.rows f) → flags_clean d.reports f ≡ false

  abbrev pub IdleExactlyWhenNobodyCanSend : Decision M → Type 0
  IdleExactlyWhenNobodyCanSend d = (d.came_to.taking ≡ Idle) ↔ NoWaitingFlowIsClean d

  -- its sender waits and is clean in its set
  abbrev pub SenderWaitsAndIsClean : Decision M → Type 0
  SenderWaitsAndIsClean d =
      (f : ℕ) → sender_of d.came_to.taking ≡ Some f
      → (0 < waiting (at d.before.rows f)) × (flags_clean d.reports f ≡ true)

  -- a marked flow whose lag rises, or that forfeits, has nothing waiting or is dirty in its set
  abbrev pub LagsOrForfeitsOnlyIfItCannotSend : Decision M → Type 0
  LagsOrForfeitsOnlyIfItCannotSend d =
      (m : ℕ) → d.came_to.marked ≡ Some m → (d.came_to.charge ≡ LagUp) ⊎ (d.came_to.charge ≡ Forfeited)
      → 0 < waiting (at d.before.rows m) → flags_clean d.reports m ≡ false

  -- a waiting flow below its lag limit forfeits only where the ring finds nobody and nobody is chargeable
  abbrev pub ForfeitsOnlyIfNobodySendsOnAccount : Decision M → Type 0
  ForfeitsOnlyIfNobodySendsOnAccount d =
      (m : ℕ) → d.came_to.marked ≡ Some m → d.came_to.charge ≡ Forfeited
      → 0 < waiting (at d.before.rows m)
      → (at d.before.rows m).lag < (at d.before.rows m).lag_limit
      → ((ring_finds d.before.rows (flags_clean d.reports) d.before.ring).0 ≡ None)
      × (chargeable d.before.rows (flags_clean d.reports) ≡ None)

  -- a marked flow that leads is charged a lead, or nothing
  abbrev pub LeaderIsChargedALeadOrNothing : Decision M → Type 0
  LeaderIsChargedALeadOrNothing d =
      (m : ℕ) → d.came_to.marked ≡ Some m → 0 < (at d.before.rows m).lead
      → (d.came_to.charge ≡ Nothing) ⊎ (d.came_to.charge ≡ LeadDown)

  abbrev pub SendsItsMark : Decision M → Type 0
  SendsItsMark d = d.came_to.taking ≡ own_or_idle d.came_to.marked

  -- flow f is clean in its set
  abbrev pub CleanIn : ℕ → Decision M → Type 0
  CleanIn f d = flags_clean d.reports f ≡ true

  -- something is due for flow f after this decision, and before it if it is the first
  abbrev pub DueAround : ℕ → Decision M → Type 0
  DueAround f d = (d.before.slot ≡ 0 → 0 < due (at d.before.rows f)) × (0 < due (at d.after.rows f))

  -- ## A flow, after these decisions

  -- how many of them mark flow f, name it as sender, do so free, and mark it with the charge forfeited
  pub record CountsAreTotals (ds : List (Decision M)) (f : ℕ) (r : Row) : Type 0 where
    pub marked : r.marked ≡ count_by (λ d. names d.came_to.marked f) ds
    pub sent : r.sent ≡ count_by (λ d. names (sender_of d.came_to.taking) f) ds
    pub free : r.free ≡ count_by (λ d. names (free_sender d.came_to.taking) f) ds
    pub forfeited : r.forfeited ≡ count_by (λ d. names (forfeited_by d.came_to.charge d.came_to.marked) f) ds

  -- ## A past: what the reference held before creation, the table's lines, and the calls since

  module _ (h : M.Held) (lines : List Line) (calls : List Call) where
    -- the decisions of the cell, or of the twin, its refusals and its marks; at the end, the row of flow f and what the
    -- reference holds
    abbrev pub decisions_of : Which → List (Decision M)
    decisions_of w = decisions M (answers M w (created M h lines) calls)

    abbrev pub refusals_of : Which → List (Option ℕ)
    refusals_of w = map (refusal_in M) (answers M w (created M h lines) calls)

    abbrev pub marks_of : Which → List (Option ℕ)
    marks_of w = map (λ d. d.came_to.marked) (decisions_of w)

    abbrev pub flow_of : Which → ℕ → Row
    flow_of w f = at (after M w (created M h lines) calls).rows f

    abbrev pub held_by : Which → M.Held
    held_by w = (after M w (created M h lines) calls).held

    abbrev pub slots : ℕ
    slots = length (decisions_of cell)

    abbrev pub lag_limit : ℕ → ℕ
    lag_limit f = (slice_index_or lines f no_line).lag_limit

    abbrev pub lead_limit : ℕ → ℕ
    lead_limit f = (slice_index_or lines f no_line).lead_limit

    abbrev pub CleanThroughout : ℕ → Type 0
    CleanThroughout f = All (CleanIn f) (decisions_of cell)

    abbrev pub DueWithoutABreak : ℕ → Type 0
    DueWithoutABreak f = All (DueAround f) (decisions_of cell)

    pub record Fair : Type 0 where
      -- Every decision of the cell is the rules' on its own set's flags, and its slot is idle exactly when no waiting
      -- flow is clean. Its sender waits and is clean; its marked flow's lag rises, or it forfeits, only if it can't
      -- send; and it forfeits below its lag limit only if nobody sends on account. If it leads, it is charged a lead,
      -- or nothing.
      pub decided_by_the_rules : All ByTheRules (decisions_of cell)
      pub idle_exactly_when_nobody_can_send : All IdleExactlyWhenNobodyCanSend (decisions_of cell)
      pub sender_waits_and_is_clean : All SenderWaitsAndIsClean (decisions_of cell)
      pub lags_or_forfeits_only_if_it_cannot_send : All LagsOrForfeitsOnlyIfItCannotSend (decisions_of cell)
      pub forfeits_only_if_nobody_sends_on_account : All ForfeitsOnlyIfNobodySendsOnAccount (decisions_of cell)
      pub leader_is_charged_a_lead_or_nothing : All LeaderIsChargedALeadOrNothing (decisions_of cell)
      -- There are as many flows as before creation, and the reference tells the same of them, in the twin too.
      pub as_many_flows : (w : Which) → length (after M w (created M h lines) calls).rows ≡ M.flows h
      pub reference_tells_the_same : (w : Which) → SameNumbers M h (held_by w)
      -- A flow's counts are totals, in the twin too: arrived over the arrivals that were accepted, the others over the
      -- decisions. Its limits are the table's.
      pub arrived_is_the_total :
          (w : Which) (f : ℕ) → f < M.flows h → (flow_of w f).arrived ≡ packets_accepted M w (created M h lines) f calls
      pub counts_are_totals : (w : Which) (f : ℕ) → f < M.flows h → CountsAreTotals (decisions_of w) f (flow_of w f)
      pub lag_limit_is_the_tables : (w : Which) (f : ℕ) → f < M.flows h → (flow_of w f).lag_limit ≡ lag_limit f
      pub lead_limit_is_the_tables : (w : Which) (f : ℕ) → f < M.flows h → (flow_of w f).lead_limit ≡ lead_limit f
      -- The cell's slot is the number of its decisions: it is 0 before the first, and never again.
      pub slot_counts_decisions : (after M cell (created M h lines) calls).slot ≡ slots
      -- Every flow keeps its facts, in the twin too; no more of its turns are past than packets arrived, and the
      -- reference holds it due exactly if something is due for it.
      pub flows_keep_their_facts : (w : Which) (f : ℕ) → f < M.flows h → Facts (flow_of w f)
      pub no_turn_without_a_packet : (w : Which) (f : ℕ) → f < M.flows h → (flow_of w f).marked ≤ (flow_of w f).arrived
      pub reference_agrees_on_due : (w : Which) (f : ℕ) → f < M.flows h → M.due (held_by w) f ≡ nat_lt 0 (due (flow_of w f))
      -- Cell and twin refused the same calls with the same numbers, and in each slot both marked the same flow, or
      -- neither marked one. The twin's sender was its marked flow, or nobody in an unmarked slot.
      pub refused_the_same : refusals_of cell ≡ refusals_of twin
      pub marked_the_same : marks_of cell ≡ marks_of twin
      pub twin_sends_its_marks : All SendsItsMark (decisions_of twin)
      -- A flow that is clean throughout is not behind the twin, and no flow by more than its lag limit and its
      -- forfeits.
      pub clean_flow_is_not_behind :
          (f : ℕ) → f < M.flows h → CleanThroughout f → (flow_of twin f).sent ≤ (flow_of cell f).sent
      pub no_flow_is_far_behind :
          (f : ℕ) → f < M.flows h
          → (flow_of twin f).sent ≤ (flow_of cell f).sent + lag_limit f + (flow_of cell f).forfeited
      -- No flow is further ahead than its lead limit and what it sent free.
      pub no_flow_is_far_ahead :
          (f : ℕ) → f < M.flows h → (flow_of cell f).sent ≤ (flow_of twin f).sent + lead_limit f + (flow_of cell f).free
      -- A flow that is clean throughout, and due without a break, has its share of the slots, but for its allowance.
      pub clean_flow_that_stays_due_has_its_share :
          (f : ℕ) → f < M.flows h → CleanThroughout f → DueWithoutABreak f
          → slots * M.weight h f ≤ (flow_of cell f).sent * M.total h + M.allowance h f

-- whatever state the reference was in before creation, whatever table of as many flows, and whatever was asked since
abbrev pub FairInEveryPast : Meaning → Type 0
FairInEveryPast M =
    (h : M.Held) (lines : List Line) (calls : List Call) → M.Sound h → length lines ≡ M.flows h → Fair M h lines calls
