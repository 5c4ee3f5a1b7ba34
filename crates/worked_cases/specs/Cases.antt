-- Worked cases: what the rules give, beside what was worked out by hand.
use Rattle.std.specs.Prelude.{◌≡◌, ℕ, ◌-◌, ◌^◌, Bool, true, false, List, [], ◌∷◌, map, Some, None, Option}
use Rattle.record.specs.declared.taking.Charge.{Charge}
use Rattle.record.specs.declared.taking.Charge.TheVariants.{Nothing, LeadDown, LagUp, Forfeited}
use Rattle.record.specs.declared.taking.Taking.{Taking}
use Rattle.record.specs.declared.taking.Taking.TheVariants.{Idle, Own, LagRepaid, LeadCharged, Free}
use Rattle.round_robin_rule.specs.Rule.{round_robin, start}
use Rattle.table.specs.declared.line.Line.{Line}
use Rattle.table_reference.specs.Examples.{WorkedMarks}
use Rattle.runner.specs.Examples.{WorkedRuns}
use Rattle.cell_rules.specs.Rules.{Outcome, Reports, Ring, chargeable, created, opening_refusal, ring_finds}
use Rattle.cell_rules.specs.declared.row.Row.{Row}
use Rattle.fairness.specs.Past.{Call, answers, decisions, refusal_in}
use Rattle.fairness.specs.Past.Answer.{handed}
use Rattle.fairness.specs.Past.Call.{arrival, opening, flag, decision}
use Rattle.fairness.specs.Past.Which.{cell, twin}

-- a flow of weight 1 by its lag limit and its lead limit, under round robin
abbrev pub flow : ℕ → ℕ → Line
flow lag_limit lead_limit = record { weight = 1; delay_weight = 0; lag_limit = lag_limit; lead_limit = lead_limit }

-- a set for a slot of n flows in which all have flagged, by the mask of those that are clean
abbrev pub decide : ℕ → ℕ → ℕ → Call
decide n slot clean = decision (record { slot = slot; flow_count = n; flagged = 2 ^ n - 1; clean = clean })

abbrev pub slot : Option ℕ → Taking → Charge → Outcome
slot m t c = record { marked = m; taking = t; charge = c }

-- what the decisions of a cell over these flows come to, and those of its twin, and which calls are refused
abbrev pub slots : List Line → List Call → List Outcome
slots lines calls = map (λ d. d.came_to) (decisions round_robin (answers round_robin cell (created round_robin (start lines) lines) calls))

abbrev pub twin_slots : List Line → List Call → List Outcome
twin_slots lines calls = map (λ d. d.came_to) (decisions round_robin (answers round_robin twin (created round_robin (start lines) lines) calls))

abbrev pub refusals : List Line → List Call → List (Option ℕ)
refusals lines calls = map (refusal_in round_robin) (answers round_robin cell (created round_robin (start lines) lines) calls)

-- three packets for each of two flows; flow 0 is dirty in the first slot, and both are in the fifth
abbrev pub seven_slots : List Call
seven_slots =
    arrival 0 3
    ∷ arrival 1 3
    ∷ decide 2 0 2
    ∷ decide 2 1 3
    ∷ decide 2 2 3
    ∷ decide 2 3 3
    ∷ decide 2 4 0
    ∷ decide 2 5 3
    ∷ decide 2 6 3
    ∷ []

-- a flow that waits, by its lead and its lag, with limits of 8
abbrev pub row : ℕ → ℕ → Row
row lead lag =
    record {
      arrived = 9;
      marked = lag;
      sent = lead;
      free = 0;
      forfeited = 0;
      lead = lead;
      lag = lag;
      giving = 0;
      lag_limit = 8;
      lead_limit = 8;
    }

abbrev pub all_clean : ℕ → Bool
all_clean f = true

abbrev pub ring_visit : List Row → Option ℕ × Ring
ring_visit rows = ring_finds rows all_clean (record { pointer = 0; remainder = 0 })

-- two packets for each of flows 0 and 1, and ten for flow 2, which alone is clean in the first five slots but the third
abbrev pub nine_slots : List Call
nine_slots =
    arrival 0 2
    ∷ arrival 1 2
    ∷ arrival 2 10
    ∷ decide 3 0 4
    ∷ decide 3 1 4
    ∷ decide 3 2 0
    ∷ decide 3 3 4
    ∷ decide 3 4 4
    ∷ decide 3 5 7
    ∷ decide 3 6 7
    ∷ decide 3 7 7
    ∷ decide 3 8 7
    ∷ []

-- a set for the first slot of two flows, by the masks of those that have flagged and of those that have flagged clean
abbrev pub set_of : ℕ → ℕ → Reports
set_of flagged clean = record { slot = 0; flow_count = 2; flagged = flagged; clean = clean }

pub record WorkedCases : Type 0 where
  -- the marks of both references
  pub marks : WorkedMarks
  -- what runs write, byte by byte: the seven slots below among them
  pub runs : WorkedRuns
  -- two flows with limits of 2: lead charged, own turns, lag repaid in a designated slot, a forfeit, and at the end
  -- what was forfeited is sent free
  pub two_flows :
      slots (flow 2 2 ∷ flow 2 2 ∷ []) seven_slots
      ≡ slot (Some 0) (LeadCharged 1) LagUp
      ∷ slot (Some 1) (Own 1) Nothing
      ∷ slot (Some 0) (Own 0) Nothing
      ∷ slot (Some 1) (LagRepaid 0) LeadDown
      ∷ slot (Some 0) Idle Forfeited
      ∷ slot (Some 1) (Own 1) Nothing
      ∷ slot None (Free 0) Nothing
      ∷ []
  -- the same calls in clear weather
  pub two_flows_in_clear_weather :
      twin_slots (flow 2 2 ∷ flow 2 2 ∷ []) seven_slots
      ≡ slot (Some 0) (Own 0) Nothing
      ∷ slot (Some 1) (Own 1) Nothing
      ∷ slot (Some 0) (Own 0) Nothing
      ∷ slot (Some 1) (Own 1) Nothing
      ∷ slot (Some 0) (Own 0) Nothing
      ∷ slot (Some 1) (Own 1) Nothing
      ∷ slot None Idle Nothing
      ∷ []
  -- three flows with limits of 4: flow 2 is charged lead in the turns of the others, loses lead where nobody can send,
  -- and gives it back, in designated slots, to one lagging flow and then to the next around
  pub ring_goes_around :
      slots (flow 4 4 ∷ flow 4 4 ∷ flow 4 4 ∷ []) nine_slots
      ≡ slot (Some 0) (LeadCharged 2) LagUp
      ∷ slot (Some 1) (LeadCharged 2) LagUp
      ∷ slot (Some 2) Idle LeadDown
      ∷ slot (Some 0) (LeadCharged 2) LagUp
      ∷ slot (Some 1) (LeadCharged 2) LagUp
      ∷ slot (Some 2) (LagRepaid 0) LeadDown
      ∷ slot (Some 2) (Own 2) Nothing
      ∷ slot (Some 2) (LagRepaid 1) LeadDown
      ∷ slot (Some 2) (Own 2) Nothing
      ∷ []
  -- a flow whose lag is at its limit forfeits, and its slot is sent free, though flow 1 leads by less than its limit
  pub lag_at_its_limit :
      slots (flow 1 2 ∷ flow 1 2 ∷ []) (arrival 0 3 ∷ arrival 1 3 ∷ decide 2 0 2 ∷ decide 2 1 3 ∷ decide 2 2 2 ∷ [])
      ≡ slot (Some 0) (LeadCharged 1) LagUp ∷ slot (Some 1) (Own 1) Nothing ∷ slot (Some 0) (Free 1) Forfeited ∷ []
  -- a flow that has sent all that arrived forfeits its turn
  pub nothing_waiting :
      slots (flow 0 0 ∷ flow 0 0 ∷ []) (arrival 0 1 ∷ arrival 1 1 ∷ decide 2 0 2 ∷ decide 2 1 1 ∷ [])
      ≡ slot (Some 0) (Free 1) Forfeited ∷ slot (Some 1) (Free 0) Forfeited ∷ []
  -- one flow that may not lag, with one packet, dirty: it forfeits
  pub one_flow_that_may_not_lag :
      slots (flow 0 0 ∷ []) (arrival 0 1 ∷ decide 1 0 0 ∷ []) ≡ slot (Some 0) Idle Forfeited ∷ []
  -- what an opening and flags hand back
  pub opened_and_flagged :
      answers round_robin cell (created round_robin (start (flow 2 2 ∷ flow 2 2 ∷ [])) (flow 2 2 ∷ flow 2 2 ∷ []))
      (opening ∷ flag (set_of 0 0) 1 true ∷ flag (set_of 2 2) 0 false ∷ [])
      ≡ handed (set_of 0 0) ∷ handed (set_of 2 2) ∷ handed (set_of 3 2) ∷ []
  -- refusals, and beside each what is just accepted
  pub refusals_in_order :
      refusals (flow 2 2 ∷ flow 2 2 ∷ [])
      (arrival 2 1
      ∷ arrival 1 1000000000
      ∷ arrival 1 1
      ∷ opening
      ∷ flag (set_of 1 0) 2 true
      ∷ flag (set_of 1 0) 0 true
      ∷ flag (set_of 1 0) 1 true
      ∷ decide 3 0 0
      ∷ decide 2 1 0
      ∷ decide 2 0 0
      ∷ decide 2 0 0
      ∷ [])
      ≡ Some 6 ∷ None ∷ Some 7 ∷ None ∷ Some 9 ∷ Some 10 ∷ None ∷ Some 11 ∷ Some 11 ∷ None ∷ Some 11 ∷ []
  pub no_slot_past_the_last : opening_refusal 1000000000 ≡ Some 8
  pub a_last_slot : opening_refusal 999999999 ≡ None
  -- the ring visits a flow with lag 7 for two slots, and one with lag 8 for three: so much remains after the first
  pub ring_visit_at_lag_7 : ring_visit (row 0 7 ∷ []) ≡ (Some 0, record { pointer = 0; remainder = 1 })
  pub ring_visit_at_lag_8 : ring_visit (row 0 8 ∷ []) ≡ (Some 0, record { pointer = 0; remainder = 2 })
  -- of two lagging flows, the next one around is found
  pub next_lagging_flow_is_found :
      ring_visit (row 0 4 ∷ row 0 0 ∷ row 0 8 ∷ []) ≡ (Some 2, record { pointer = 2; remainder = 2 })
  -- leads of 3, 0, 2 and 2 under limits of 8: the least lead above 0 is charged, the lower number on a tie; a lead of 4
  -- under 8 before one of 3 under 4; and one in sync only if no leading flow can be
  pub least_lead_is_charged : chargeable (row 3 0 ∷ row 0 0 ∷ row 2 0 ∷ row 2 0 ∷ []) all_clean ≡ Some 2
  pub smallest_part_is_charged : chargeable (record (row 3 0) { lead_limit = 4 } ∷ row 4 0 ∷ []) all_clean ≡ Some 1
  pub in_sync_is_charged_last : chargeable (row 8 0 ∷ row 0 1 ∷ row 0 0 ∷ row 0 0 ∷ []) all_clean ≡ Some 2
