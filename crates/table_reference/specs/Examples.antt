-- Worked marks of both kinds.
use Rattle.std.specs.Prelude.{◌≡◌, ℕ, List, [], ◌∷◌, Some, None, Option}
use Rattle.reference.specs.Calls.{Call, marks_of, turns_then}
use Rattle.reference.specs.Calls.Call.{turning, entering, leaving}
use Rattle.round_robin_rule.specs.Rule.{round_robin}
use Rattle.round_robin_rule.specs.Rule.{start as robin_start}
use Rattle.table.specs.declared.line.Line.{Line}
use Rattle.tag_rule.specs.Rule.{start as tags_start, rule_marks}

-- a flow by its weight and its delay weight
abbrev pub flow : ℕ → ℕ → Line
flow r d = record { weight = r; delay_weight = d; lag_limit = 0; lead_limit = 0 }

-- the marks of tags over these flows, and of a round robin
abbrev pub tags_marks : ℕ → List Line → List Call → List (Option ℕ)
tags_marks lookahead flows calls = rule_marks (tags_start lookahead flows) calls

abbrev pub robin_marks : List Line → List Call → List (Option ℕ)
robin_marks flows calls = marks_of round_robin (robin_start flows) calls

pub record WorkedMarks : Type 0 where
  -- tags, lookahead 0, weights and delay weights 2 and 1, both flows due throughout
  pub tags_in_turn :
      tags_marks 0 (flow 2 2 ∷ flow 1 1 ∷ []) (entering 0 ∷ entering 1 ∷ turns_then 6 [])
      ≡ Some 0 ∷ Some 1 ∷ Some 0 ∷ Some 0 ∷ Some 1 ∷ Some 0 ∷ []
  -- the same with lookahead 1: flow 0 may go ahead
  pub tags_looking_ahead :
      tags_marks 1 (flow 2 2 ∷ flow 1 1 ∷ []) (entering 0 ∷ entering 1 ∷ turns_then 3 []) ≡ Some 0 ∷ Some 0 ∷ Some 1 ∷ []
  -- a flow that enters late gets no turns for the time that it was away
  pub tags_entering_late :
      tags_marks 0 (flow 1 1 ∷ flow 1 1 ∷ []) (entering 0 ∷ turns_then 2 (entering 1 ∷ turns_then 3 []))
      ≡ Some 0 ∷ Some 0 ∷ Some 0 ∷ Some 1 ∷ Some 0 ∷ []
  -- round robin, weights 2 and 1, both flows due throughout: after three turns a new round begins
  pub robin_with_a_reset :
      robin_marks (flow 2 0 ∷ flow 1 0 ∷ []) (entering 0 ∷ entering 1 ∷ turns_then 6 [])
      ≡ Some 0 ∷ Some 1 ∷ Some 0 ∷ Some 1 ∷ Some 0 ∷ Some 0 ∷ []
  -- a flow that leaves and enters again in mid-round has used what it had used
  pub robin_entering_again :
      robin_marks (flow 2 0 ∷ flow 1 0 ∷ [])
      (entering 0 ∷ entering 1 ∷ turning ∷ leaving 0 ∷ entering 0 ∷ turns_then 3 [])
      ≡ Some 0 ∷ Some 1 ∷ Some 0 ∷ Some 1 ∷ []
  -- a new round begins for a flow that is away, too
  pub robin_reset_while_away :
      robin_marks (flow 1 0 ∷ flow 2 0 ∷ [])
      (entering 0 ∷ entering 1 ∷ turns_then 3 (leaving 0 ∷ turning ∷ entering 0 ∷ turning ∷ []))
      ≡ Some 0 ∷ Some 1 ∷ Some 1 ∷ Some 1 ∷ Some 0 ∷ []
  -- where no flow is due, none is marked, and no round begins
  pub robin_nobody_due :
      robin_marks (flow 1 0 ∷ flow 1 0 ∷ []) (turning ∷ entering 0 ∷ turning ∷ leaving 0 ∷ turning ∷ entering 1 ∷ turning ∷ [])
      ≡ None ∷ Some 0 ∷ None ∷ Some 1 ∷ []
