use Rattle.std.proofs.Common.{◌≡◌, map, All}
use Rattle.std.specs.List.{filter, range_with_len}
use Rattle.cell_rules.specs.Rules.{can_lead_more, has}
use Rattle.cell.specs.Leaders.{flow_of, HasItsRow}
use Rattle.cell.proofs.flows.Flows.leaders.Given as goal

-- the leaders among the flows so far are found
abbrev pub invariant-loop-place : goal.invariant-loop-place
invariant-loop-place l =
    record {
      who : map flow_of l.found.items ≡ filter (can_lead_more l.self.rows.now (has l.self.clean.bits)) (range_with_len 0 l.place);
      read : All (HasItsRow l.self.rows.now) l.found.items;
    }
