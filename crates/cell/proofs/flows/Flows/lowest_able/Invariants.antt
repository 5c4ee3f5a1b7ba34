use Rattle.std.proofs.Common.{◌≡◌, ◌-◌, length}
use Rattle.std.specs.List.{find, range_with_len}
use Rattle.cell_rules.specs.Rules.{able, lowest_able, has}
use Rattle.cell.proofs.flows.Flows.lowest_able.Given as goal

-- the lowest able flow is the lowest of the flows that are left
abbrev pub invariant-loop-place : goal.invariant-loop-place
invariant-loop-place l =
    lowest_able l.self.rows.now (has l.self.clean.bits)
    ≡ find (able l.self.rows.now (has l.self.clean.bits)) (range_with_len l.place (length l.self.rows.now - l.place))
