use Rattle.std.proofs.Common.{◌≡◌, ◌-◌}
use Rattle.std.specs.List.{find, range_with_len}
use Rattle.cell_rules.specs.Rules.{repayable, has}
use Rattle.cell.proofs.flows.Flows.first_repayable.Given as goal

-- the lowest of all is the lowest of those that are left
abbrev pub invariant-loop-place : goal.invariant-loop-place
invariant-loop-place l =
    find (repayable l.self.rows.now (has l.self.clean.bits)) (range_with_len l.from (l.to - l.from))
    ≡ find (repayable l.self.rows.now (has l.self.clean.bits)) (range_with_len l.place (l.to - l.place))
