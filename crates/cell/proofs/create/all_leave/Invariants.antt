use Rattle.std.proofs.Common.{◌≡◌}
use Rattle.cell_rules.specs.Rules.{all_leave}
use Rattle.cell.proofs.create.all_leave.Given as goal

abbrev pub invariant-loop-flow : goal.invariant-loop-flow
invariant-loop-flow g l =
    g.R.Reference.held l.reference
    ≡ all_leave g.R.Reference.meaning (g.R.Reference.held l.initial.reference) l.flow
