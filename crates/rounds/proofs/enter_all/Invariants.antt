use Rattle.std.proofs.Common.{◌≡◌}
use Rattle.rounds.specs.Rounds.{entered_below}
use Rattle.rounds.proofs.enter_all.Given as goal

abbrev pub invariant-loop-flow : goal.invariant-loop-flow
invariant-loop-flow g l =
    g.R.Reference.held l.reference
    ≡ entered_below g.R.Reference.meaning (g.R.Reference.held l.initial.reference) l.flow
