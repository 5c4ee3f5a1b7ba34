use Rattle.runner.proofs.Progress.{Going}
use Rattle.runner.proofs.streams.run.Given as goal

abbrev pub invariant-loop : goal.invariant-loop
invariant-loop g l =
    Going (g.R.Read.remaining l.initial.input) (g.R.Read.remaining l.input) l.run (g.W.Write.contents l.initial.output) (g.W.Write.contents l.output)
