use Rattle.std.proofs.Common.{length}
use Rattle.runner.proofs.Feeds.{FedUpTo}
use Rattle.runner.proofs.Run.feed.Given as goal

abbrev pub invariant-loop-rest : goal.invariant-loop-rest
invariant-loop-rest g l =
    FedUpTo l.initial.self l.input l.self l.rest (g.W.Write.contents l.initial.output) (g.W.Write.contents l.output)

abbrev pub decreases-loop-rest : goal.decreases-loop-rest
decreases-loop-rest g l = length l.rest
