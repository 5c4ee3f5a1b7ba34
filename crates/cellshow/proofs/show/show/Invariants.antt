-- What is kept is less than a record, so that every read has room.
use Rattle.std.proofs.Common.{◌<◌}
use Rattle.cellshow.proofs.show.show.Given as goal

abbrev pub invariant-loop : goal.invariant-loop
invariant-loop g l = l.kept < 12
