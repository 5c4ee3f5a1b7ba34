use Rattle.std.proofs.Common.{◌≡◌, ◌≤◌, length}
use Rattle.runner.specs.Slots.{slots_to_come}
use Rattle.runner.proofs.slots.SlotsIterator.next.Given as goal

abbrev pub invariant-loop-self : goal.invariant-loop-self
invariant-loop-self l =
    (slots_to_come l.initial.self ≡ slots_to_come l.self)
    × (length l.self.rest.now ≤ length l.initial.self.rest.now)

abbrev pub decreases-loop-self : goal.decreases-loop-self
decreases-loop-self l = length l.self.rest.now
