use Rattle.std.proofs.Common.{◌≡◌, ◌<◌, ◌≤◌, ◌⊎◌, true, [], ◌++◌, length, ℕ, List}
use Rattle.runner.specs.EventsView.{events_to_come}
use Rattle.runner.specs.Output.{in_front_of}
use Rattle.runner.specs.Parsing.{none_begun}
use Rattle.runner.proofs.events.Events.take_front.Given as goal

abbrev pub invariant-loop-first : goal.invariant-loop-first
invariant-loop-first l =
    (none_begun l.self.begun ≡ true)
    × (length l.rest ≤ length l.bytes)
    × ((tail : List ℕ)
    → events_to_come l.initial.self (l.bytes ++ tail) ≡ in_front_of l.records.items (events_to_come l.self (l.rest ++ tail)))
    × (((l.rest ≡ l.bytes) × (l.records.items ≡ [])) ⊎ (length l.rest < length l.bytes))

abbrev pub decreases-loop-first : goal.decreases-loop-first
decreases-loop-first l = length l.rest
