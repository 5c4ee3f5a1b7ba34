-- The flows that were passed have one record more, and the others are as they were.
use Rattle.std.proofs.Common.{◌≡◌, ℕ, ◌<◌, ◌≤◌, slice_index_or}
use Rattle.tally.specs.declared.FlowTally.{FlowTally}
use Rattle.tally.specs.Counting.{flow_once_more}
use Rattle.tally.proofs.adding.add_to_each.Given as goal

abbrev pub invariant-loop-flow : goal.invariant-loop-flow
invariant-loop-flow l =
    record {
      added :
          (k : ℕ) (d : FlowTally) → k < l.flow
          → slice_index_or l.flows k d ≡ flow_once_more (slice_index_or l.initial.flows k d) k l.latest;
      others :
          (k : ℕ) (d : FlowTally) → l.flow ≤ k → slice_index_or l.flows k d ≡ slice_index_or l.initial.flows k d;
    }
