use Rattle.std.proofs.Common.{◌≡◌, ℕ, ◌<◌, ◌≤◌, false}
use Rattle.round_robin_rule.specs.Rule.{quota_at, ready}
use Rattle.round_robin.specs.View.{robin_held}
use Rattle.round_robin.proofs.RoundRobin.first_ready.Given as goal

-- no flow so far is ready
abbrev pub invariant-loop-flow : goal.invariant-loop-flow
invariant-loop-flow l =
    (k : ℕ) → l.from ≤ k → k < l.flow → ready (quota_at (robin_held l.self).quotas k) ≡ false
