use Rattle.std.proofs.Common.{◌≡◌, ◌++◌, map, length, take, drop}
use Rattle.round_robin_rule.specs.Rule.{unused}
use Rattle.round_robin.proofs.RoundRobin.renew.Given as goal

-- so many flows are reset
abbrev pub invariant-loop-quota : goal.invariant-loop-quota
invariant-loop-quota l =
    (length l.quota-items ≡ 16)
    × (l.quota-items ≡ map unused (take l.quota-index l.fn.self.quotas) ++ drop l.quota-index l.fn.self.quotas)
