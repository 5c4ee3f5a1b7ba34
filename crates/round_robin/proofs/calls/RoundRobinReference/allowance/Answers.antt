use Rattle.std.proofs.Common.{arith, rules}
use Rattle.round_robin.specs.View.{robin_held}
use Rattle.round_robin.proofs.Told.{weight_in_total, allowance_told}
use Rattle.round_robin.proofs.calls.RoundRobinReference.allowance.Goals as goal

pub overflow_sub-rest : goal.overflow_sub-rest
overflow_sub-rest c =
    let within = weight_in_total (robin_held c.args.self.now) c.args.flow _ c.in_ok-quota.ensures in
    omega (arith, within)

pub returns : goal.returns
returns c =
    let told = allowance_told (robin_held c.args.self.now) c.args.flow _ c.in_ok-quota.ensures in
    search (rules, told)
