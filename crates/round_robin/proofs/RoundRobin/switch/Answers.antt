use Rattle.std.proofs.Common.{refl, arith, rules}
use Rattle.round_robin.proofs.Changes.{set_kept, set_summed, switch_inside}
use Rattle.round_robin.proofs.RoundRobin.switch.Goals as goal

pub invariant_of-self-clause-kept : goal.invariant_of-self-clause-kept
invariant_of-self-clause-kept c =
    let r = c.args.self.now in
    let f = c.from.result in
    let k = r.kept f (omega arith) in
    set_kept r f (omega arith) _ (omega arith, omega arith, omega arith)

pub invariant_of-self-clause-summed : goal.invariant_of-self-clause-summed
invariant_of-self-clause-summed c = set_summed c.args.self.now c.from.result (omega arith) _ refl

pub returns-then-flow-self : goal.returns-then-flow-self
returns-then-flow-self c =
    let held = switch_inside c.args.due c.args.self.now c.args.flow (omega arith) in
    search (rules, held)
