use Rattle.std.proofs.Common.{◌≡◌, ◌+◌, ◌-◌, ◌<◌, true, take, Some, sym, ap, ◌∙◌, arith}
use Rattle.round_robin_rule.specs.Rule.{quota_at, ready}
use Rattle.round_robin.specs.Held.{held_at}
use Rattle.round_robin.proofs.Found.{find_none, find_at}
use Rattle.round_robin.proofs.RoundRobin.first_ready.Goals as goal

pub returns-then-is_ready : goal.returns-then-is_ready
returns-then-is_ready c =
    let r = c.args.self.now in
    let i = c.args.from in
    let f = c.loop-flow.flow in
    let inside : c.loop-flow.flow < c.args.self.now.count = omega arith in
    let there
    : ready (quota_at (take c.args.self.now.count c.args.self.now.quotas) c.loop-flow.flow) ≡ true
    = ap ready (held_at r f inside)
    ∙ (ap (λ k. ready (quota_at r.quotas k)) (sym c.from.ensures) ∙ (sym c.is_ready.ensures ∙ c.if-is_ready.true)) in
    let at : c.args.from + (c.loop-flow.flow - c.args.from) ≡ c.loop-flow.flow = omega arith in
    let first
    = find_at (λ k. ready (quota_at (take r.count r.quotas) k)) i (c.args.end - i) (f - i) (omega arith)
    (λ j m. c.loop-flow.invariant (i + j) (omega arith) (omega arith)) (ap (λ k. ready (quota_at (take r.count r.quotas) k)) at ∙ there) in
    sym (first ∙ ap (λ k. Some k) at)

pub returns : goal.returns
returns c =
    let r = c.args.self.now in
    sym
    (find_none (λ k. ready (quota_at (take r.count r.quotas) k)) c.args.from (c.args.end - c.args.from)
    (λ k l. c.loop-flow.invariant (c.args.from + k) (omega arith) (omega arith)))
