use Rattle.std.proofs.Common.{take, sym, refl, rules, arith}
use Rattle.round_robin_rule.specs.Rule.{no_quota, quota_at, ready}
use Rattle.round_robin.specs.Held.{held_length}
use Rattle.round_robin.proofs.Found.{found_in_turn}
use Rattle.round_robin.proofs.Changes.{found_inside}
use Rattle.round_robin.proofs.RoundRobin.next_ready.Goals as goal

pub returns : goal.returns
returns c =
    let r = c.args.self.now in
    let qs = take r.count r.quotas in
    let long = held_length r in
    let first
    = found_in_turn ready no_quota (λ f. ready (quota_at qs f)) c.or_else.result r.pointer r.count (λ k. search rules)
    c.first_ready.result c.or_else.ensures c.first_ready.ensures qs (sym long) (omega (arith, long, r.points)) (λ f l. refl) in
    record { first = first; inside = found_inside r _ first }
