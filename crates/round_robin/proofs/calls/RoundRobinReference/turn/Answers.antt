use Rattle.std.proofs.Common.{◌≡◌, ◌+◌, ◌%◌, Some, refl, ap, ◌∙◌, arith, rules}
use Rattle.round_robin_rule.specs.Rule.{after_mark}
use Rattle.round_robin.specs.View.{robin_held}
use Rattle.round_robin.proofs.Changes.{set_kept, set_summed, mark_inside, mark_kept, next_around, next_above, mark_held, turn_marks, turn_leaves}
use Rattle.round_robin.proofs.calls.RoundRobinReference.turn.Goals as goal
use Rattle.round_robin.proofs.calls.RoundRobinReference.turn.Goals.{then-flow-self, else-flow-self}

pub overflow_add-self : goal.overflow_add-self
overflow_add-self c =
    let found = ap (λ f. Some f) c.from.ensures ∙ c.in_ok-flow.ensures.first in
    let kept = mark_kept c.choose.new.self c.from.result found in
    omega (arith, kept.1, kept.2)

pub invariant_of-self-clause-kept : goal.invariant_of-self-clause-kept
invariant_of-self-clause-kept c =
    let r = c.choose.new.self in
    let found = ap (λ f. Some f) c.from.ensures ∙ c.in_ok-flow.ensures.first in
    set_kept r c.from.result (mark_inside r c.from.result found) _ (mark_kept r c.from.result found)

pub invariant_of-self-clause-summed : goal.invariant_of-self-clause-summed
invariant_of-self-clause-summed c =
    let r = c.choose.new.self in
    let found = ap (λ f. Some f) c.from.ensures ∙ c.in_ok-flow.ensures.first in
    set_summed r c.from.result (mark_inside r c.from.result found) _ refl

pub returns : goal.returns
returns c =
    let h = robin_held c.args.self.now in
    let k = robin_held c.choose.new.self in
    let found = c.in_ok-flow.ensures.first in
    let left = c.in_ok-flow.ensures.left in
    let mark = found ∙ turn_marks h k left in
    let at : c.if-flow-self.self ≡ (c.in_ok-flow.flow + 1) % c.choose.new.self.count
    = elim c.if-flow-self.branch [
      | then-flow-self w ↦ w.self-is ∙ next_around c.choose.new.self _ found w.if-flow-self.true
      | else-flow-self w ↦ w.self-is ∙ next_above c.choose.new.self _ found w.if-flow-self.false
    ] in
    let after
    = mark_held c.choose.new.self c.in_ok-flow.flow found _ at
    ∙ (ap (after_mark k.quotas k.pointer) found ∙ turn_leaves h k left) in
    record { mark = search (rules, mark); after = search (rules, after) }
