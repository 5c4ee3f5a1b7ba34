use Rattle.std.proofs.Common.{take, get_or, sym, ap, ◌∙◌, arith, rules, tests}
use Rattle.std.proofs.lemmas.List.Edits.{map_over_more}
use Rattle.std.proofs.lemmas.List.{get_or_default}
use Rattle.round_robin_rule.specs.Rule.{no_quota, pointing_at, unused, is_due}
use Rattle.round_robin_rule.proofs.Rounds.{renewed_anew, renewed_none_due}
use Rattle.round_robin.proofs.Changes.{reset_all, reset_kept, reset_front, reset_summed}
use Rattle.reference.proofs.FirstFound.{any_some}
use Rattle.round_robin.proofs.RoundRobin.renew.Goals as goal

pub invariant_of-self-clause-kept : goal.invariant_of-self-clause-kept
invariant_of-self-clause-kept c =
    let r = c.args.self.now in
    rw (reset_all r _ _ c.loop-quota-test.false c.loop-quota.invariant.1) (reset_kept r)

pub invariant_of-self-clause-summed : goal.invariant_of-self-clause-summed
invariant_of-self-clause-summed c =
    let r = c.args.self.now in
    rw (reset_all r _ _ c.loop-quota-test.false c.loop-quota.invariant.1) (reset_summed r)

pub loop-quota-preserved : goal.loop-quota-preserved
loop-quota-preserved c =
    let qs = c.loop-quota.quota-items in
    let i = c.loop-quota.quota-index in
    let long = c.loop-quota.invariant.0 in
    let same = get_or_default qs i no_quota (get_or qs i no_quota) (omega (arith, long)) in
    let more
    = map_over_more unused c.args.self.now.quotas qs i (get_or qs i no_quota)
    (omega (arith, c.args.self.now.sized))
    c.loop-quota.invariant.1 same in
    search (rules, more, long)

pub returns-after-loop-quota : goal.returns-after-loop-quota
returns-after-loop-quota c =
    let r = c.args.self.now in
    let qs = take r.count r.quotas in
    let due = any_some is_due qs _ _ c.any.ensures.ran (cc) (λ x b q k. search (rules, tests)) in
    let anew = renewed_anew qs (sym due ∙ c.if-any.true) c.requires in
    let done = reset_all r _ _ c.loop-quota-test.false c.loop-quota.invariant.1 in
    rw done (ap (pointing_at r.pointer) (reset_front r ∙ sym anew))

pub returns-else-any : goal.returns-else-any
returns-else-any c =
    let r = c.args.self.now in
    let qs = take r.count r.quotas in
    let due = any_some is_due qs _ _ c.any.ensures.ran (cc) (λ x b q k. search (rules, tests)) in
    ap (pointing_at r.pointer) (sym (renewed_none_due qs (sym due ∙ c.if-any.false)))
