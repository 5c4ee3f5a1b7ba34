use Rattle.std.proofs.Common.{◌∙◌, ap, subst, get_or, Some}
use Rattle.order.specs.Least.{LeastAt}
use Rattle.cell_rules.specs.Rules.{has, least, leads_less}
use Rattle.cell.specs.Leaders.{sooner}
use Rattle.cell.proofs.FirstLeader.{first_is}
use Rattle.cell.proofs.flows.Flows.first_leader.Goals as goal

pub returns : goal.returns
returns c =
    let f = c.args.self.now in
    let found = c.leaders-leaders in
    let first = c.in_ok-first.first in
    let leader = c.index-deref-first.result in
    let least_at = subst (λ ls. LeastAt sooner ls (Some first)) c.deref.ensures.0 c.in_ok-first.ensures in
    ap (λ ls. Some (get_or ls first leader).flow) c.deref-2.ensures.0
    ∙ (first_is f.rows.now (has f.clean.bits) found.result.items (Some first) leader found.ensures.read least_at
    ∙ ap (least (leads_less f.rows.now (has f.clean.bits))) found.ensures.who)
