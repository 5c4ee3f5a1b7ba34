use Rattle.std.proofs.Common.{◌∙◌, sym, length, None, Some, rules}
use Rattle.cell_rules.specs.Rules.{able, has}
use Rattle.cell_rules.proofs.InOrder.{lowest_able_is_lowest}
use Rattle.cell.proofs.Upward.{not_here, found_here}
use Rattle.cell.proofs.flows.Flows.lowest_able.Goals as goal

pub loop-place-preserved : goal.loop-place-preserved
loop-place-preserved c =
    let f = c.args.self.now in
    c.loop-place.invariant
    ∙ not_here (able f.rows.now (has f.clean.bits)) c.loop-place.place (length f.rows.now) c.loop-place-test.true (sym c.if-can_send.ensures)

pub returns-then-can_send-clause-lowest : goal.returns-then-can_send-clause-lowest
returns-then-can_send-clause-lowest c =
    let f = c.args.self.now in
    let here = found_here (able f.rows.now (has f.clean.bits)) c.loop-place.place (length f.rows.now) c.loop-place-test.true (sym c.if-can_send.ensures) in
    lowest_able_is_lowest f.rows.now (has f.clean.bits) (Some c.loop-place.place) (sym (c.loop-place.invariant ∙ here))

pub returns-clause-lowest : goal.returns-clause-lowest
returns-clause-lowest c =
    let f = c.args.self.now in
    lowest_able_is_lowest f.rows.now (has f.clean.bits) None (search rules)
