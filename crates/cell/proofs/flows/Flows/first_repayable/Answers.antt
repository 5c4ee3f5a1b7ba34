use Rattle.std.proofs.Common.{◌<◌, ◌≤◌, min, length, arith, sym, ◌∙◌}
use Rattle.cell_rules.specs.Rules.{repayable, has}
use Rattle.cell.proofs.Upward.{found_here, none_left_of, not_here}
use Rattle.cell.proofs.flows.Flows.first_repayable.Goals as goal

pub returns-then-can_be_repaid-clause-found : goal.returns-then-can_be_repaid-clause-found
returns-then-can_be_repaid-clause-found c =
    let f = c.args.self.now in
    let below : c.loop-place.place < c.args.to = omega arith in
    sym (c.loop-place.invariant ∙ found_here (repayable f.rows.now (has f.clean.bits)) c.loop-place.place c.args.to below (sym c.if-can_be_repaid.ensures))

pub loop-place-preserved : goal.loop-place-preserved
loop-place-preserved c =
    let f = c.args.self.now in
    let below : c.loop-place.place < c.args.to = omega arith in
    c.loop-place.invariant
    ∙ not_here (repayable f.rows.now (has f.clean.bits)) c.loop-place.place c.args.to below (sym c.if-can_be_repaid.ensures)

pub returns-clause-found : goal.returns-clause-found
returns-clause-found c =
    let f = c.args.self.now in
    let none_left : min c.args.to (length f.rows.now) ≤ c.loop-place.place = omega arith in
    sym (c.loop-place.invariant ∙ none_left_of f.rows.now (has f.clean.bits) c.loop-place.place c.args.to none_left)
