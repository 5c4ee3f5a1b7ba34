use Rattle.std.proofs.Common.{rules, Some}
use Rattle.cell_rules.specs.Rules.{has}
use Rattle.cell_rules.proofs.InOrder.{chargeable_is_in_order}
use Rattle.cell.proofs.flows.Flows.chargeable.Goals as goal

pub returns-in-Some-clause-in_order : goal.returns-in-Some-clause-in_order
returns-in-Some-clause-in_order c =
    let f = c.args.self.now in
    chargeable_is_in_order f.rows.now (has f.clean.bits) (Some c.in-Some.flow) (search rules)

pub returns-in-None-clause-in_order : goal.returns-in-None-clause-in_order
returns-in-None-clause-in_order c =
    let f = c.args.self.now in
    chargeable_is_in_order f.rows.now (has f.clean.bits) c.first_in_sync.result (search rules)
