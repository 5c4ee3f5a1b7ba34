use Rattle.std.proofs.Common.{rules, Some}
use Rattle.cell_rules.specs.Rules.{has}
use Rattle.cell_rules.proofs.InOrder.{ring_finds_nearest}
use Rattle.cell.specs.RingView.{ring_held}
use Rattle.cell.proofs.ring.Ring.find.Goals as goal

pub returns-in_err-found-clause-nearest : goal.returns-in_err-found-clause-nearest
returns-in_err-found-clause-nearest c =
    let f = c.args.flows.now in
    ring_finds_nearest f.rows.now (has f.clean.bits) (ring_held c.args.self.now) c.from_residual.result (search rules)

pub returns-clause-nearest : goal.returns-clause-nearest
returns-clause-nearest c =
    let f = c.args.flows.now in
    ring_finds_nearest f.rows.now (has f.clean.bits) (ring_held c.args.self.now) (Some c.in_ok-found.found) (search rules)
