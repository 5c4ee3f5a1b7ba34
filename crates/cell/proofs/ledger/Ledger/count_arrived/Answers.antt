use Rattle.cell.specs.LedgerView.{ledger_rows}
use Rattle.cell.proofs.LedgerArrivals.{arrived_front, arrived_kept}
use Rattle.cell.proofs.ledger.Ledger.count_arrived.Goals as goal

pub invariant_of-self-clause-kept : goal.invariant_of-self-clause-kept
invariant_of-self-clause-kept c =
    let l = c.args.self.now in
    let kept = arrived_kept l.slots (ledger_rows l) c.args.flow c.args.packets c.requires.inside c.requires.fits l.kept in
    rw (c.from.ensures, arrived_front l.count l.rows c.args.flow c.args.packets c.requires.inside) kept

pub returns-clause-rows : goal.returns-clause-rows
returns-clause-rows c =
    let l = c.args.self.now in
    rw c.from.ensures (arrived_front l.count l.rows c.args.flow c.args.packets c.requires.inside)
