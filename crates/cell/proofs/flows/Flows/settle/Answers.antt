use Rattle.std.proofs.Common.{◌≡◌, ◌∙◌, ap, sym}
use Rattle.cell_rules.specs.Rules.{slot_of}
use Rattle.cell.specs.FlowsView.{clean_of, rows_of}
use Rattle.cell.specs.RingView.{ring_held}
use Rattle.cell.proofs.Settled.{settled_fits, settled_books}
use Rattle.cell.proofs.flows.Flows.settle.Goals as goal
use Rattle.cell.proofs.flows.Flows.settle.Goals.{After-settle_unmarked, After-settle_marked}

-- either settlement is the rules' for what is marked
unmarked_so :
    (c : After-settle_unmarked)
    → c.settle_unmarked.result
    ≡ slot_of (rows_of c.args.self.now) (clean_of c.args.self.now) (ring_held c.args.ring.now) c.args.marked
unmarked_so c =
    c.settle_unmarked.ensures.settled
    ∙ ap (slot_of (rows_of c.args.self.now) (clean_of c.args.self.now) (ring_held c.args.ring.now)) (sym c.in_default.is)

marked_so :
    (c : After-settle_marked)
    → c.settle_marked.result
    ≡ slot_of (rows_of c.args.self.now) (clean_of c.args.self.now) (ring_held c.args.ring.now) c.args.marked
marked_so c =
    c.settle_marked.ensures.settled
    ∙ ap (slot_of (rows_of c.args.self.now) (clean_of c.args.self.now) (ring_held c.args.ring.now)) (sym c.in-Some.is)

pub returns-in_default-clause-fits : goal.returns-in_default-clause-fits
returns-in_default-clause-fits c =
    settled_fits c.args.self.now (ring_held c.args.ring.now) c.args.marked c.requires c.settle_unmarked.result
    (unmarked_so (goal.at.returns-in_default-clause-fits c).After-settle_unmarked)

pub returns-in_default-clause-books : goal.returns-in_default-clause-books
returns-in_default-clause-books c =
    settled_books c.args.self.now (ring_held c.args.ring.now) c.args.marked c.requires c.settle_unmarked.result
    (unmarked_so (goal.at.returns-in_default-clause-books c).After-settle_unmarked)

pub returns-clause-fits : goal.returns-clause-fits
returns-clause-fits c =
    settled_fits c.args.self.now (ring_held c.args.ring.now) c.args.marked c.requires c.settle_marked.result
    (marked_so (goal.at.returns-clause-fits c).After-settle_marked)

pub returns-clause-books : goal.returns-clause-books
returns-clause-books c =
    settled_books c.args.self.now (ring_held c.args.ring.now) c.args.marked c.requires c.settle_marked.result
    (marked_so (goal.at.returns-clause-books c).After-settle_marked)
