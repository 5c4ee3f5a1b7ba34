use Rattle.std.proofs.Common.{Ok, Err, refl, sym}
use Rattle.fault.specs.declared.DecisionFault.TheVariants.{NotForThisSlot}
use Rattle.cell_rules.specs.Rules.{State}
use Rattle.fairness.proofs.Continued.{marks_a_flow}
use Rattle.cell.specs.CellView.{cell_held, Decided}
use Rattle.cell.specs.ReportSetView.{reports_held}
use Rattle.cell.specs.StateView.{state_held}
use Rattle.cell.proofs.Steps.{fair_after_decision, past_after_decision, told_idle, not_refused, refused_by_eleven}
use Rattle.cell.proofs.Cell.decide.Given.{Over}
use Rattle.cell.proofs.Cell.decide.Goals as goal
use Rattle.cell.proofs.Cell.decide.Goals.{After-decide_on}

pub returns-then-not-awaits-clause-fair : goal.returns-then-not-awaits-clause-fair
returns-then-not-awaits-clause-fair g c =
    let s = cell_held c.args.self.now in
    let refused = refused_by_eleven s.slot s.rows (reports_held c.args.reports) (sym c.if-not-awaits.ensures) in
    fair_after_decision g.R.Reference.meaning g.met.R.Reference.lawful s s c.args.reports
    (Err (record { fault = NotForThisSlot; given = c.args.reports })) (refused, refl, refl)

pub decide_on-requires-clause-marks : goal.decide_on-requires-clause-marks
decide_on-requires-clause-marks g c =
    marks_a_flow g.R.Reference.meaning g.met.R.Reference.lawful (cell_held c.args.self.now) c.args.self.now.has_a_past
    (g.met.R.Reference.sound c.args.self.now.reference)

-- what the cell holds after the decision
abbrev left : (g : Over) → After-decide_on g → State g.R.Reference.meaning
left g c =
    state_held g.R.Reference.meaning (g.R.Reference.held c.decide_on.new.reference) c.decide_on.new.ledger c.decide_on.new.ring

-- the outcome is the rules', and the cell holds what they leave
decided_so :
    (g : Over) (c : After-decide_on g)
    → Decided g.R.Reference.meaning (cell_held c.args.self.now) c.args.reports (left g c) (Ok c.decide_on.result)
decided_so g c =
    let s = cell_held c.args.self.now in
    let told = c.decide_on.ensures in (
      not_refused s.slot s.rows (reports_held c.args.reports) (sym c.if-not-awaits.ensures),
      told.said,
      told.slot,
      told.flow_count,
      told.state,
    )

pub invariant_of-self : goal.invariant_of-self
invariant_of-self g c =
    let here = (goal.at.invariant_of-self g c).After-decide_on in
    record {
      has_a_past =
          past_after_decision g.R.Reference.meaning g.met.R.Reference.lawful (cell_held c.args.self.now) (left g here)
          c.args.reports (Ok c.decide_on.result) (decided_so g here) c.args.self.now.has_a_past;
    }

pub returns-clause-exact : goal.returns-clause-exact
returns-clause-exact g c = decided_so g (goal.at.returns-clause-exact g c).After-decide_on

pub returns-clause-idle : goal.returns-clause-idle
returns-clause-idle g c =
    let here = (goal.at.returns-clause-idle g c).After-decide_on in
    told_idle g.R.Reference.meaning (cell_held c.args.self.now) (left g here) c.args.reports c.decide_on.result
    (decided_so g here)

pub returns-clause-fair : goal.returns-clause-fair
returns-clause-fair g c =
    let here = (goal.at.returns-clause-fair g c).After-decide_on in
    fair_after_decision g.R.Reference.meaning g.met.R.Reference.lawful (cell_held c.args.self.now) (left g here) c.args.reports
    (Ok c.decide_on.result) (decided_so g here)
