use Rattle.std.proofs.Common.{refl, subst}
use Rattle.cell.specs.CellView.{Decided}
use Rattle.cell.specs.ReportSetView.{reports_held}
use Rattle.table_reference.specs.View.{own}
use Rattle.runner.specs.EventsView.{held}
use Rattle.runner.proofs.EventSteps.{flags_by_mask, phase_settled}
use Rattle.runner.proofs.events.Events.decide.Goals as goal

pub returns : goal.returns
returns c =
    let opened = c.in_ok-reports.ensures.exact in
    let decided = subst (Decided own (held c.args.self.now) c.flag_rest.new.self _) c.unwrap.ensures c.decide.ensures.exact in
    let flags = flags_by_mask _ _ _ _ c.args.clean opened.1 c.flag_rest.ensures in (
      phase_settled (held c.args.self.now) _ c.args.clean (reports_held c.flag_rest.new.self) c.unwrap.result opened.0 flags decided.1 decided.2
          decided.3 decided.4,
      refl,
    )
