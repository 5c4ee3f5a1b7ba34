use Rattle.std.proofs.Common.{◌++◌, ◌<◌, length, arith, sym, subst}
use Rattle.std.proofs.lemmas.Result.{err_from_is_err_and}
use Rattle.runner.specs.EventsView.{Gives, events_to_come}
use Rattle.runner.proofs.EventSteps.{none_begun_after, none_in_front_gives, nothing_begun, whole_gives}
use Rattle.runner.proofs.events.Events.take_whole.Goals as goal

pub returns-in_err-event-clause-gives : goal.returns-in_err-event-clause-gives
returns-in_err-event-clause-gives c =
    let p = err_from_is_err_and c.from_residual.result c.from_residual.ensures.1 in
    let h = c.in_err-event.ensures in
    let old = c.args.self.now in
    let some : 0 < length c.args.bytes = omega arith in
    subst (Gives (λ rest. events_to_come old (c.args.bytes ++ rest)) (events_to_come old)) (sym p.1)
    (none_in_front_gives old c.args.bytes c.in_err-event.field-0.0 p.0 some (nothing_begun old.begun c.requires.between) h.0 h.1 h.2 p.2)

pub returns-clause-gives : goal.returns-clause-gives
returns-clause-gives c =
    whole_gives c.args.self.now c.take.new.self c.in_ok-event.event c.args.bytes c.take.result (nothing_begun c.args.self.now.begun c.requires.between)
    c.in_ok-event.ensures c.take.ensures

pub returns-clause-between : goal.returns-clause-between
returns-clause-between c = none_begun_after c.args.self.now c.take.new.self c.in_ok-event.event c.take.result c.requires.between c.take.ensures
