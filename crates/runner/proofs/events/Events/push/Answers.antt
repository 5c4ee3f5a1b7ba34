use Rattle.std.proofs.Common.{◌∷◌, [], refl, sym, subst}
use Rattle.std.proofs.lemmas.Result.{err_from_is_err_and}
use Rattle.runner.specs.EventsView.{Gives, events_to_come}
use Rattle.runner.specs.Parsing.{CameTo}
use Rattle.runner.proofs.EventSteps.{none_gives, taken_gives}
use Rattle.runner.proofs.events.Events.push.Goals as goal

pub returns-in_err-begun : goal.returns-in_err-begun
returns-in_err-begun c =
    let p = err_from_is_err_and c.from_residual.result c.from_residual.ensures.1 in
    let h = c.in_err-begun.ensures in
    let old = c.args.self.now in
    subst (Gives (λ rest. events_to_come old (c.args.byte ∷ rest)) (events_to_come old)) (sym p.1)
    (none_gives old c.args.byte c.in_err-begun.field-0.0 p.0 h.0 h.1 h.2 h.3 p.2)

pub returns-in-Some : goal.returns-in-Some
returns-in-Some c =
    let came = subst (CameTo _ c.in_ok-begun.begun) c.in-Some.is c.in_ok-begun.ensures in
    taken_gives c.args.self.now (record c.args.self.now { begun = c.in_ok-begun.begun }) c.take.new.self c.in-Some.event (c.args.byte ∷ []) c.take.result came.0 refl came.1 c.take.ensures
