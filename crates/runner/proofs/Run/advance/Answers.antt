use Rattle.std.proofs.Common.{◌∷◌, sym, subst}
use Rattle.runner.specs.EventsView.{Gives, events_to_come}
use Rattle.runner.specs.ToCome.{stage_to_come}
use Rattle.runner.proofs.Run.advance.Goals as goal

pub returns-in-Events-clause-gives : goal.returns-in-Events-clause-gives
returns-in-Events-clause-gives c =
    subst (λ s. Gives (λ rest. stage_to_come s (c.args.byte ∷ rest)) (events_to_come c.push.new.self) c.push.result) (sym c.in-Events.is) c.push.ensures
