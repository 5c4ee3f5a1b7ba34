use Rattle.std.proofs.Common.{rules, ap, ◌∙◌}
use Rattle.runner.specs.ToCome.{to_come}
use Rattle.runner.proofs.Feeds.{none_left}
use Rattle.runner.proofs.SlotsLeft.{fewer_at_the_end}
use Rattle.runner.proofs.slots.SlotsIterator.next.Goals as goal

pub returns-in-Err-end-clause-goes : goal.returns-in-Err-end-clause-goes
returns-in-Err-end-clause-goes c =
    let left = c.loop-self.self.rest.now in
    let none = none_left left c.in_default.len_below in
    let refused = c.loop-self.invariant.0 ∙ ap (to_come c.loop-self.self.run) none ∙ c.in-Err-end.ensures.exact in
    record {
      on = λ _. (search rules, tt, fewer_at_the_end c.args.self.now (record { run = c.end.new.self; rest = c.loop-self.self.rest }) c.in-Err-end.fault refused c.end.ensures.stops c.in_default.len_below);
      keeps = search rules;
      rests = search rules;
    }
