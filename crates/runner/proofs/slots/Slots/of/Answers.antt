use Rattle.std.proofs.Common.{◌∙◌}
use Rattle.runner.proofs.SlotsLeft.{all_slots}
use Rattle.runner.proofs.slots.Slots.of.Goals as goal

pub returns-clause-whole : goal.returns-clause-whole
returns-clause-whole c =
    λ answers drained. all_slots answers (record { run = c.new.result; rest = c.args.input }) drained ∙ c.new.ensures c.args.input.now
