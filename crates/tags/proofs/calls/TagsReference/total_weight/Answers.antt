use Rattle.std.proofs.Common.{◌∙◌}
use Rattle.tags.specs.Held.{held_total}
use Rattle.tags.proofs.calls.TagsReference.total_weight.Goals as goal

pub returns : goal.returns
returns c = c.from.ensures ∙ held_total c.args.self.now
