use Rattle.std.proofs.Common.{◌∙◌, rules}
use Rattle.tags.proofs.Stored.{unmarked_same, marked_same}
use Rattle.tags.proofs.calls.TagsReference.turn.Goals as goal

pub returns-in_err-flow-clause-mark : goal.returns-in_err-flow-clause-mark
returns-in_err-flow-clause-mark c = let mark = c.in_err-flow.ensures ∙ marked_same c.args.self.now in search (rules, mark)

pub returns-in_err-flow-clause-after : goal.returns-in_err-flow-clause-after
returns-in_err-flow-clause-after c = unmarked_same c.args.self.now c.in_err-flow.ensures

pub returns-clause-mark : goal.returns-clause-mark
returns-clause-mark c = c.in_ok-flow.ensures ∙ marked_same c.args.self.now
