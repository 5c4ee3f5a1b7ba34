use Rattle.std.proofs.Common.{rules}
use Rattle.rounds.proofs.Rounded.{fewest_told}
use Rattle.rounds.proofs.fewest.fewest_marks.Goals as goal

pub returns : goal.returns
returns c =
    fewest_told c.args.turns c.args.weight c.args.total c.args.allowance c.saturating_sub-owed.result (search rules)
    c.then.result c.then.ensures.variant (search rules)
