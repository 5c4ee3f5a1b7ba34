use Rattle.std.proofs.Common.{◌≡◌, arith, rules}
use Rattle.std.proofs.iter.runs.Made.{chains}
use Rattle.std.specs.List.{count_by}
use Rattle.rounds.proofs.Counting.{is_of, compared, times_counted}
use Rattle.rounds.proofs.count_marks.Goals as goal

pub returns : goal.returns
returns c =
    let counted : c.count.result ≡ count_by (is_of c.args.flow) c.args.marks.now = search (rules, chains, compared) in
    let times = times_counted c.args.flow c.args.marks.now in
    omega arith
