use Rattle.std.proofs.Common.{get_or, arith, rules}
use Rattle.std.proofs.lemmas.List.Edits.{map_over_more}
use Rattle.std.proofs.lemmas.List.{get_or_default}
use Rattle.tag_rule.specs.Rule.{no_stamp}
use Rattle.tag_rule.specs.Tags.{later}
use Rattle.tags.proofs.time.count_from.Goals as goal

pub loop-stamp-preserved : goal.loop-stamp-preserved
loop-stamp-preserved c =
    let ss = c.loop-stamp.stamp-items in
    let i = c.loop-stamp.stamp-index in
    let long = c.loop-stamp.invariant.0 in
    let same = get_or_default ss i no_stamp (get_or ss i no_stamp) (omega (arith, long)) in
    let more
    = map_over_more (later c.args.time) c.args.stamps.now ss i (get_or ss i no_stamp) (omega (arith, long))
    c.loop-stamp.invariant.1 same in
    search (rules, more, long)
