use Rattle.std.proofs.Common.{sym, ◌∙◌, subst, arith}
use Rattle.std.proofs.lemmas.Slice.Zip.{AllZip-map}
use Rattle.table.specs.Layout.{lookahead_of, flow_lines}
use Rattle.table.proofs.InRange.{flow_lines_length, flows_in_range, lookahead_in_range}
use Rattle.tag_rule.specs.Rule.{fresh}
use Rattle.tag_rule.specs.Tags.{Follows}
use Rattle.tags.specs.View.{table_clock}
use Rattle.tags.proofs.Fresh.{fresh_seen_kept, fresh_on_time, fresh_summed, fresh_seen_held}
use Rattle.tag_rule.proofs.SameMarks.{start_follows}
use Rattle.tags.proofs.Tags.of.Goals as goal

pub invariant_of-result : goal.invariant_of-result
invariant_of-result c =
    let t = c.args.table.now in
    let n = c.flow_count.ensures in
    let p = c.lookahead.ensures in
    let made = AllZip-map fresh _ _ c.per_flow.ensures.made in
    let kind = sym c.in-Tags.ensures in
    let range = flows_in_range t in
    let long = flow_lines_length t in
    record {
      sized = omega arith;
      some = omega (arith, n, long, range.0);
      few = omega (arith, n, long, range.1);
      looks = omega (arith, p, lookahead_in_range t kind);
      early = omega arith;
      kept = fresh_seen_kept t _ _ _ n p made kind;
      on_time = fresh_on_time t _ _ _ n p made;
      summed = c.total_weight.ensures.exact ∙ fresh_summed t _ _ _ n p made;
    }

pub returns-in-Tags : goal.returns-in-Tags
returns-in-Tags c =
    let t = c.args.table.now in
    let made = AllZip-map fresh _ _ c.per_flow.ensures.made in
    let holds
    = fresh_seen_held t _ _ _ c.flow_count.ensures c.lookahead.ensures made in (
      sym c.in-Tags.ensures,
      holds,
      subst (Follows (table_clock t)) (sym holds) (start_follows (lookahead_of t) (flow_lines t)),
    )
