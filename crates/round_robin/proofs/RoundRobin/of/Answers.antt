use Rattle.std.proofs.Common.{take, sym, ap, ◌∙◌, arith}
use Rattle.std.proofs.lemmas.Slice.Zip.{AllZip-map}
use Rattle.reference.specs.Flows.{sum}
use Rattle.round_robin_rule.specs.Rule.{pointing_at, weight_of, fresh}
use Rattle.round_robin_rule.proofs.InTurn.{marks_in_turn}
use Rattle.round_robin.proofs.Fresh.{start_kept, start_summed}
use Rattle.round_robin.proofs.RoundRobin.of.Goals as goal

pub invariant_of-result : goal.invariant_of-result
invariant_of-result c =
    let t = c.args.table.now in
    let qs = c.per_flow.result in
    let count = c.flow_count.ensures in
    let made = AllZip-map fresh _ _ c.per_flow.ensures.made in
    record {
      sized = omega arith;
      some = rw count t.some;
      few = rw count t.few;
      points = rw count t.some;
      kept = rw count (start_kept t qs made);
      summed =
          c.total_weight.ensures.exact
          ∙ (start_summed t qs made ∙ ap (λ n. sum weight_of (take n qs)) (sym count));
    }

pub returns : goal.returns
returns c =
    let made = AllZip-map fresh _ _ c.per_flow.ensures.made in
    record { starts = rw c.flow_count.ensures (ap (pointing_at 0) made); in_turn = marks_in_turn }
