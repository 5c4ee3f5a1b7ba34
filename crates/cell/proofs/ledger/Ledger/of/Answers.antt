use Rattle.std.proofs.Common.{arith}
use Rattle.std.proofs.lemmas.Slice.Zip.{AllZip-map}
use Rattle.table.specs.Layout.{flow_lines}
use Rattle.cell_rules.specs.Rules.{fresh}
use Rattle.cell_rules.proofs.Rows.{fresh_kept}
use Rattle.cell.proofs.ledger.Ledger.of.Goals as goal

pub invariant_of-result : goal.invariant_of-result
invariant_of-result c =
    let t = c.args.table.now in
    let count = c.flow_count.ensures in
    let made = AllZip-map fresh _ _ c.per_flow.ensures.made in
    record {
      sized = omega arith;
      some = rw count t.some;
      few = rw count t.few;
      early = omega arith;
      kept = rw (count, made) (fresh_kept (flow_lines t));
    }

pub returns-clause-rows : goal.returns-clause-rows
returns-clause-rows c =
    let made = AllZip-map fresh _ _ c.per_flow.ensures.made in
    rw c.flow_count.ensures made
