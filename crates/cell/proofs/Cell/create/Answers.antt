use Rattle.std.proofs.Common.{◌≡◌, None, subst, ap, ◌∙◌}
use Rattle.table.specs.Layout.{flow_lines}
use Rattle.table.proofs.InRange.{flow_lines_length}
use Rattle.cell_rules.specs.Rules.{first_ring}
use Rattle.cell.specs.Creation.{creation_refusal}
use Rattle.cell.proofs.Creations.{created_state, created_past}
use Rattle.cell.proofs.Cell.create.Goals as goal

pub invariant_of-result : goal.invariant_of-result
invariant_of-result g c =
    let t = c.in-Ok.table in
    record {
      has_a_past =
          created_past g.R.Reference.meaning (g.R.Reference.held c.args.reference) (g.R.Reference.held c.all_leave.new.reference)
          (flow_lines t) t.flow_count c.of.result c.new.result c.all_leave.ensures c.of.ensures.rows c.of.ensures.slots
          (c.new.ensures ∙ ap first_ring c.flow_count-in-Ok.ensures) (flow_lines_length t)
          (c.in-Ok.ensures.2 ∙ c.flow_count.ensures) (g.met.R.Reference.sound c.args.reference);
    }

pub returns-in-Ok : goal.returns-in-Ok
returns-in-Ok g c =
    let t = c.in-Ok.table in (
      subst (λ n. creation_refusal c.args.bytes.now n ≡ None) c.flow_count.ensures c.in-Ok.ensures.0,
      t,
      c.in-Ok.ensures.1,
      created_state g.R.Reference.meaning (g.R.Reference.held c.args.reference) (g.R.Reference.held c.all_leave.new.reference)
          (flow_lines t) t.flow_count c.of.result c.new.result c.all_leave.ensures c.of.ensures.rows c.of.ensures.slots
          (c.new.ensures ∙ ap first_ring c.flow_count-in-Ok.ensures) (flow_lines_length t)
          (c.in-Ok.ensures.2 ∙ c.flow_count.ensures),
    )
