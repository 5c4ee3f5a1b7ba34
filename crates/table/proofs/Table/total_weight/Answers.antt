use Rattle.std.proofs.Common.{◌≡◌, sum_by, ◌∙◌, rules, sym, arith}
use Rattle.table.specs.Layout.{flow_lines}
use Rattle.table.specs.declared.line.Line.{Line}
use Rattle.table.proofs.Reading.{total_positive, weights_sum_by}
use Rattle.table.proofs.Table.total_weight.Goals as goal

pub returns-clause-exact : goal.returns-clause-exact
returns-clause-exact c =
    let total : c.sum.result ≡ sum_by (λ (l : Line). l.weight) (flow_lines c.args.self.now) = search rules in
    total ∙ sym (weights_sum_by (flow_lines c.args.self.now))

pub returns-clause-positive : goal.returns-clause-positive
returns-clause-positive c = omega (arith, total_positive c.args.self.now, returns-clause-exact c)
