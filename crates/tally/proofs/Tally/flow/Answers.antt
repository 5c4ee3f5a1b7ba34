use Rattle.std.proofs.Common.{◌≡◌, rules, ◌∙◌}
use Rattle.tally.proofs.FlowsTold.{flow_is_told}
use Rattle.tally.specs.Counting.{held_of_flow}
use Rattle.tally.specs.View.{tally_held}
use Rattle.tally.proofs.Tally.flow.Goals as goal

pub returns-then-flow-self-clause-counted : goal.returns-then-flow-self-clause-counted
returns-then-flow-self-clause-counted c =
    λ records so_far.
    let held : c.copied.result ≡ held_of_flow (tally_held c.args.self.now) c.args.flow = search rules in
    held ∙ flow_is_told records (tally_held c.args.self.now) c.args.flow so_far
