use Rattle.std.proofs.Common.{cond, refl, sym, ap, ◌∙◌}
use Rattle.cell.proofs.SameCell.{same_cell, holds_of_a_refusal}
use Rattle.cell.proofs.Steps.{past_after_arrival}
use Rattle.cell.proofs.Cell.arrive.Goals as goal

pub returns-in_err-enters-clause-unaltered : goal.returns-in_err-enters-clause-unaltered
returns-in_err-enters-clause-unaltered g c =
    holds_of_a_refusal c.from_residual.result _ (same_cell _ c.args.self.now refl c.in_err-enters.ensures.1 refl)

pub invariant_of-self-then-enters : goal.invariant_of-self-then-enters
invariant_of-self-then-enters g c =
    let M = g.R.Reference.meaning in
    let h = g.R.Reference.held c.args.self.now.reference in
    record {
      has_a_past =
          past_after_arrival M h (g.R.Reference.held c.enter.new.self) c.args.self.now.ledger c.arrive.new.self
          c.args.self.now.ring c.args.flow c.args.packets c.in_ok-enters.enters c.in_ok-enters.ensures
          (c.enter.ensures ∙ ap (λ b. cond b (M.entered h c.args.flow) h) (sym c.if-enters.true))
          g.met.R.Reference.lawful c.args.self.now.has_a_past;
    }

pub invariant_of-self-else-enters : goal.invariant_of-self-else-enters
invariant_of-self-else-enters g c =
    let M = g.R.Reference.meaning in
    let h = g.R.Reference.held c.args.self.now.reference in
    record {
      has_a_past =
          past_after_arrival M h h c.args.self.now.ledger c.arrive.new.self c.args.self.now.ring c.args.flow c.args.packets
          c.in_ok-enters.enters c.in_ok-enters.ensures
          (ap (λ b. cond b (M.entered h c.args.flow) h) (sym c.if-enters.false))
          g.met.R.Reference.lawful c.args.self.now.has_a_past;
    }
