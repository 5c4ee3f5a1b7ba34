-- A bit is what is left of the set once it is shifted there; past its sixteen bits there is none.
use Rattle.std.proofs.Common.{arith, rules, refl, Fits, w16}
use Rattle.std.proofs.lemmas.Bool.Decides.{nat_tests}
use Rattle.std.proofs.lemmas.Nat.Bits.{shr_and_one, bit_at_above}
use Rattle.cell.proofs.flow_set.FlowSet.contains.Goals as goal

pub returns-then-flow-lt16 : goal.returns-then-flow-lt16
returns-then-flow-lt16 c = rw shr_and_one refl

pub returns-else-flow-lt16 : goal.returns-else-flow-lt16
returns-else-flow-lt16 c =
    let fits : Fits w16 c.args.self.bits = search rules in
    grind (arith, nat_tests, bit_at_above c.args.self.bits 16 c.args.flow)
