-- Proofs: one flow keeps the laws of a reference.
use Rattle.std.specs.Prelude.{◌≡◌, ℕ, Bool, false, None}
use Rattle.std.proofs.Common.{arith}
use Rattle.std.proofs.lemmas.Bool.Decides.{nat_tests}
use Rattle.reference.specs.Meaning.{Lawful}
use Rattle.one_flow.specs.OneFlow.{one_flow}

-- where no flow is due flow 0 is not, and no other can be marked; the other laws are seen case by case
pub one_flow_lawful : Lawful one_flow
one_flow_lawful =
    let none : (due : Bool) → ((f : ℕ) → one_flow.due due f ≡ false) → one_flow.marks due ≡ None
    = λ due not_due. let first = not_due 0 in grind (arith, nat_tests) in
    grind (arith, nat_tests, none)
