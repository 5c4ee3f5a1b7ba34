use Rattle.std.proofs.Common.{sym, subst, arith}
use Rattle.octets.specs.BigEndian.{Bytes}
use Rattle.table.specs.Refusals.{TableRead}
use Rattle.table.proofs.Deciding.{front_decides}
use Rattle.input.proofs.read_front.Goals as goal

pub returns : goal.returns
returns c =
    λ b e. front_decides b c.read.result
    (subst Bytes (sym e) (λ i. omega (arith, c.type_inv.front i)))
    (subst (λ f. TableRead f c.read.result) (sym e) c.read.ensures.exact)
