-- Proofs, for the order of entries: they are ranked by finish tag and then by flow.
use Rattle.std.specs.Cmp.{IsStrictWeakOrder}
use Rattle.std.proofs.Common.{arith}
use Rattle.std.proofs.lemmas.Bool.Decides.{nat_tests}
use Rattle.tag_rule.specs.Rule.{sooner}

pub sooner_ranks : IsStrictWeakOrder sooner
sooner_ranks = record { one_way = λ x y h. grind (arith, nat_tests); chain = λ x y z h k. grind (arith, nat_tests) }
