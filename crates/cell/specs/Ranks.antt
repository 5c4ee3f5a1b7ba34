-- Proofs, for the order of leaders: by it one comes before another only one way, and it chains.
use Rattle.std.specs.Cmp.{IsStrictWeakOrder}
use Rattle.order.specs.Fractions.{below_one_way, below_chain}
use Rattle.cell.specs.Leaders.{sooner}

pub sooner_ranks : IsStrictWeakOrder sooner
sooner_ranks =
    record {
      one_way = λ x y h. below_one_way x.lead x.limit y.lead y.limit h;
      chain = λ x y z h k. below_chain x.lead x.limit y.lead y.limit z.lead z.limit y.positive h k;
    }
