use Rattle.std.proofs.Common.{arith}
use Rattle.octets.proofs.Tails.{tail_written}
use Rattle.octets.proofs.output.write.Goals as goal

pub returns : goal.returns
returns c =
    tail_written c.args.out.now c.put.new.out _ c.args.bytes.now c.args.at
    c.in_ok-next.next (omega (arith, c.in_ok-next.ensures)) (omega (arith, c.in_ok-next.ensures)) (cc) (cc)
