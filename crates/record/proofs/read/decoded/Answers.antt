use Rattle.std.proofs.Common.{get_or, ◌≡◌, Some, arith}
use Rattle.record.specs.Pairs.{taking_of}
use Rattle.record.proofs.Reading.{some_from_ok_or, record_decoded}
use Rattle.record.proofs.read.decoded.Goals as goal

pub returns : goal.returns
returns c =
    let b = c.args.bytes.now in
    let taking : Some c.in_ok-taking.taking ≡ taking_of (get_or b 5 0) c.flow_named.result = some_from_ok_or _ _ _ c.in_ok-taking.ensures in
    record_decoded b c.flow_named-2.result c.in_ok-taking.taking c.in_ok-charge.charge (get_or b 7 0)
    c.from_bytes-slot.result (λ i. omega (arith, c.type_inv.bytes i)) (omega arith) (omega arith) (omega arith) (cc)
    (rw c.flow_named.ensures at taking) (some_from_ok_or _ _ _ c.in_ok-charge.ensures) (cc) (cc) c.new.result c.new.ensures
