use Rattle.std.proofs.Common.{arith}
use Rattle.table.proofs.Deciding.{front_decides}
use Rattle.table.proofs.Table.deciding_bytes.Goals as goal

pub returns : goal.returns
returns c = record { number = omega arith; decide = front_decides }
