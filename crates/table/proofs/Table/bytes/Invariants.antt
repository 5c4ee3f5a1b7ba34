use Rattle.std.proofs.Common.{◌≡◌, ◌++◌, take}
use Rattle.std.specs.List.{flat_map}
use Rattle.table.specs.Lines.{line_bytes}
use Rattle.table.proofs.Writing.{front_of}
use Rattle.table.proofs.Table.bytes.Given as goal

abbrev pub invariant-loop-line : goal.invariant-loop-line
invariant-loop-line l = l.bytes.items ≡ front_of l.fn.self ++ flat_map line_bytes (take l.line-index l.line-items)
