use Rattle.std.proofs.Common.{◌≡◌, ◌+◌, ◌*◌, ◌≤◌, length}
use Rattle.std.specs.List.{flat_map}
use Rattle.table.specs.Lines.{line_bytes}
use Rattle.table.specs.Refusals.{wrong_byte}
use Rattle.table.proofs.read.check_lines.Given as goal

abbrev pub invariant-loop-flow : goal.invariant-loop-flow
invariant-loop-flow l =
    (wrong_byte l.kind 6 (flat_map line_bytes l.lines)
    ≡ wrong_byte l.kind (6 + 4 * l.flow-iterator.a.start) (flat_map line_bytes l.flow-iterator.b.rest.now))
    × (l.flow-iterator.a.start + length l.flow-iterator.b.rest.now ≤ 16)
    × (l.flow-iterator.a.end ≡ 16)
