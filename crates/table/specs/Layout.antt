-- The bytes of a table.
use Rattle.std.specs.Prelude.{ℕ, cond, List, ◌∷◌, take, Some, None, Option, nat_lt, slice_index_or}
use Rattle.std.specs.List.{flat_map}
use Rattle.octets.specs.BigEndian.{framed}
use Rattle.table.specs.Lines.{kind_number, no_line, line_bytes}
use Rattle.table.specs.declared.line.Kind.{Kind}
use Rattle.table.specs.declared.line.Line.{Line}
use Rattle.table.specs.declared.Table.{Table}

-- the reference that a table asks for, and how far it looks ahead
abbrev pub kind_of : Table → Kind
kind_of t = t.kind

abbrev pub lookahead_of : Table → ℕ
lookahead_of t = t.lookahead

-- the lines of the flows, from flow 0 on
abbrev pub flow_lines : Table → List Line
flow_lines t = take t.flow_count t.lines

-- version 1, kind, lookahead, flow count and the lines, after their length
abbrev pub table_bytes : Table → List ℕ
table_bytes t =
    framed (1 ∷ kind_number t.kind ∷ t.lookahead ∷ t.flow_count ∷ flat_map line_bytes (flow_lines t))

-- the line of a flow, if there is such a flow
abbrev pub line_of : Table → ℕ → Option Line
line_of t f = cond (nat_lt f t.flow_count) (Some (slice_index_or t.lines f no_line)) None
