-- The bytes of a table, as they are written.
use Rattle.std.proofs.Common.{◌≡◌, ℕ, ◌+◌, ◌*◌, List, [], ◌∷◌, ◌++◌, length, ap, ◌∙◌, arith}
use Rattle.std.specs.List.{flat_map}
use Rattle.std.proofs.lemmas.List.{length-take-le}
use Rattle.octets.specs.BigEndian.{be_bytes}
use Rattle.table.specs.Lines.{kind_number, line_bytes}
use Rattle.table.specs.Layout.{flow_lines, table_bytes}
use Rattle.table.specs.declared.Table.{Table}
use Rattle.table.proofs.LineBytes.{length_lines}

-- a table has as many lines as flows
pub flow_lines_length : (t : Table) → length (flow_lines t) ≡ t.flow_count
flow_lines_length t = length-take-le t.flow_count t.lines (omega (arith, t.few, t.whole))

pub length_line_bytes : (t : Table) → length (flat_map line_bytes (flow_lines t)) ≡ 4 * t.flow_count
length_line_bytes t = length_lines (flow_lines t) ∙ ap (λ n. 4 * n) (flow_lines_length t)

pub length_table_bytes : (t : Table) → length (table_bytes t) ≡ 6 + 4 * t.flow_count
length_table_bytes t = omega (arith, length_line_bytes t)

module _ (t : Table) where
  -- the bytes before the lines
  abbrev pub front_of : List ℕ
  front_of =
      be_bytes 2 (4 + 4 * t.flow_count)
      ++ (1 ∷ kind_number t.kind ∷ t.lookahead ∷ t.flow_count ∷ [])

  pub front_and_lines : table_bytes t ≡ front_of ++ flat_map line_bytes (flow_lines t)
  front_and_lines =
      let body = 1 ∷ kind_number t.kind ∷ t.lookahead ∷ t.flow_count ∷ flat_map line_bytes (flow_lines t) in
      let l : length body ≡ 4 + 4 * t.flow_count = omega (arith, length_line_bytes t) in
      ap (λ n. be_bytes 2 n ++ body) l
