-- A table that was written is read back.
use Rattle.std.proofs.Common.{◌≡◌, ℕ, ◌+◌, ◌*◌, List, ◌∷◌, length, Some, None, Ok, Err, Result, sym, ap, ◌∙◌, arith}
use Rattle.std.specs.Option.{option_map, option_or}
use Rattle.std.specs.List.{flat_map}
use Rattle.std.proofs.lemmas.Option.{none-some}
use Rattle.std.proofs.lemmas.Bool.Decides.{nat_tests}
use Rattle.octets.specs.BigEndian.{told_length}
use Rattle.fault.specs.Faults.{refusal_of}
use Rattle.table.specs.Lines.{kind_number, kind_numbered, line_bytes}
use Rattle.table.specs.Layout.{flow_lines, table_bytes}
use Rattle.table.specs.Refusals.{frame_refusal, fields_refusal, header_refusal, lines_refusal, table_refusal, TableRead}
use Rattle.fault.specs.declared.Layer.TheVariants.{Line as InLine}
use Rattle.fault.specs.declared.LineFault.{LineFault}
use Rattle.table.specs.declared.Table.{Table}
use Rattle.octets.proofs.Digits.{number_of_bytes}
use Rattle.table.proofs.Reading.{none_from_fit}
use Rattle.table.proofs.Writing.{length_line_bytes, length_table_bytes}
use Rattle.table.proofs.Alike.{kind_back, tables_alike}

module _ (t : Table) where
  -- the bytes after the length
  abbrev body : List ℕ
  body = 1 ∷ kind_number t.kind ∷ t.lookahead ∷ t.flow_count ∷ flat_map line_bytes (flow_lines t)

  told : told_length (table_bytes t) ≡ 4 + 4 * t.flow_count
  told =
      let l : length body ≡ 4 + 4 * t.flow_count = omega (arith, length_line_bytes t) in
      number_of_bytes 2 (length body) (omega (arith, t.few)) ∙ l

  frame_unrefused : frame_refusal (table_bytes t) ≡ None
  frame_unrefused =
      let n = told in
      let l = length_table_bytes t in
      let f = t.some in
      grind (arith, nat_tests)

  fields_unrefused : fields_refusal (table_bytes t) (Some t.kind) ≡ None
  fields_unrefused =
      let n = told in
      let f = t.some in
      let g = t.few in
      let h = t.looks in
      grind (arith, nat_tests)

  lines_unrefused : lines_refusal (table_bytes t) (Some t.kind) ≡ None
  lines_unrefused = ap (option_map (λ i. refusal_of 5 i InLine)) (none_from_fit t.kind 6 (flow_lines t) t.fit)

  table_unrefused : table_refusal (table_bytes t) ≡ None
  table_unrefused =
      let k = kind_back t.kind in
      let a = frame_unrefused in
      let b = fields_unrefused in
      let c = lines_unrefused in
      let e : fields_refusal (table_bytes t) (kind_numbered (kind_number t.kind)) ≡ None = ap (fields_refusal (table_bytes t)) k ∙ b in
      let f : lines_refusal (table_bytes t) (kind_numbered (kind_number t.kind)) ≡ None = ap (lines_refusal (table_bytes t)) k ∙ c in
      let h : header_refusal (table_bytes t) ≡ None = ap (λ o. option_or o (fields_refusal (table_bytes t) (kind_numbered (kind_number t.kind)))) a ∙ e in
      ap (λ o. option_or o (lines_refusal (table_bytes t) (kind_numbered (kind_number t.kind)))) h ∙ f

  pub table_read_back : (r : Result Table LineFault) → TableRead (table_bytes t) r → r ≡ Ok t
  table_read_back (Ok s) h = ap Ok (tables_alike s t h.1)
  table_read_back (Err e) h = absurd (none-some _ (sym table_unrefused ∙ h))
