-- What a table's bytes start is what is made of the table that was read.
use Rattle.std.proofs.Common.{◌≡◌, ℕ, List, [], ◌∷◌, length, cond, not, ◌==◌, true, None, Ok, refl, sym, ap, ◌∙◌, subst, inl, inr, arith}
use Rattle.std.proofs.lemmas.Bool.Decides.{nat_tests}
use Rattle.std.proofs.lemmas.List.{length-map}
use Rattle.std.specs.List.{flat_map}
use Rattle.std.specs.Option.{option_or}
use Rattle.cell.specs.Creation.{creation_refusal}
use Rattle.cell_rules.specs.Rules.{created}
use Rattle.fault.specs.Faults.{refusal_of}
use Rattle.fault.specs.declared.Layer.TheVariants.{Header}
use Rattle.octets.specs.BigEndian.{byte_at}
use Rattle.octets.specs.Conditions.{first_of}
use Rattle.round_robin_rule.specs.Rule.{start as robin_start}
use Rattle.table.proofs.Writing.{flow_lines_length}
use Rattle.table.specs.Layout.{flow_lines, table_bytes}
use Rattle.table.specs.Lines.{kind_number, kind_numbered, line_bytes}
use Rattle.table.specs.Refusals.{TableRead, header_refusal, lines_refusal}
use Rattle.table.specs.declared.Table.{Table}
use Rattle.table.specs.declared.line.Line.{Line}
use Rattle.table_reference.specs.View.{Made, own, own_held}
use Rattle.table_reference.specs.declared.TableReference.{TableReference}
use Rattle.table_reference.specs.declared.TableReference.TheVariants.{RoundRobin, Tags}
use Rattle.tag_rule.specs.Rule.{start as tags_start}
use Rattle.tag_rule.specs.Tags.{seen}
use Rattle.runner.specs.Output.{cell_of, lines_in, lines_of, start_of}

lines_of_bytes : (ls : List Line) → lines_in (flat_map line_bytes ls) ≡ ls
lines_of_bytes [] = refl
lines_of_bytes (l ∷ ls) = ap (λ rest. l ∷ rest) (lines_of_bytes ls)

lines_of_table : (t : Table) → lines_of (table_bytes t) ≡ flow_lines t
lines_of_table t = lines_of_bytes (flow_lines t)

start_of_table : (t : Table) (r : TableReference) → Made t r → own_held r ≡ start_of (table_bytes t)
start_of_table t (RoundRobin r) made =
    ap inl (made.1 ∙ ap robin_start (sym (lines_of_table t)))
    ∙ sym (ap (λ k. cond (kind_number k == 1) (inl (robin_start (lines_of (table_bytes t)))) (inr (seen (tags_start t.lookahead (lines_of (table_bytes t)))))) made.0)
start_of_table t (Tags r) made =
    ap inr (made.1 ∙ ap (λ ls. seen (tags_start t.lookahead ls)) (sym (lines_of_table t)))
    ∙ sym (ap (λ k. cond (kind_number k == 1) (inl (robin_start (lines_of (table_bytes t)))) (inr (seen (tags_start t.lookahead (lines_of (table_bytes t)))))) made.0)

flows_of_table : (t : Table) (r : TableReference) → Made t r → own.flows (own_held r) ≡ t.flow_count
flows_of_table t (RoundRobin r) made = ap (λ h. length h.quotas) made.1 ∙ length-map (flow_lines t) _ ∙ flow_lines_length t
flows_of_table t (Tags r) made =
    ap (λ h. length h.stamps) made.1 ∙ length-map _ _ ∙ length-map (flow_lines t) _ ∙ flow_lines_length t

module _ (b : List ℕ) (t : Table) (r : TableReference) (read : TableRead b (Ok t)) (made : Made t r) where
  -- a cell over what is made of the table
  pub cell_started : created own (own_held r) (flow_lines t) ≡ cell_of b
  cell_started =
      subst (λ bytes. created own (own_held r) (flow_lines t) ≡ cell_of bytes) read.1
      (λ i. created own (start_of_table t r made i) (sym (lines_of_table t) i))

  -- there is nothing to refuse
  pub creation_unrefused : creation_refusal b (own.flows (own_held r)) ≡ None
  creation_unrefused =
      let flows = flows_of_table t r made in
      let count : byte_at b 5 ≡ t.flow_count = sym (ap (λ bytes. byte_at bytes 5) read.1) in
      let same : (byte_at b 5 == own.flows (own_held r)) ≡ true = grind (arith, nat_tests) in
      ap
      (λ told.
      option_or (header_refusal b)
      (option_or (first_of ((not told, refusal_of 4 5 Header) ∷ [])) (lines_refusal b (kind_numbered (byte_at b 3)))))
      same
      ∙ read.0
