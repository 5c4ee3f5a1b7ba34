-- The numbers of a table lie in their ranges, for whoever builds on one.
use Rattle.std.proofs.Common.{◌≡◌, ℕ, ◌<◌, ◌≤◌, true, leb, length, get_or, sym, subst, arith}
use Rattle.std.proofs.lemmas.List.{get_or-take}
use Rattle.std.proofs.lemmas.Bool.{and_parts, leb-true}
use Rattle.octets.specs.Ranges.{one_to_sixteen}
use Rattle.table.specs.Lines.{delay_weight_fits, line_fits, lookahead_fits, no_line}
use Rattle.table.specs.Layout.{kind_of, lookahead_of, flow_lines}
use Rattle.table.specs.declared.line.Kind.{Kind}
use Rattle.table.specs.declared.line.Kind.TheVariants.{Tags}
use Rattle.table.specs.declared.Table.{Table}
use Rattle.table.proofs.Reading.{flow_line_fits}
pub use Rattle.table.proofs.Writing.{flow_lines_length}

in_range : (n : ℕ) → one_to_sixteen n ≡ true → (1 ≤ n) × (n ≤ 16)
in_range n h =
    let p = and_parts (leb 1 n) (leb n 16) h in
    (leb-true 1 n p.0, leb-true n 16 p.1)

module _ (t : Table) where
  pub flows_in_range : (1 ≤ length (flow_lines t)) × (length (flow_lines t) ≤ 16)
  flows_in_range = (omega (arith, flow_lines_length t, t.some), omega (arith, flow_lines_length t, t.few))

  flow_fits : (f : ℕ) → f < length (flow_lines t) → line_fits (kind_of t) (get_or (flow_lines t) f no_line) ≡ true
  flow_fits f h =
      let l : f < t.flow_count = omega (arith, flow_lines_length t) in
      subst (λ x. line_fits t.kind x ≡ true) (sym (get_or-take t.flow_count t.lines f no_line l))
      (flow_line_fits t f l)

  pub weight_in_range :
      (f : ℕ) → f < length (flow_lines t)
      → (1 ≤ (get_or (flow_lines t) f no_line).weight) × ((get_or (flow_lines t) f no_line).weight ≤ 16)
  weight_in_range f h =
      let x = get_or (flow_lines t) f no_line in
      in_range (get_or (flow_lines t) f no_line).weight
      (and_parts (one_to_sixteen x.weight) (delay_weight_fits (kind_of t) x.delay_weight) (flow_fits f h)).0

  pub delay_weight_in_range :
      kind_of t ≡ Tags → (f : ℕ) → f < length (flow_lines t)
      → (1 ≤ (get_or (flow_lines t) f no_line).delay_weight) × ((get_or (flow_lines t) f no_line).delay_weight ≤ 16)
  delay_weight_in_range k f h =
      let x = get_or (flow_lines t) f no_line in
      in_range (get_or (flow_lines t) f no_line).delay_weight
      (subst (λ (kind : Kind). delay_weight_fits kind x.delay_weight ≡ true) k
      (and_parts (one_to_sixteen x.weight) (delay_weight_fits (kind_of t) x.delay_weight) (flow_fits f h)).1)

  pub lookahead_in_range : kind_of t ≡ Tags → lookahead_of t ≤ 16
  lookahead_in_range k =
      leb-true (lookahead_of t) 16 (subst (λ (kind : Kind). lookahead_fits kind (lookahead_of t) ≡ true) k t.looks)
