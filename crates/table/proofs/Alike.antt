-- Two tables with the same bytes are the same.
use Rattle.std.proofs.Common.{◌≡◌, ◌-◌, ◌≤◌, true, List, [], ◌∷◌, length, take, drop, replicate, Some, sym, refl, ap, ◌∙◌, arith}
use mathlib.Core.HLevel.{is_prop→PathP}
use mathlib.Core.List.{is_set}
use mathlib.Core.Bool.{Bool-set}
use native.Mathlib.Bridge.{le_prop}
use native.Mathlib.Nat.{ℕ_set}
use Rattle.std.specs.List.{flat_map}
use Rattle.std.proofs.lemmas.List.{take-append-drop}
use Rattle.table.specs.Lines.{kind_number, kind_numbered, lookahead_fits, lines_fit, no_line, line_bytes}
use Rattle.table.specs.Layout.{flow_lines, table_bytes}
use Rattle.table.specs.declared.line.Kind.{Kind}
use Rattle.table.specs.declared.line.Kind.TheVariants.{RoundRobin, Tags}
use Rattle.table.specs.declared.line.Line.{Line}
use Rattle.table.specs.declared.Table.{Table}

pub kind_back : (k : Kind) → kind_numbered (kind_number k) ≡ Some k
kind_back RoundRobin = refl
kind_back Tags = refl

kind_same : (j k : Kind) → kind_number j ≡ kind_number k → j ≡ k
kind_same j k e = let s : Some j ≡ Some k = sym (kind_back j) ∙ ap kind_numbered e ∙ kind_back k in cc

line_same : (l m : Line) → line_bytes l ≡ line_bytes m → l ≡ m
line_same l m e =
    let w : l.weight ≡ m.weight = cc in
    let d : l.delay_weight ≡ m.delay_weight = cc in
    let g : l.lag_limit ≡ m.lag_limit = cc in
    let a : l.lead_limit ≡ m.lead_limit = cc in
    λ i. record { weight = w i; delay_weight = d i; lag_limit = g i; lead_limit = a i }

lines_same : (ls ms : List Line) → flat_map line_bytes ls ≡ flat_map line_bytes ms → ls ≡ ms
lines_same [] [] e = refl
lines_same [] (m ∷ ms) e = absurd (omega (arith, ap length e))
lines_same (l ∷ ls) [] e = absurd (omega (arith, ap length e))
lines_same (l ∷ ls) (m ∷ ms) e =
    let f : line_bytes l ≡ line_bytes m = cc in
    let r : flat_map line_bytes ls ≡ flat_map line_bytes ms = cc in
    λ i. line_same l m f i ∷ lines_same ls ms r i

line_set : IsSet Line
line_set x y p q =
    λ j i.
    record {
      weight = ℕ_set x.weight y.weight (λ h. (p h).weight) (λ h. (q h).weight) j i;
      delay_weight = ℕ_set x.delay_weight y.delay_weight (λ h. (p h).delay_weight) (λ h. (q h).delay_weight) j i;
      lag_limit = ℕ_set x.lag_limit y.lag_limit (λ h. (p h).lag_limit) (λ h. (q h).lag_limit) j i;
      lead_limit = ℕ_set x.lead_limit y.lead_limit (λ h. (p h).lead_limit) (λ h. (q h).lead_limit) j i;
    }

-- the facts in a table's ghost fields make no difference
table_same :
    (s t : Table)
    → s.kind ≡ t.kind → s.lookahead ≡ t.lookahead → s.flow_count ≡ t.flow_count → s.lines ≡ t.lines
    → s ≡ t
table_same s t k p n l =
    λ i.
    record {
      kind = k i;
      lookahead = p i;
      flow_count = n i;
      lines = l i;
      some = is_prop→PathP (λ j. 1 ≤ n j) (λ j. le_prop) s.some t.some i;
      few = is_prop→PathP (λ j. n j ≤ 16) (λ j. le_prop) s.few t.few i;
      looks = is_prop→PathP (λ j. lookahead_fits (k j) (p j) ≡ true) (λ j. Bool-set _ _) s.looks t.looks i;
      fit = is_prop→PathP (λ j. lines_fit (k j) (take (n j) (l j)) ≡ true) (λ j. Bool-set _ _) s.fit t.fit i;
      whole = is_prop→PathP (λ j. length (l j) ≡ 16) (λ j. ℕ_set _ _) s.whole t.whole i;
      spare =
          is_prop→PathP (λ j. drop (n j) (l j) ≡ replicate (16 - n j) no_line) (λ j. is_set line_set _ _) s.spare
          t.spare i;
    }

pub tables_alike : (s t : Table) → table_bytes s ≡ table_bytes t → s ≡ t
tables_alike s t e =
    let k : kind_number s.kind ≡ kind_number t.kind = cc in
    let p : s.lookahead ≡ t.lookahead = cc in
    let n : s.flow_count ≡ t.flow_count = cc in
    let f : flow_lines s ≡ flow_lines t = lines_same (flow_lines s) (flow_lines t) (cc) in
    let es = take-append-drop s.flow_count s.lines in
    let et = take-append-drop t.flow_count t.lines in
    let ss = s.spare in
    let st = t.spare in
    table_same s t (kind_same s.kind t.kind k) p n (cc)
