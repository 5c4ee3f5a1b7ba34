-- A table against its bytes: what reading finds is what was written, and the other way round.
use Rattle.std.proofs.Common.{◌≤◌, nat_lt, MatchOption, ◌/◌, take, sum_by, ◌≡◌, ℕ, ◌+◌, ◌-◌, ◌*◌, ◌<◌, Bool, true, false, cond, ◌&&◌, List, [], ◌∷◌, ◌++◌, length, get_or, drop, Some, None, Option, sym, refl, ap, ◌∙◌, arith, length-drop}
use Rattle.std.specs.Option.{option_map, option_or}
use Rattle.std.specs.List.{flat_map, AllZip}
use Rattle.std.specs.Simd.{first_chunks}
use Rattle.std.proofs.lemmas.List.{get_or-take, take_rest}
use Rattle.std.proofs.lemmas.Bool.{and_from, and_parts, false≢true, ltb-true, ltb-false}
use Rattle.std.proofs.lemmas.Option.{none-some}
use Rattle.std.proofs.lemmas.List.Recursion.{and_at, is_sum_by}
use Rattle.std.proofs.lemmas.Bool.Decides.{nat_tests}
use Rattle.octets.specs.BigEndian.{Bytes, be_bytes, framed, byte_at, told_length}
use Rattle.fault.specs.Faults.{refusal_of}
use Rattle.octets.specs.Ranges.{one_to_sixteen}
use Rattle.table.specs.Lines.{kind_number, kind_numbered, delay_weight_fits, line_fits, lines_fit, no_line, weights_sum, line_bytes}
use Rattle.table.specs.Layout.{flow_lines, line_of}
use Rattle.table.specs.Layers.{GoodHeader}
use Rattle.table.specs.Refusals.{lines_refusal, wrong_byte, table_refusal}
use Rattle.fault.specs.declared.Layer.TheVariants.{Line as InLine}
use Rattle.table.specs.declared.line.Kind.{Kind}
use Rattle.table.specs.declared.line.Line.{Line}
use Rattle.table.specs.declared.Table.{Table}
use Rattle.table.specs.declared.header.Header.{Header}
use Rattle.octets.proofs.Digits.{bytes_of_number}
use Rattle.table.proofs.LineBytes.{lines_from_rows, rows_made}
use Rattle.table.proofs.Writing.{flow_lines_length}
use Rattle.octets.proofs.Fronts.{listed, listed_front, listed_bytes}

-- Lines that keep the rules, and lines without a wrong byte.

none_wrong :
    (p q : Bool) (x : Option ℕ) (m n : ℕ)
    → cond p (cond q x (Some m)) (Some n) ≡ None
    → ((p && q) ≡ true) × (x ≡ None)
none_wrong true true x m n h = (refl, h)
none_wrong true false x m n h = absurd (none-some m (sym h))
none_wrong false q x m n h = absurd (none-some n (sym h))

pub fit_from_none :
    (k : Kind) (i : ℕ) (ls : List Line)
    → wrong_byte k i (flat_map line_bytes ls) ≡ None
    → lines_fit k ls ≡ true
fit_from_none k i [] h = refl
fit_from_none k i (l ∷ ls) h =
    let n =
    none_wrong (one_to_sixteen l.weight) (delay_weight_fits k l.delay_weight)
    (wrong_byte k (4 + i) (flat_map line_bytes ls)) (1 + i) i h in
    and_from (line_fits k l) (lines_fit k ls) n.0 (fit_from_none k (4 + i) ls n.1)

pub none_from_fit :
    (k : Kind) (i : ℕ) (ls : List Line)
    → lines_fit k ls ≡ true
    → wrong_byte k i (flat_map line_bytes ls) ≡ None
none_from_fit k i [] h = refl
none_from_fit k i (l ∷ ls) h =
    go (one_to_sixteen l.weight) (delay_weight_fits k l.delay_weight) (lines_fit k ls) _ h (none_from_fit k (4 + i) ls)
  where
    go :
        (p q r : Bool) (x : Option ℕ)
        → ((p && q) && r) ≡ true → (r ≡ true → x ≡ None)
        → cond p (cond q x (Some (1 + i))) (Some i) ≡ None
    go true true r x e f = f e
    go true false r x e f = absurd (false≢true e)
    go false q r x e f = absurd (false≢true e)

-- each line of a table keeps the rules
pub flow_line_fits : (t : Table) (f : ℕ) → f < t.flow_count → line_fits t.kind (get_or t.lines f no_line) ≡ true
flow_line_fits t f h =
    let e = get_or-take t.flow_count t.lines f no_line h in
    rw (← e)
    (and_at (lines_fit t.kind) (line_fits t.kind) refl (λ _ _. refl) (flow_lines t) f no_line
    (omega (arith, flow_lines_length t)) t.fit)

-- a line that is told keeps the rules
pub line_told_fits :
    (t : Table) (f : ℕ)
    → MatchOption (line_of t f) (t.flow_count ≤ f) (λ l. line_fits t.kind l ≡ true)
line_told_fits t f = split (nat_lt f t.flow_count) refl
  where
    split :
        (b : Bool) → nat_lt f t.flow_count ≡ b
        → MatchOption (cond b (Some (get_or t.lines f no_line)) None) (t.flow_count ≤ f) (λ l. line_fits t.kind l ≡ true)
    split true e = flow_line_fits t f (ltb-true _ _ e)
    split false e = ltb-false _ _ e

fits_positive : (w : ℕ) (q : Bool) → (one_to_sixteen w && q) ≡ true → 0 < w
fits_positive w q h = grind (arith, nat_tests)

weights_positive : (k : Kind) (ls : List Line) → lines_fit k ls ≡ true → 0 < length ls → 0 < weights_sum ls
weights_positive k [] h l = absurd (omega arith)
weights_positive k (x ∷ ls) h l =
    let w =
    fits_positive x.weight (delay_weight_fits k x.delay_weight) (and_parts (line_fits k x) (lines_fit k ls) h).0 in
    omega arith

pub total_positive : (t : Table) → 0 < weights_sum (flow_lines t)
total_positive t = weights_positive t.kind (flow_lines t) t.fit (omega (arith, flow_lines_length t, t.some))

-- the sum of the weights, in the library's words
pub weights_sum_by : (ls : List Line) → weights_sum ls ≡ sum_by (λ l. l.weight) ls
weights_sum_by = is_sum_by weights_sum (λ l. l.weight) refl (λ _ _. refl)

-- What reading finds.

-- what lines say that were made of all the bytes after a header
pub record AsRead (b : List ℕ) (h : Header) (ls : List Line) : Type 0 where
  -- they decide whether the bytes are refused
  pub refusal : table_refusal b ≡ option_map (λ i. refusal_of 5 i InLine) (wrong_byte h.kind 6 (flat_map line_bytes ls))
  -- and the bytes of the table that is made of them are those that were read
  pub whole :
      Bytes b → framed (1 ∷ kind_number h.kind ∷ h.lookahead ∷ h.flow_count ∷ flat_map line_bytes ls) ≡ b

module _ (b : List ℕ) (h : Header) (good : GoodHeader b h) where
  -- lines that have all the bytes after a good header
  lines_read : (ls : List Line) → flat_map line_bytes ls ≡ drop 6 b → AsRead b h ls
  lines_read ls e =
      let body = 1 ∷ kind_number h.kind ∷ h.lookahead ∷ h.flow_count ∷ flat_map line_bytes ls in
      let l : length (flat_map line_bytes ls) ≡ 4 * h.flow_count =
      ap length e ∙ omega (arith, length-drop 6 b, good.long) in
      let t : length body ≡ told_length b = omega (arith, good.told) in
      let f = listed_front 0 6 b (omega (arith, good.long)) in
      record {
        refusal =
            ap (λ r. option_or r (lines_refusal b (kind_numbered (byte_at b 3)))) good.unrefused
            ∙ ap (lines_refusal b) good.named
            ∙ ap (λ xs. option_map (λ i. refusal_of 5 i InLine) (wrong_byte h.kind 6 xs)) (sym e);
        whole =
            λ small.
            let w : be_bytes 2 (told_length b) ≡ get_or b 0 0 ∷ get_or b 1 0 ∷ [] =
            bytes_of_number (listed 0 2 b) (listed_bytes 0 2 b small) in
            ap (λ front. front ++ body) (ap (be_bytes 2) t ∙ w) ∙ (cc);
      }

  -- the lines that are made of the rows after a good header are as many as it tells, and have all the bytes there
  pub rows_read :
      (lines : List Line) (rows : List (List ℕ))
      → rows ≡ first_chunks 4 (length (take (length b - 6) (drop 6 b)) / 4) (take (length b - 6) (drop 6 b))
      → length rows ≡ length (take (length b - 6) (drop 6 b)) / 4
      → AllZip (λ r l. line_bytes l ≡ r) rows (take (length rows) lines)
      → (length rows ≡ h.flow_count) × AsRead b h (take h.flow_count lines)
  rows_read lines rows c n m =
      let r = take_rest b 6 in
      let l : length (drop 6 b) ≡ 4 * h.flow_count = omega (arith, length-drop 6 b, good.long) in
      let q : length (drop 6 b) / 4 ≡ h.flow_count = omega (arith, l) in
      let told : length rows ≡ length (drop 6 b) / 4 = rw r at n in
      let w : length rows ≡ h.flow_count = told ∙ q in (
        w,
        lines_read (take h.flow_count lines)
            (lines_from_rows (take h.flow_count lines) (length (drop 6 b) / 4) (drop 6 b)
            (rows_made rows (take h.flow_count lines) (rw w at m) ∙ rw r at c) (omega (arith, l, q))),
      )
