-- The lines of a table, four bytes each.
use Rattle.std.proofs.Common.{All, ◌≡◌, ℕ, zero, suc, ◌*◌, List, [], ◌∷◌, length, map, take, drop, replicate, refl, ap, arith, length-drop}
use Rattle.std.specs.List.{flat_map, AllZip}
use Rattle.std.specs.Simd.{first_chunks}
use Rattle.std.proofs.lemmas.List.{take-append-drop}
use Rattle.table.specs.Lines.{no_line, line_bytes}
use Rattle.table.specs.declared.line.Line.{Line}

pub length_lines : (ls : List Line) → length (flat_map line_bytes ls) ≡ 4 * length ls
length_lines [] = refl
length_lines (l ∷ ls) = omega (arith, length_lines ls)

-- lines that were read from bytes, four at a time, have these bytes
pub lines_from_rows :
    (ls : List Line) (k : ℕ) (bs : List ℕ)
    → map line_bytes ls ≡ first_chunks 4 k bs → length bs ≡ 4 * k
    → flat_map line_bytes ls ≡ bs
lines_from_rows [] zero [] e n = refl
lines_from_rows [] zero (b ∷ bs) e n = absurd (omega arith)
lines_from_rows [] (suc k) bs e n = absurd (omega (arith, ap length e))
lines_from_rows (l ∷ ls) zero bs e n = absurd (omega (arith, ap length e))
lines_from_rows (l ∷ ls) (suc k) bs e n =
    let first : line_bytes l ≡ take 4 bs = cc in
    let others : map line_bytes ls ≡ first_chunks 4 k (drop 4 bs) = cc in
    let r = lines_from_rows ls k (drop 4 bs) others (omega (arith, length-drop 4 bs)) in
    let w = take-append-drop 4 bs in
    cc

-- lines that were made of rows have their bytes
pub rows_made : (rows : List (List ℕ)) (ls : List Line) → AllZip (λ b l. line_bytes l ≡ b) rows ls → map line_bytes ls ≡ rows
rows_made [] [] h = refl
rows_made [] (l ∷ ls) h = absurd h
rows_made (b ∷ rows) [] h = absurd h
rows_made (b ∷ rows) (l ∷ ls) h = λ i. h.0 i ∷ rows_made rows ls h.1 i

-- lines whose numbers are 0
pub blank_lines :
    (ls : List Line)
    → All (λ l. (l.weight ≡ 0) × ((l.delay_weight ≡ 0) × ((l.lag_limit ≡ 0) × (l.lead_limit ≡ 0)))) ls
    → ls ≡ replicate (length ls) no_line
blank_lines [] h = refl
blank_lines (l ∷ ls) h =
    let first = h 0 l (omega arith) in
    let others = blank_lines ls (λ k d b. h (suc k) d (omega arith)) in
    λ i.
    record { weight = first.0 i; delay_weight = first.1.0 i; lag_limit = first.1.1.0 i; lead_limit = first.1.1.1 i }
    ∷ others i
