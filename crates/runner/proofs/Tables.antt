-- A table in front of an input: what an input is told by, once enough of it is there.
use Rattle.std.proofs.Common.{◌≡◌, ℕ, ◌+◌, ◌<◌, ◌≤◌, List, [], ◌∷◌, ◌++◌, length, take, drop, Some, None, Option, refl, ap, ◌∙◌, arith}
use Rattle.std.proofs.Math.Seq.{take-append_seam, drop-append_seam}
use Rattle.std.proofs.lemmas.List.{take_all}
use Rattle.std.proofs.lemmas.Bool.Decides.{nat_tests}
use Rattle.std.specs.Option.{option_map, option_or}
use Rattle.std.proofs.lemmas.Option.{none-some, same_Some}
use Rattle.fault.specs.Faults.{refusal_of}
use Rattle.fault.specs.declared.CreationFault.{CreationFault}
use Rattle.fault.specs.declared.Layer.TheVariants.{Frame}
use Rattle.fault.specs.declared.Refusal.{Refusal}
use Rattle.octets.specs.BigEndian.{byte_at, told_length}
use Rattle.table.specs.Lines.{kind_numbered}
use Rattle.table.specs.Refusals.{fields_refusal, frame_refusal, lines_refusal, table_refusal}
use Rattle.fault.specs.declared.RunFault.TheVariants.{Creation}
use Rattle.runner.specs.Output.{cut_table, events_part, outcome_by, outcome_of, refused_by, table_fault, table_part}

-- the first two bytes tell the length, whatever follows
front_tells : (b rest : List ℕ) → 2 ≤ length b → told_length (b ++ rest) ≡ told_length b
front_tells [] rest h = absurd (omega (arith, h))
front_tells (x ∷ []) rest h = absurd (omega (arith, h))
front_tells (x ∷ y ∷ b) rest h = refl

-- a whole table in front of other bytes
table_in_front : (b rest : List ℕ) → length b ≡ told_length b + 2 → table_part (b ++ rest) ≡ b
table_in_front b rest e =
    let t = front_tells b rest (omega (arith, e)) in
    let n : told_length (b ++ rest) + 2 ≡ length b = omega (arith, e, t) in
    ap (λ k. take k (b ++ rest)) n ∙ take-append_seam b rest

events_after : (b rest : List ℕ) → length b ≡ told_length b + 2 → events_part (b ++ rest) ≡ rest
events_after b rest e =
    let t = front_tells b rest (omega (arith, e)) in
    let n : told_length (b ++ rest) + 2 ≡ length b = omega (arith, e, t) in
    ap (λ k. drop k (b ++ rest)) n ∙ drop-append_seam b rest

-- what comes after a whole table
outcome_after :
    (b rest : List ℕ) → length b ≡ told_length b + 2 → outcome_of (b ++ rest) ≡ outcome_by (table_refusal b) b rest
outcome_after b rest e =
    let t = table_in_front b rest e in
    let v = events_after b rest e in
    ap (λ p. outcome_by (table_refusal p) p (events_part (b ++ rest))) t ∙ ap (outcome_by (table_refusal b) b) v

table_refused_by_frame : (b : List ℕ) (r : Refusal) → frame_refusal b ≡ Some r → table_refusal b ≡ Some r
table_refused_by_frame b r f =
    ap
    (λ o. option_or (option_or o (fields_refusal b (kind_numbered (byte_at b 3)))) (lines_refusal b (kind_numbered (byte_at b 3))))
    f

-- an input that ends before its table does
pub cut_table_refused : (b : List ℕ) → length b < told_length b + 2 → outcome_of b ≡ refused_by cut_table
cut_table_refused b h =
    let p : table_part b ≡ b = take_all (told_length b + 2) b (omega (arith, h)) in
    let f : frame_refusal b ≡ Some (refusal_of 1 0 Frame) = grind (arith, nat_tests) in
    let r : table_refusal b ≡ Some (refusal_of 1 0 Frame) = table_refused_by_frame b (refusal_of 1 0 Frame) f in
    ap (λ t. outcome_by (table_refusal t) t (events_part b)) p ∙ ap (λ o. outcome_by o b (events_part b)) r

-- a refusal of a whole table, by the fault that it comes from
refused_by_fault :
    (o : Option Refusal) (b rest : List ℕ) (e : CreationFault)
    → option_map table_fault o ≡ Some e
    → outcome_by o b rest ≡ refused_by (Creation e)
refused_by_fault None b rest e h = absurd (none-some e h)
refused_by_fault (Some r) b rest e h = ap (λ f. refused_by (Creation f)) (same_Some (table_fault r) e h)

pub refused_after :
    (b rest : List ℕ) (e : CreationFault)
    → length b ≡ told_length b + 2
    → option_map table_fault (table_refusal b) ≡ Some e
    → outcome_of (b ++ rest) ≡ refused_by (Creation e)
refused_after b rest e whole refused = outcome_after b rest whole ∙ refused_by_fault (table_refusal b) b rest e refused
