-- For which bytes a table is refused, and by which refusal. The conditions are tried in the order of their numbers.
use Rattle.std.specs.Prelude.{◌≡◌, ℕ, ◌+◌, ◌*◌, cond, not, ◌||◌, List, [], ◌∷◌, length, drop, Some, None, Ok, Err, Option, Result, ◌==◌, nat_lt}
use Rattle.std.specs.Option.{option_map, option_or}
use Rattle.octets.specs.Conditions.{first_of}
use Rattle.octets.specs.BigEndian.{byte_at, told_length}
use Rattle.fault.specs.Faults.{refusal_of, header_told, line_told}
use Rattle.octets.specs.Ranges.{one_to_sixteen}
use Rattle.table.specs.Lines.{kind_numbered, lookahead_fits, delay_weight_fits}
use Rattle.table.specs.Layout.{table_bytes}
use Rattle.fault.specs.declared.Layer.TheVariants.{Frame, Header, Line}
use Rattle.fault.specs.declared.HeaderFault.{HeaderFault}
use Rattle.fault.specs.declared.LineFault.{LineFault}
use Rattle.fault.specs.declared.Refusal.{Refusal}
use Rattle.table.specs.declared.line.Kind.{Kind}
use Rattle.table.specs.declared.Table.{Table}

abbrev pub frame_refusal : List ℕ → Option Refusal
frame_refusal b =
    first_of
    ((nat_lt (length b) 6 || not (length b == 2 + told_length b), refusal_of 1 0 Frame)
    ∷ (not (byte_at b 2 == 1), refusal_of 2 2 Frame)
    ∷ [])

-- the rest of the header, once the kind is known or is none
abbrev pub fields_refusal : List ℕ → Option Kind → Option Refusal
fields_refusal b None = Some (refusal_of 3 3 Header)
fields_refusal b (Some k) =
    first_of
    ((not (lookahead_fits k (byte_at b 4)), refusal_of 3 4 Header)
    ∷ (not (one_to_sixteen (byte_at b 5)) || not (told_length b == 4 + 4 * byte_at b 5), refusal_of 4 5 Header)
    ∷ [])

abbrev pub header_refusal : List ℕ → Option Refusal
header_refusal b = option_or (frame_refusal b) (fields_refusal b (kind_numbered (byte_at b 3)))

-- the first wrong byte of lines of four bytes each, of which the first begins at byte i
abbrev pub wrong_byte : Kind → ℕ → List ℕ → Option ℕ
wrong_byte k i [] = None
wrong_byte k i (w ∷ []) = None
wrong_byte k i (w ∷ d ∷ []) = None
wrong_byte k i (w ∷ d ∷ lag ∷ []) = None
wrong_byte k i (w ∷ d ∷ lag ∷ lead ∷ rest) =
    cond (one_to_sixteen w) (cond (delay_weight_fits k d) (wrong_byte k (4 + i) rest) (Some (1 + i))) (Some i)

abbrev pub lines_refusal : List ℕ → Option Kind → Option Refusal
lines_refusal b None = None
lines_refusal b (Some k) = option_map (λ i. refusal_of 5 i Line) (wrong_byte k 6 (drop 6 b))

abbrev pub table_refusal : List ℕ → Option Refusal
table_refusal b = option_or (header_refusal b) (lines_refusal b (kind_numbered (byte_at b 3)))

-- Reading the bytes b: the table that has just these bytes, or the refusal.
abbrev pub TableRead : List ℕ → Result Table LineFault → Type 0
TableRead b (Ok t) = (table_refusal b ≡ None) × (table_bytes t ≡ b)
TableRead b (Err e) = table_refusal b ≡ Some (line_told e)

-- Reading the bytes b up to their header: the flow count that they tell, or the refusal.
abbrev pub FlowCountTold : List ℕ → Result ℕ HeaderFault → Type 0
FlowCountTold b (Ok n) = (header_refusal b ≡ None) × (byte_at b 5 ≡ n)
FlowCountTold b (Err e) = header_refusal b ≡ Some (header_told e)
