-- What a record may hold, and for which bytes a record is refused, by which number.
use Rattle.std.specs.Prelude.{◌≡◌, ℕ, Bool, true, false, not, ◌&&◌, ◌||◌, List, [], ◌∷◌, length, Some, None, Ok, Err, Option, Result, ◌==◌, nat_lt}
use Rattle.octets.specs.Conditions.{first_of}
use Rattle.octets.specs.BigEndian.{be_number, byte_at, told_length}
use Rattle.octets.specs.Ranges.{one_to_sixteen}
use Rattle.fault.specs.Faults.{record_number}
use Rattle.fault.specs.declared.RecordFault.{RecordFault}
use Rattle.record.specs.Layout.{flow_named, record_bytes}
use Rattle.record.specs.Pairs.{taking_of, charge_numbered, flows_fit, pair_fits}
use Rattle.record.specs.declared.Record.{Record}
use Rattle.record.specs.declared.taking.Charge.{Charge}
use Rattle.record.specs.declared.taking.Taking.{Taking}

-- what a record may hold
abbrev pub record_fits : Option ℕ → Taking → Charge → ℕ → ℕ → Bool
record_fits m t c n slot = one_to_sixteen n && (nat_lt slot 1000000000 && (flows_fit n m t && pair_fits m t c))

-- the same of bytes, whose taking and charge need not be any
abbrev pub fields_fit : Option ℕ → Option Taking → Option Charge → ℕ → ℕ → Bool
fields_fit m None c n slot = false
fields_fit m (Some t) None n slot = false
fields_fit m (Some t) (Some c) n slot = record_fits m t c n slot

abbrev pub bytes_fit : List ℕ → Bool
bytes_fit b =
    fields_fit (flow_named (byte_at b 3)) (taking_of (byte_at b 5) (flow_named (byte_at b 4)))
    (charge_numbered (byte_at b 6)) (byte_at b 7)
    (be_number (byte_at b 8 ∷ byte_at b 9 ∷ byte_at b 10 ∷ byte_at b 11 ∷ []))

abbrev pub record_refusal : List ℕ → Option ℕ
record_refusal b =
    first_of
    ((not (length b == 12) || not (told_length b == 10), 13)
    ∷ (not (byte_at b 2 == 1), 14)
    ∷ (not (bytes_fit b), 15)
    ∷ [])

-- Reading the bytes b: the record that has just these bytes, or the number of the refusal.
abbrev pub RecordRead : List ℕ → Result Record RecordFault → Type 0
RecordRead b (Ok r) = (record_refusal b ≡ None) × (record_bytes r ≡ b)
RecordRead b (Err e) = record_refusal b ≡ Some (record_number e)

-- Making a record from its parts.
abbrev pub Made : Option ℕ → Taking → Charge → ℕ → ℕ → Result Record RecordFault → Type 0
Made m t c n slot (Ok r) =
    (record_fits m t c n slot ≡ true)
    × (r.marked ≡ m) × (r.taking ≡ t) × (r.charge ≡ c) × (r.flow_count ≡ n) × (r.slot ≡ slot)
Made m t c n slot (Err e) = (record_fits m t c n slot ≡ false) × (record_number e ≡ 15)
