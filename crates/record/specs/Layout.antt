-- The bytes of a record.
use Rattle.std.specs.Prelude.{ℕ, cond, List, ◌∷◌, Some, None, Option, ◌==◌}
use Rattle.octets.specs.BigEndian.{be_bytes, framed}
use Rattle.record.specs.Pairs.{taking_number, sender_of, charge_number}
use Rattle.record.specs.declared.Record.{Record}
use Rattle.record.specs.declared.taking.Charge.{Charge}
use Rattle.record.specs.declared.taking.Taking.{Taking}

-- the byte of a flow: 255 for no flow
abbrev pub flow_byte : Option ℕ → ℕ
flow_byte None = 255
flow_byte (Some f) = f

-- the flow that a byte names
abbrev pub flow_named : ℕ → Option ℕ
flow_named b = cond (b == 255) None (Some b)

-- version 1, marked flow, sender, taking, charge, flow count and slot, after their length
abbrev pub slot_bytes : Option ℕ → Taking → Charge → ℕ → ℕ → List ℕ
slot_bytes marked taking charge flow_count slot =
    framed
    (1
    ∷ flow_byte marked
    ∷ flow_byte (sender_of taking)
    ∷ taking_number taking
    ∷ charge_number charge
    ∷ flow_count
    ∷ be_bytes 4 slot)

abbrev pub record_bytes : Record → List ℕ
record_bytes r = slot_bytes r.marked r.taking r.charge r.flow_count r.slot
