-- For which bytes no cell is created.
use Rattle.std.specs.Prelude.{◌≡◌, ℕ, not, List, [], ◌∷◌, Some, None, Ok, Err, Option, Result, ◌==◌}
use Rattle.std.specs.Option.{option_or}
use Rattle.octets.specs.BigEndian.{byte_at}
use Rattle.octets.specs.Conditions.{first_of}
use Rattle.fault.specs.Faults.{refusal_of, creation_told}
use Rattle.fault.specs.declared.CreationFault.{CreationFault}
use Rattle.fault.specs.declared.Layer.TheVariants.{Header}
use Rattle.fault.specs.declared.Refusal.{Refusal}
use Rattle.table.specs.Lines.{kind_numbered}
use Rattle.table.specs.Refusals.{TableRead, header_refusal, lines_refusal}
use Rattle.table.specs.declared.Table.{Table}

-- over a reference of n flows: those that are no table up to its header; those that tell another number of flows, which
-- is told like a flow count that no table may have; and those of which a line is wrong
abbrev pub creation_refusal : List ℕ → ℕ → Option Refusal
creation_refusal b n =
    option_or (header_refusal b)
    (option_or (first_of ((not (byte_at b 5 == n), refusal_of 4 5 Header) ∷ [])) (lines_refusal b (kind_numbered (byte_at b 3))))

-- reading a table of n flows
abbrev pub TableFor : List ℕ → ℕ → Result Table CreationFault → Type 0
TableFor b n (Ok t) = (creation_refusal b n ≡ None) × TableRead b (Ok t) × (t.flow_count ≡ n)
TableFor b n (Err e) = creation_refusal b n ≡ Some (creation_told e)
