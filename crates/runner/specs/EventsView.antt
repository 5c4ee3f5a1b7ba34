-- What the events of a run do, and what is still to come of them.
use Rattle.std.specs.Prelude.{◌≡◌, ℕ, List, [], ◌++◌, Some, None, Ok, Err, Option, Result}
use Rattle.std.specs.Option.{option_map}
use Rattle.cell.specs.CellView.{cell_held}
use Rattle.cell_rules.specs.Rules.{State}
use Rattle.fault.specs.declared.CreationFault.{CreationFault}
use Rattle.fault.specs.declared.OpeningFault.{OpeningFault}
use Rattle.fault.specs.declared.RunFault.{RunFault}
use Rattle.fault.specs.declared.RunFault.TheVariants.{Opening}
use Rattle.record.specs.Layout.{record_bytes}
use Rattle.record.specs.declared.Record.{Record}
use Rattle.table.specs.Refusals.{table_refusal}
use Rattle.table_reference.specs.View.{own}
use Rattle.runner.specs.Output.{Done, RunOutcome, arrival_done, cell_of, events, in_front_of, phase_done, refused_by, stopped, table_fault}
use Rattle.runner.specs.Parsing.{begun_bytes}
use Rattle.runner.specs.declared.begun.Begun.TheVariants.{Nothing}
use Rattle.runner.specs.declared.event.Event.{Event}
use Rattle.runner.specs.declared.event.Event.TheVariants.{Arrival, Phase}
use Rattle.runner.specs.declared.events.Events.{Events}

abbrev pub held : Events → State own
held e = cell_held e.cell

-- what is still to come, if this is the rest of the input
abbrev pub events_to_come : Events → List ℕ → RunOutcome
events_to_come e rest = events own (Ok (held e)) (begun_bytes e.begun ++ rest)

-- the events after a table's bytes begin, or the table is refused
abbrev pub Begins : List ℕ → Result Events CreationFault → Type 0
Begins b (Ok e) = (table_refusal b ≡ None) × (held e ≡ cell_of b) × (e.begun ≡ Nothing)
Begins b (Err e) = option_map table_fault (table_refusal b) ≡ Some e

-- the bytes of a record, if there is one
abbrev pub bytes_of : Option Record → List ℕ
bytes_of None = []
bytes_of (Some r) = record_bytes r

-- what is done by an event
abbrev pub done_by : State own → Event → Done own
done_by s (Arrival f n) = arrival_done own s f n
done_by s (Phase clean) = phase_done own s clean

-- writing these bytes, and going on with this cell
abbrev pub going_on : List ℕ → State own → Done own
going_on bytes s = record { written = bytes; after = Ok s }

abbrev pub PhaseTaken : Events → ℕ → Events → Result Record OpeningFault → Type 0
PhaseTaken old clean new (Ok r) =
    (phase_done own (held old) clean ≡ going_on (record_bytes r) (held new)) × (new.begun ≡ old.begun)
PhaseTaken old clean new (Err e) = phase_done own (held old) clean ≡ stopped own (Opening e)

abbrev pub Taken : Events → Event → Events → Result (Option Record) RunFault → Type 0
Taken old event new (Ok r) = (done_by (held old) event ≡ going_on (bytes_of r) (held new)) × (new.begun ≡ old.begun)
Taken old event new (Err e) = done_by (held old) event ≡ stopped own e

-- What is to come before an answer is what the answer gives, and then what is to come after it.
-- Nothing is to come after a refusal.
abbrev pub Gives :
    (List ℕ → RunOutcome) → (List ℕ → RunOutcome) → Result (Option Record) RunFault → Type 0
Gives before after (Ok r) = (rest : List ℕ) → before rest ≡ in_front_of (bytes_of r) (after rest)
Gives before after (Err e) = (rest : List ℕ) → before rest ≡ refused_by e

-- Events were taken off the front of the bytes, which gave what is written, and others are left; or one was refused,
-- after what those before it gave.
abbrev pub FrontTaken : Events → List ℕ → List ℕ → Events → List ℕ → Result Unit RunFault → Type 0
FrontTaken before bytes written after behind (Ok _) =
    (rest : List ℕ)
    → events_to_come before (bytes ++ rest)
    ≡ in_front_of written (events_to_come after (behind ++ rest))
FrontTaken before bytes written after behind (Err e) =
    (rest : List ℕ) → events_to_come before (bytes ++ rest) ≡ in_front_of written (refused_by e)
