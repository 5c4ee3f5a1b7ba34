-- What is still to come of a run, if this is the rest of its input.
use Rattle.std.specs.Prelude.{◌≡◌, ℕ, ◌+◌, ◌⊎◌, List, [], ◌∷◌, ◌++◌, length, Ok, Err, Result, Option}
use Rattle.fault.specs.declared.CreationFault.{CreationFault}
use Rattle.fault.specs.declared.RunFault.{RunFault}
use Rattle.fault.specs.declared.RunFault.TheVariants.{Creation}
use Rattle.octets.specs.BigEndian.{told_length}
use Rattle.record.specs.declared.Record.{Record}
use Rattle.runner.specs.EventsView.{bytes_of, events_to_come}
use Rattle.runner.specs.Output.{RunOutcome, cut_event, cut_table, in_front_of, nothing_more, outcome_of, refused_by}
use Rattle.runner.specs.TableView.{long_to_come}
use Rattle.runner.specs.declared.Run.{Run}
use Rattle.runner.specs.declared.stage.Stage.{Stage}
use Rattle.runner.specs.declared.stage.Stage.TheVariants.{Table, LongTable, Events, Over}

abbrev pub stage_to_come : Stage → List ℕ → RunOutcome
stage_to_come (Table t) rest = outcome_of (t.bytes.items ++ rest)
stage_to_come (LongTable t) rest = long_to_come t rest
stage_to_come (Events e) rest = events_to_come e rest
stage_to_come Over rest = nothing_more

abbrev pub to_come : Run → List ℕ → RunOutcome
to_come r rest = stage_to_come r.stage rest

-- nothing can come of the run any more
abbrev pub IsDone : Run → Type 0
IsDone r = (rest : List ℕ) → to_come r rest ≡ nothing_more

-- the stage of a run after the bytes b of its input, or that its table is refused
abbrev pub StageBehind : List ℕ → Result Stage CreationFault → Type 0
StageBehind b (Ok s) = (rest : List ℕ) → outcome_of (b ++ rest) ≡ stage_to_come s rest
StageBehind b (Err e) = (rest : List ℕ) → outcome_of (b ++ rest) ≡ refused_by (Creation e)

-- this byte, after the bytes b, is the last of a table
abbrev pub IsLastByte : List ℕ → ℕ → Type 0
IsLastByte b byte = length (b ++ byte ∷ []) ≡ told_length (b ++ byte ∷ []) + 2

-- a byte at which a run may be refused: within its table only the last one
abbrev pub StageMayRefuse : Stage → ℕ → Type 0
StageMayRefuse (Table t) byte = IsLastByte t.bytes.items byte
StageMayRefuse (LongTable t) byte = t.left ≡ 1
StageMayRefuse (Events e) byte = Unit {0}
StageMayRefuse Over byte = ⊥

abbrev pub MayRefuse : Run → ℕ → Type 0
MayRefuse r byte = StageMayRefuse r.stage byte

-- the byte is the last of the run's table
abbrev pub StageTableEnds : Stage → ℕ → Type 0
StageTableEnds (Table t) byte = IsLastByte t.bytes.items byte
StageTableEnds (LongTable t) byte = t.left ≡ 1
StageTableEnds (Events e) byte = ⊥
StageTableEnds Over byte = ⊥

abbrev pub TableEnds : Run → ℕ → Type 0
TableEnds r byte = StageTableEnds r.stage byte

-- what an answer to a byte gives, in front of what is to come after it: nothing after a refusal
abbrev pub answer_outcome : Result (Option Record) RunFault → RunOutcome → RunOutcome
answer_outcome (Ok r) after = in_front_of (bytes_of r) after
answer_outcome (Err e) after = refused_by e

-- what the end of the input gives
abbrev pub end_outcome : Result Unit RunFault → RunOutcome
end_outcome (Ok _) = nothing_more
end_outcome (Err e) = refused_by e

-- the input ends within a table or an event
abbrev pub IsCut : RunFault → Type 0
IsCut e = (e ≡ cut_table) ⊎ (e ≡ cut_event)
