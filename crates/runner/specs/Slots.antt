-- The slots of an input that is in memory.
use Rattle.std.specs.Prelude.{◌≡◌, ℕ, ◌+◌, ◌*◌, List, [], ◌∷◌, ◌++◌, length, Some, None, Ok, Err, Option, Result}
use Rattle.std.specs.Iterator.{Drains}
use Rattle.fault.specs.Faults.{run_number}
use Rattle.fault.specs.declared.RunFault.{RunFault}
use Rattle.record.specs.Layout.{record_bytes}
use Rattle.record.specs.declared.Record.{Record}
use Rattle.runner.specs.Output.{RunOutcome, in_front_of, nothing_more, refusal_bytes, refused_by}
use Rattle.runner.specs.ToCome.{to_come}
use Rattle.runner.specs.declared.slots.Slots.{Slots}
use Rattle.runner.specs.declared.stage.Stage.{Stage}
use Rattle.runner.specs.declared.stage.Stage.TheVariants.{Over}

-- the outcome of the slots that are left, and of the end of the input behind them
abbrev pub slots_to_come : Slots → RunOutcome
slots_to_come s = to_come s.run s.rest.now

-- The next slot's record is the first that is written. A fault refuses the run, after all records.
-- None comes only where nothing is left.
abbrev pub NextSlot : Slots → Option (Result Record RunFault) → Slots → Type 0
NextSlot old None new = (slots_to_come old ≡ nothing_more) × (slots_to_come new ≡ nothing_more)
NextSlot old (Some (Ok r)) new =
    slots_to_come old ≡ in_front_of (record_bytes r) (slots_to_come new)
NextSlot old (Some (Err e)) new =
    (slots_to_come old ≡ refused_by e) × (slots_to_come new ≡ nothing_more)

-- the outcome of answers, one after the other: the bytes of a record, or of a refusal
abbrev pub answers_outcome : List (Result Record RunFault) → RunOutcome
answers_outcome [] = nothing_more
answers_outcome (Ok r ∷ more) = in_front_of (record_bytes r) (answers_outcome more)
answers_outcome (Err e ∷ more) =
    record {
      written = refusal_bytes (run_number e) ++ (answers_outcome more).written;
      refused = Some e;
    }

-- all that the slots give, until none is left, has the outcome x
abbrev pub HaveOutcome : Slots → RunOutcome → Type 0
HaveOutcome s x =
    (answers : List (Result Record RunFault))
    → Drains NextSlot s answers
    → answers_outcome answers ≡ x

-- No more answers than this are left: a byte gives one at most, and the end of the input one more.
-- (A byte counts twice, whatever it does to the stage.)
abbrev pub stage_left : Stage → ℕ
stage_left Over = 0
stage_left _ = 1

abbrev pub most_left : Slots → ℕ
most_left s = 2 * length s.rest.now + stage_left s.run.stage
