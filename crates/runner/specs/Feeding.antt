-- Feeding bytes to a run, and the bytes that it writes.
use Rattle.std.specs.Prelude.{◌≡◌, ℕ, List, [], ◌++◌, Ok, Err, Option, Result}
use Rattle.std.specs.Io.KnownBytes.{Appends}
use Rattle.fault.specs.Faults.{run_number}
use Rattle.fault.specs.declared.RunFault.{RunFault}
use Rattle.runner.specs.Output.{in_front_of, refusal_bytes, refused_by}
use Rattle.runner.specs.ToCome.{IsDone, to_come}
use Rattle.runner.specs.declared.Run.{Run}

-- the bytes that are still to be written, if this is the rest of the input
abbrev pub output_to_come : Run → List ℕ → List ℕ
output_to_come r rest = (to_come r rest).written

-- the bytes of a refusal, if there is one
abbrev pub stop_bytes : Result Unit RunFault → List ℕ
stop_bytes (Ok _) = []
stop_bytes (Err e) = refusal_bytes (run_number e)

-- Bytes were taken off the front of the bytes, which gave these records, and others are left; or
-- the run was refused, after these records.
abbrev pub RunTaken : Run → List ℕ → List ℕ → Run → List ℕ → Result Unit RunFault → Type 0
RunTaken before bytes records after behind (Ok _) =
    (rest : List ℕ)
    → to_come before (bytes ++ rest) ≡ in_front_of records (to_come after (behind ++ rest))
RunTaken before bytes records after behind (Err e) =
    ((rest : List ℕ) → to_come before (bytes ++ rest) ≡ in_front_of records (refused_by e))
    × IsDone after

-- Bytes were fed to a run, and an output grew by what they gave: these records, and then the
-- refusal, if the run is refused.
pub record Fed
    (before : Run) (bytes : List ℕ) (after : Run) (old new : Option (List ℕ)) : Type 0 where
  pub records : List ℕ
  pub answer : Result Unit RunFault
  pub taken : RunTaken before bytes records after [] answer
  pub grown : Appends old new (records ++ stop_bytes answer)
