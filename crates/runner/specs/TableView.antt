-- What is still to come while a table has not come whole.
use Rattle.std.specs.Prelude.{◌≡◌, ℕ, List, length, Ok, Err, Result, nat_lt, if◌then◌else◌}
use Rattle.fault.specs.declared.CreationFault.{CreationFault}
use Rattle.fault.specs.declared.CreationFault.TheVariants.{Table}
use Rattle.fault.specs.declared.RunFault.TheVariants.{Creation}
use Rattle.runner.specs.Output.{RunOutcome, cut_table, refused_by}
use Rattle.runner.specs.declared.long_table.LongTable.{LongTable}

-- a table that is cut short is refused as such, whatever else is wrong with it
abbrev pub long_to_come : LongTable → List ℕ → RunOutcome
long_to_come t rest =
    if nat_lt (length rest) t.left
    then refused_by cut_table
    else refused_by (Creation (Table t.fault))

-- a byte was ignored, or was the last one
abbrev pub Passed : LongTable → LongTable → List ℕ → List ℕ → Result Unit CreationFault → Type 0
Passed old new input rest (Ok _) = long_to_come old input ≡ long_to_come new rest
Passed old new input rest (Err e) = long_to_come old input ≡ refused_by (Creation e)
