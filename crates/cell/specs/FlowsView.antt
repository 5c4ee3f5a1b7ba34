-- The flows before a slot: their rows, and which of them are clean.
use Rattle.std.specs.Prelude.{ℕ, Bool, List}
use Rattle.cell_rules.specs.declared.row.Row.{Row}
use Rattle.cell_rules.specs.Rules.{has}
use Rattle.cell.specs.declared.flows.Flows.{Flows}

abbrev pub rows_of : Flows → List Row
rows_of x = x.rows.now

abbrev pub clean_of : Flows → ℕ → Bool
clean_of x = has x.clean.bits
