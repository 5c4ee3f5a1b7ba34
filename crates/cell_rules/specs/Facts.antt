-- What always holds of the counts of a flow, in every cell.
use Rattle.std.specs.Prelude.{◌≡◌, ℕ, ◌+◌, ◌<◌, ◌≤◌, min, max, List, length}
use Rattle.cell_rules.specs.Rules.{at, most}
use Rattle.cell_rules.specs.declared.row.Row.{Row}

pub record Facts (r : Row) : Type 0 where
  pub lead_within_limit : r.lead ≤ r.lead_limit
  pub lag_within_limit : r.lag ≤ r.lag_limit
  -- never both above 0
  pub never_leads_and_lags : min r.lead r.lag ≡ 0
  -- below the lead limit, or 0 where that is 0
  pub giving_below_limit : r.giving < max 1 r.lead_limit
  pub balance : r.sent + r.lag + r.forfeited ≡ r.marked + r.lead + r.free
  pub sent_at_most_arrived : r.sent ≤ r.arrived

-- the bounds of the counts in a cell that has decided so many slots
pub record Bounded (slots : ℕ) (r : Row) : Type 0 where
  pub arrived : r.arrived ≤ most
  pub marked : r.marked ≤ slots
  pub free : r.free ≤ slots
  pub forfeited : r.forfeited ≤ slots

-- both, of every row
pub record KeptRows (slots : ℕ) (rows : List Row) : Type 0 where
  pub facts : (f : ℕ) → f < length rows → Facts (at rows f)
  pub bounded : (f : ℕ) → f < length rows → Bounded slots (at rows f)
