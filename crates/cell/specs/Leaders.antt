-- The leaders of the code, for the flows that the rules speak of.
use Rattle.std.specs.Prelude.{◌≡◌, ℕ, ◌*◌, Bool, true, false, List, Some, None, Option, nat_lt}
use Rattle.cell_rules.specs.declared.row.Row.{Row}
use Rattle.cell_rules.specs.Rules.{at, can_lead_more}
use Rattle.cell.specs.declared.leader.Leader.{Leader}

abbrev pub flow_of : Leader → ℕ
flow_of l = l.flow

-- a leader has the lead and the limit of its flow
abbrev pub HasItsRow : List Row → Leader → Type 0
HasItsRow rows l = (l.lead ≡ (at rows l.flow).lead) × (l.limit ≡ (at rows l.flow).lead_limit)

-- the one whose lead is the smaller part of its limit comes first, by their cross products
abbrev pub sooner : Leader → Leader → Bool
sooner x y = nat_lt (x.lead * y.limit) (y.lead * x.limit)

-- the leader that is made of flow f: none unless the flow is able, leading and below its lead limit
abbrev pub LeaderOf : List Row → (ℕ → Bool) → ℕ → Option Leader → Type 0
LeaderOf rows clean f None = can_lead_more rows clean f ≡ false
LeaderOf rows clean f (Some l) = (can_lead_more rows clean f ≡ true) × (l.flow ≡ f) × HasItsRow rows l
