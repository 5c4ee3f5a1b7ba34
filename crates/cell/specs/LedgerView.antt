-- What a ledger of the code holds, and what its calls make of it.
use Rattle.std.specs.Prelude.{◌≡◌, ℕ, ◌<◌, ◌≤◌, Bool, cond, List, length, take, Some, None, Ok, Err, Option, Result, nat_lt}
use Rattle.std.specs.Option.{option_map_or}
use Rattle.fault.specs.Faults.{arrival_number}
use Rattle.fault.specs.declared.ArrivalFault.{ArrivalFault}
use Rattle.record.specs.declared.taking.Charge.{Charge}
use Rattle.record.specs.declared.taking.Charge.TheVariants.{Nothing, LeadDown, LagUp, Forfeited}
use Rattle.record.specs.declared.taking.Taking.{Taking}
use Rattle.record.specs.declared.taking.Taking.TheVariants.{Idle, Own, LagRepaid, LeadCharged, Free}
use Rattle.record.specs.Pairs.{sender_of}
use Rattle.cell_rules.specs.declared.row.Row.{Row}
use Rattle.cell_rules.specs.Rules.{Outcome, at, booked_row, enters, more_arrived, most, arrival_refusal}
use Rattle.cell.specs.declared.ledger.Ledger.{Ledger}

-- the rows of the flows that there are
abbrev pub ledger_rows : Ledger → List Row
ledger_rows l = take l.count l.rows

-- the row of flow f; none past the last flow
abbrev pub row_of : List Row → ℕ → Option Row
row_of rows f = cond (nat_lt f (length rows)) (Some (at rows f)) None

-- n packets arrive for flow f in a ledger: whether it enters, or the number of the refusal, which alters nothing
abbrev pub LedgerArrived : Ledger → ℕ → ℕ → Ledger → Result Bool ArrivalFault → Type 0
LedgerArrived l f n m (Ok entered) =
    (arrival_refusal (ledger_rows l) f n ≡ None)
    × (ledger_rows m ≡ more_arrived (ledger_rows l) f n)
    × (m.slots ≡ l.slots)
    × (entered ≡ enters (at (ledger_rows l) f) n)
LedgerArrived l f n m (Err e) =
    (arrival_refusal (ledger_rows l) f n ≡ Some (arrival_number e)) × (m ≡ l)

-- what a slot comes to
abbrev pub outcome_of : Option ℕ → Taking → Charge → Outcome
outcome_of m t c = record { marked = m; taking = t; charge = c }

-- Booking goes in two steps. First the marked flow has its turn, as in a slot in which nobody sends; the row is the
-- same for every number of a flow, as for 0.
abbrev pub turned_row : Charge → Row → Row
turned_row c r = booked_row (outcome_of (Some 0) Idle c) 0 r

-- Then the sender sends, as in a slot that marks nobody.
abbrev pub sent_row : Taking → Row → Row
sent_row t r = option_map_or (λ f. booked_row (outcome_of None t Nothing) f r) (sender_of t) r

-- what a row must leave for its flow's turn: a lead to lower, or room for one more lag
abbrev pub ChargeFits : Charge → Row → Type 0
ChargeFits Nothing r = Unit {0}
ChargeFits LeadDown r = 0 < r.lead
ChargeFits LagUp r = r.lag < r.lag_limit
ChargeFits Forfeited r = Unit {0}

-- that, and room for the counts of a marked flow
pub record TurnFits (c : Charge) (r : Row) : Type 0 where
  pub lead_within_limit : r.lead ≤ r.lead_limit
  pub marked : r.marked < most
  pub forfeited : r.forfeited < most
  pub charge : ChargeFits c r

-- what a sender's row must leave: a lag to lower, or room for one more lead; an idle slot has no sender
abbrev pub TakingFits : Taking → Row → Type 0
TakingFits Idle r = ⊥
TakingFits (Own f) r = Unit {0}
TakingFits (LagRepaid f) r = 0 < r.lag
TakingFits (LeadCharged f) r = r.lead < r.lead_limit
TakingFits (Free f) r = Unit {0}

-- that, and room for the counts of a sender
pub record SendFits (t : Taking) (r : Row) : Type 0 where
  pub sent : r.sent < most
  pub free : r.free < most
  pub taking : TakingFits t r
