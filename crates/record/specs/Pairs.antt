-- What a slot's record may say: takings with their senders, charges, and which of them go together.
use Rattle.std.specs.Prelude.{ℕ, Bool, true, false, cond, not, ◌&&◌, Some, None, Option, ◌==◌, nat_lt}
use Rattle.record.specs.Accounts.{names}
use Rattle.record.specs.declared.taking.Charge.{Charge}
use Rattle.record.specs.declared.taking.Charge.TheVariants.{Nothing, LeadDown, LagUp, Forfeited}
use Rattle.record.specs.declared.taking.Taking.{Taking}
use Rattle.record.specs.declared.taking.Taking.TheVariants.{Idle, Own, LagRepaid, LeadCharged, Free}

-- the number of a taking
abbrev pub taking_number : Taking → ℕ
taking_number Idle = 0
taking_number (Own s) = 1
taking_number (LagRepaid s) = 2
taking_number (LeadCharged s) = 3
taking_number (Free s) = 4

-- its sender
abbrev pub sender_of : Taking → Option ℕ
sender_of Idle = None
sender_of (Own s) = Some s
sender_of (LagRepaid s) = Some s
sender_of (LeadCharged s) = Some s
sender_of (Free s) = Some s

-- the taking that has a number and a sender, if any
abbrev pub taking_of : ℕ → Option ℕ → Option Taking
taking_of n None = cond (n == 0) (Some Idle) None
taking_of n (Some s) =
    cond (n == 1) (Some (Own s))
    (cond (n == 2) (Some (LagRepaid s)) (cond (n == 3) (Some (LeadCharged s)) (cond (n == 4) (Some (Free s)) None)))

-- the number of a charge
abbrev pub charge_number : Charge → ℕ
charge_number Nothing = 0
charge_number LeadDown = 1
charge_number LagUp = 2
charge_number Forfeited = 3

-- the charge that has a number, if any
abbrev pub charge_numbered : ℕ → Option Charge
charge_numbered n =
    cond (n == 0) (Some Nothing)
    (cond (n == 1) (Some LeadDown) (cond (n == 2) (Some LagUp) (cond (n == 3) (Some Forfeited) None)))

-- a flow that is named is below the flow count n
abbrev pub flow_fits : ℕ → Option ℕ → Bool
flow_fits n None = true
flow_fits n (Some f) = nat_lt f n

-- the sender is the marked flow in its own taking, and another flow in the three that pass the slot on
abbrev pub sender_fits : Option ℕ → Taking → Bool
sender_fits m Idle = true
sender_fits m (Own s) = names m s
sender_fits m (LagRepaid s) = not (names m s)
sender_fits m (LeadCharged s) = not (names m s)
sender_fits m (Free s) = not (names m s)

-- the flows that a record of n flows names
abbrev pub flows_fit : ℕ → Option ℕ → Taking → Bool
flows_fit n m t = flow_fits n m && (flow_fits n (sender_of t) && sender_fits m t)

-- which takings and charges go together in a slot that marks a flow
abbrev pub marked_pair : Taking → Charge → Bool
marked_pair Idle Nothing = false
marked_pair Idle LeadDown = true
marked_pair Idle LagUp = false
marked_pair Idle Forfeited = true
marked_pair (Own s) Nothing = true
marked_pair (Own s) LeadDown = false
marked_pair (Own s) LagUp = false
marked_pair (Own s) Forfeited = false
marked_pair (LagRepaid s) Nothing = false
marked_pair (LagRepaid s) LeadDown = true
marked_pair (LagRepaid s) LagUp = true
marked_pair (LagRepaid s) Forfeited = true
marked_pair (LeadCharged s) Nothing = false
marked_pair (LeadCharged s) LeadDown = true
marked_pair (LeadCharged s) LagUp = true
marked_pair (LeadCharged s) Forfeited = false
marked_pair (Free s) Nothing = false
marked_pair (Free s) LeadDown = true
marked_pair (Free s) LagUp = false
marked_pair (Free s) Forfeited = true

-- and in a slot that marks nobody, which charges nobody
abbrev pub unmarked_pair : Taking → Charge → Bool
unmarked_pair Idle Nothing = true
unmarked_pair Idle LeadDown = false
unmarked_pair Idle LagUp = false
unmarked_pair Idle Forfeited = false
unmarked_pair (Own s) c = false
unmarked_pair (LagRepaid s) Nothing = true
unmarked_pair (LagRepaid s) LeadDown = false
unmarked_pair (LagRepaid s) LagUp = false
unmarked_pair (LagRepaid s) Forfeited = false
unmarked_pair (LeadCharged s) c = false
unmarked_pair (Free s) Nothing = true
unmarked_pair (Free s) LeadDown = false
unmarked_pair (Free s) LagUp = false
unmarked_pair (Free s) Forfeited = false

abbrev pub pair_fits : Option ℕ → Taking → Charge → Bool
pair_fits None t c = unmarked_pair t c
pair_fits (Some m) t c = marked_pair t c
