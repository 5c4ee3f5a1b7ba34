-- Which flow each part of a slot's record counts for, if any.
use Rattle.std.specs.Prelude.{ℕ, Bool, false, Some, None, Option, ◌==◌}
use Rattle.record.specs.declared.taking.Charge.{Charge}
use Rattle.record.specs.declared.taking.Charge.TheVariants.{Nothing, LeadDown, LagUp, Forfeited}
use Rattle.record.specs.declared.taking.Taking.{Taking}
use Rattle.record.specs.declared.taking.Taking.TheVariants.{Idle, Own, LagRepaid, LeadCharged, Free}

-- whether a flow is the one that is named, if one is
abbrev pub names : Option ℕ → ℕ → Bool
names None f = false
names (Some g) f = g == f

-- the sender, if it is paid back lag, if it is charged lead, or if it sends free
abbrev pub repaid_sender : Taking → Option ℕ
repaid_sender Idle = None
repaid_sender (Own f) = None
repaid_sender (LagRepaid f) = Some f
repaid_sender (LeadCharged f) = None
repaid_sender (Free f) = None

abbrev pub charged_sender : Taking → Option ℕ
charged_sender Idle = None
charged_sender (Own f) = None
charged_sender (LagRepaid f) = None
charged_sender (LeadCharged f) = Some f
charged_sender (Free f) = None

abbrev pub free_sender : Taking → Option ℕ
free_sender Idle = None
free_sender (Own f) = None
free_sender (LagRepaid f) = None
free_sender (LeadCharged f) = None
free_sender (Free f) = Some f

-- the marked flow, if it leads by one less, lags by one more, or forfeits
abbrev pub lead_down_of : Charge → Option ℕ → Option ℕ
lead_down_of Nothing m = None
lead_down_of LeadDown m = m
lead_down_of LagUp m = None
lead_down_of Forfeited m = None

abbrev pub lag_up_of : Charge → Option ℕ → Option ℕ
lag_up_of Nothing m = None
lag_up_of LeadDown m = None
lag_up_of LagUp m = m
lag_up_of Forfeited m = None

abbrev pub forfeited_by : Charge → Option ℕ → Option ℕ
forfeited_by Nothing m = None
forfeited_by LeadDown m = None
forfeited_by LagUp m = None
forfeited_by Forfeited m = m
