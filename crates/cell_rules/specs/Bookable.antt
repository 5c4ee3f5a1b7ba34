-- Which outcomes of a slot can be booked: the accounts on which a flow may send, and the charges that a marked flow may
-- bear, so that every flow keeps its facts.
use Rattle.std.specs.Prelude.{◌≡◌, ℕ, ◌<◌, false, ◌⊎◌, List, length, Some, None, Option}
use Rattle.record.specs.Accounts.{names}
use Rattle.record.specs.declared.taking.Charge.{Charge}
use Rattle.record.specs.declared.taking.Charge.TheVariants.{Nothing, LeadDown, LagUp, Forfeited}
use Rattle.record.specs.declared.taking.Taking.{Taking}
use Rattle.record.specs.declared.taking.Taking.TheVariants.{Idle, Own, LagRepaid, LeadCharged, Free}
use Rattle.record.specs.Pairs.{sender_of}
use Rattle.cell_rules.specs.Rules.{Outcome, at, waiting}
use Rattle.cell_rules.specs.declared.row.Row.{Row}

module _ (rows : List Row) where
  abbrev pub Waits : ℕ → Type 0
  Waits f = 0 < waiting (at rows f)

  -- who may send, where it is not the marked flow in its own turn
  abbrev pub MaySend : Taking → Type 0
  MaySend Idle = Unit {0}
  MaySend (Own f) = ⊥
  MaySend (LagRepaid f) = Waits f × (0 < (at rows f).lag)
  MaySend (LeadCharged f) =
      Waits f × ((at rows f).lead < (at rows f).lead_limit) × ((0 < (at rows f).lead) ⊎ ((at rows f).lag ≡ 0))
  MaySend (Free f) = Waits f

  -- what the marked flow m may be charged there
  abbrev pub MayBear : ℕ → Taking → Charge → Type 0
  MayBear m t Nothing = ⊥
  MayBear m t LeadDown = 0 < (at rows m).lead
  MayBear m t LagUp = ((at rows m).lag < (at rows m).lag_limit) × ((at rows m).lead ≡ 0) × (names (sender_of t) m ≡ false)
  MayBear m t Forfeited = Unit {0}

  -- nobody is marked, or flow m is: it sends in its turn, or the slot is passed on and it bears a charge
  abbrev pub Settles : Option ℕ → Taking → Charge → Type 0
  Settles None t c = MaySend t × (c ≡ Nothing)
  Settles (Some m) t c =
      (m < length rows) × (((t ≡ Own m) × (c ≡ Nothing) × Waits m) ⊎ (MaySend t × MayBear m t c))

  abbrev pub Bookable : Outcome → Type 0
  Bookable x = Settles x.marked x.taking x.charge
