-- What the searches for a sender amount to: which flow is found of all that might be, and that none is found only where
-- there is none.
use Rattle.std.specs.Prelude.{◌≡◌, ℕ, ◌+◌, ◌*◌, ◌<◌, ◌≤◌, Bool, true, false, ◌⊎◌, List, length, Some, None, Option}
use Rattle.reference.specs.Flows.{away}
use Rattle.cell_rules.specs.Rules.{Ring, at, able, repayable, finds_again, can_lead_more, can_start_to_lead}
use Rattle.cell_rules.specs.declared.row.Row.{Row}

module _ (rows : List Row) (clean : ℕ → Bool) where
  -- The flow found is able, and no able flow has a lower number. None is found only if no flow is able.
  abbrev pub LowestAble : Option ℕ → Type 0
  LowestAble None = (g : ℕ) → able rows clean g ≡ false
  LowestAble (Some f) = (able rows clean f ≡ true) × ((g : ℕ) → able rows clean g ≡ true → f ≤ g)

  -- lead ÷ limit of flow f is smaller than that of flow g, or it is the same and f is no higher number (for limits
  -- above 0)
  abbrev pub ComesFirst : ℕ → ℕ → Type 0
  ComesFirst f g =
      ((at rows f).lead * (at rows g).lead_limit < (at rows g).lead * (at rows f).lead_limit)
      ⊎ (((at rows f).lead * (at rows g).lead_limit ≡ (at rows g).lead * (at rows f).lead_limit) × (f ≤ g))

  -- The flow charged can lead more, and comes first of all that can. Where none can, it is in sync and can start to
  -- lead, and no such flow has a lower number. None is charged only if no flow can lead more and none can start to
  -- lead. (A flow that can lead more has a limit above 0.)
  abbrev pub ChargedInOrder : Option ℕ → Type 0
  ChargedInOrder None = (g : ℕ) → (can_lead_more rows clean g ≡ false) × (can_start_to_lead rows clean g ≡ false)
  ChargedInOrder (Some f) =
      ((can_lead_more rows clean f ≡ true) × ((g : ℕ) → can_lead_more rows clean g ≡ true → ComesFirst f g))
      ⊎ ((can_start_to_lead rows clean f ≡ true)
      × ((g : ℕ) → can_lead_more rows clean g ≡ false)
      × ((g : ℕ) → can_start_to_lead rows clean g ≡ true → f ≤ g))

  module _ (ring : Ring) where
    -- The flow found is lagging and able. It is the pointed flow if the ring finds that again. Otherwise no flow that
    -- is lagging and able stands nearer to the flow that follows the pointed one, looking upward and around. None is
    -- found only if no flow is lagging and able. (Where the pointer is a flow's number, only one flow stands so near.)
    abbrev pub FoundAround : Option ℕ → Type 0
    FoundAround None = (g : ℕ) → repayable rows clean g ≡ false
    FoundAround (Some f) =
        (repayable rows clean f ≡ true)
        × (finds_again rows clean ring ≡ true → f ≡ ring.pointer)
        × (finds_again rows clean ring ≡ false
        → (g : ℕ) → repayable rows clean g ≡ true
        → away (length rows) (ring.pointer + 1) f ≤ away (length rows) (ring.pointer + 1) g)
