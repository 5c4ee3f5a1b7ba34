-- Whether what a slot is settled as may stand in a record.
use Rattle.std.specs.Prelude.{◌≡◌, ℕ, true, Option}
use Rattle.record.specs.Pairs.{flows_fit, pair_fits}
use Rattle.record.specs.declared.taking.Charge.{Charge}
use Rattle.record.specs.declared.taking.Taking.{Taking}

-- the flows may stand in a record of n flows, and sender and charge go together
abbrev pub FitsRecord : ℕ → Option ℕ → Taking × Charge → Type 0
FitsRecord n marked x = (flows_fit n marked x.0 ≡ true) × (pair_fits marked x.0 x.1 ≡ true)
