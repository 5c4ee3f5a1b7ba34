-- The clean bits of a report set alone say which flows flagged clean.
use Rattle.std.proofs.Common.{◌≡◌, Bool, true, false, ◌&&◌, refl}
use Rattle.cell_rules.specs.Rules.{flags_clean, has}
use Rattle.cell.specs.ReportSetView.{reports_held}
use Rattle.cell.specs.declared.report_set.ReportSet.{ReportSet}

implied : (a b : Bool) → (a ≡ false → b ≡ false) → b ≡ (a && b)
implied true b h = refl
implied false b h = h refl

pub clean_bits_are_the_flags : (r : ReportSet) → has r.clean.bits ≡ flags_clean (reports_held r)
clean_bits_are_the_flags r =
    λ i. λ f. implied (has r.flagged.bits f) (has r.clean.bits f) (r.dirty_without f) i
