-- Rounding to the nearest tenth of a percent.
use Rattle.std.specs.Prelude.{◌≡◌, ℕ, ◌+◌, ◌*◌, ◌<◌, ◌≤◌, Some, None, Option}

-- r tenths of a percent are at most half a tenth more than the exact share, and less than half a tenth less
abbrev pub Nearest : ℕ → ℕ → Option ℕ → Type 0
Nearest part whole None = whole ≡ 0
Nearest part whole (Some r) =
    (0 < whole) × (2 * whole * r ≤ 2000 * part + whole) × (2000 * part + whole < 2 * whole * (r + 1))
