-- The fewest marks that are a share.
use Rattle.std.specs.Prelude.{◌≡◌, ℕ, ◌+◌, ◌*◌, ◌<◌, ◌≤◌, Some, None, Option}

-- turns × weight is at most marks × total weight + allowance, and would not be with fewer marks
abbrev pub FewestMarks : ℕ → ℕ → ℕ → ℕ → Option ℕ → Type 0
FewestMarks turns weight total allowance None = total ≡ 0
FewestMarks turns weight total allowance (Some marks) =
    (turns * weight ≤ marks * total + allowance)
    × ((fewer : ℕ) → fewer < marks → fewer * total + allowance < turns * weight)
