-- The range of flow counts and weights.
use Rattle.std.specs.Prelude.{ℕ, Bool, ◌&&◌, nat_le}

abbrev pub one_to_sixteen : ℕ → Bool
one_to_sixteen n = nat_le 1 n && nat_le n 16
