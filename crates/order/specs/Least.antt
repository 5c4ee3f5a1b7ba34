-- The place of the least entry of a list.
use Rattle.std.specs.Prelude.{◌≡◌, ℕ, ◌<◌, Bool, true, false, List, length, Some, None, Option, slice_index_or}

-- There is no place exactly in an empty list. Otherwise no entry of the list precedes the one at the place, and that
-- one precedes every entry at a lower place: so of those that tie for the least it is the first. (d stands where a
-- place is past the end, and never matters.)
abbrev pub LeastAt : {A : Type 0} → (A → A → Bool) → List A → Option ℕ → Type 0
LeastAt before xs None = length xs ≡ 0
LeastAt {A} before xs (Some i) =
    (i < length xs)
    × ((k : ℕ) (d : A) → k < length xs → before (slice_index_or xs k d) (slice_index_or xs i d) ≡ false)
    × ((k : ℕ) (d : A) → k < i → before (slice_index_or xs i d) (slice_index_or xs k d) ≡ true)
