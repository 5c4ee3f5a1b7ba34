-- Writing into an output from a given place on.
use Rattle.std.specs.Prelude.{◌≡◌, ℕ, ◌+◌, ◌<◌, ◌≤◌, List, ◌++◌, length, take, drop, Ok, Err, Result}
use Rattle.std.specs.List.{between}
use Rattle.fault.specs.Faults.{write_number}
use Rattle.fault.specs.declared.WriteFault.{WriteFault}

-- the place after `size` bytes from `at` on, in an output of `len` bytes
abbrev pub Placed : ℕ → ℕ → ℕ → Result ℕ WriteFault → Type 0
Placed len at size (Ok next) = (at + size ≤ len) × (next ≡ at + size)
Placed len at size (Err e) = (len < at + size) × (write_number e ≡ 12)

-- xs with bs in the place of what stood from `at` on
abbrev pub pasted : List ℕ → ℕ → List ℕ → List ℕ
pasted xs at bs = take at xs ++ (bs ++ drop (at + length bs) xs)

-- Writing the bytes bs from `at` on into an output that held xs and then holds ys. Where there is room they stand
-- between `at` and the next place, which is told, and every other byte stays. Otherwise every byte stays.
abbrev pub Written : List ℕ → ℕ → List ℕ → List ℕ → Result ℕ WriteFault → Type 0
Written xs at bs ys (Ok next) =
    (at + length bs ≤ length xs) × (next ≡ at + length bs) × (ys ≡ pasted xs at bs) × (between at next ys ≡ bs)
Written xs at bs ys (Err e) = (length xs < at + length bs) × (ys ≡ xs) × (write_number e ≡ 12)
