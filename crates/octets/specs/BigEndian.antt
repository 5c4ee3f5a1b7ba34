-- Numbers as bytes, the highest byte first, for every width.
use Rattle.std.specs.Prelude.{ℕ, zero, suc, ◌+◌, ◌*◌, ◌/◌, ◌%◌, ◌^◌, ◌<◌, List, [], ◌∷◌, ◌++◌, length, slice_index}

-- every entry of a list is a byte
abbrev pub Bytes : List ℕ → Type 0
Bytes bs = (i : ℕ) → slice_index bs i < 256

-- the number that some bytes hold
abbrev pub be_number : List ℕ → ℕ
be_number [] = 0
be_number (b ∷ bs) = b * 256 ^ length bs + be_number bs

-- the bytes, `width` of them, that hold a number
abbrev pub be_bytes : ℕ → ℕ → List ℕ
be_bytes zero n = []
be_bytes (suc width) n = (n / 256 ^ width % 256) ∷ be_bytes width n

-- a length of two bytes comes first, and does not count itself
abbrev pub framed : List ℕ → List ℕ
framed body = be_bytes 2 (length body) ++ body

abbrev pub byte_at : List ℕ → ℕ → ℕ
byte_at b i = slice_index b i

-- the length that the first two bytes tell
abbrev pub told_length : List ℕ → ℕ
told_length b = be_number (byte_at b 0 ∷ byte_at b 1 ∷ [])
