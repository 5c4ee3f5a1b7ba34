-- The first entries of a list, one by one.
use Rattle.std.proofs.Common.{◌≡◌, ℕ, zero, suc, ◌+◌, ◌≤◌, List, [], ◌∷◌, ◌++◌, length, get_or, drop, ap, arith}
use Rattle.std.proofs.lemmas.List.{drop_more}
use Rattle.octets.specs.BigEndian.{Bytes}

-- n entries, from place i on
abbrev pub listed : ℕ → ℕ → List ℕ → List ℕ
listed i zero b = []
listed i (suc n) b = get_or b i 0 ∷ listed (suc i) n b

pub listed_front : (i n : ℕ) (b : List ℕ) → i + n ≤ length b → drop i b ≡ listed i n b ++ drop (i + n) b
listed_front i zero b h = ap (λ m. drop m b) (omega arith)
listed_front i (suc n) b h =
    let e = drop_more b i 0 (omega arith) in
    let s : i + 1 ≡ suc i = omega arith in
    let m : suc i + n ≡ i + suc n = omega arith in
    let r = listed_front (suc i) n b (omega arith) in
    cc

pub listed_bytes : (i n : ℕ) (b : List ℕ) → Bytes b → Bytes (listed i n b)
listed_bytes i zero b h k = omega arith
listed_bytes i (suc n) b h zero = h i
listed_bytes i (suc n) b h (suc k) = listed_bytes (suc i) n b h k
