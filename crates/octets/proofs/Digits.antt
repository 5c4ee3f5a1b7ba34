-- Big-endian numbers: reading undoes writing and writing undoes reading, for every width.
use Rattle.std.proofs.Common.{◌≡◌, ℕ, zero, suc, ◌+◌, ◌*◌, ◌/◌, ◌%◌, ◌^◌, ◌<◌, ◌≤◌, List, [], ◌∷◌, length, sym, refl, ap, ◌∙◌, mul-le-mul_right, mod-lt, mod-eq_of_lt, mul_assoc, mul_comm, pow-suc, mul-add, arith}
use native.Mathlib.Nat.{one-le-pow, mod-one, div-add-mod, mul-add-div_right, div-eq_of_lt, mul-add-mod_self_right, mul-add-mod_self_left}
use Rattle.octets.specs.BigEndian.{Bytes, be_number, be_bytes}

pow_256_pos : (w : ℕ) → 0 < 256 ^ w
pow_256_pos w = one-le-pow w 256 (omega arith)

length_be_bytes : (w n : ℕ) → length (be_bytes w n) ≡ w
length_be_bytes zero n = refl
length_be_bytes (suc w) n = ap suc (length_be_bytes w n)

be_number_below : (bs : List ℕ) → Bytes bs → be_number bs < 256 ^ length bs
be_number_below [] h = omega arith
be_number_below (b ∷ bs) h =
    let p = 256 ^ length bs in
    let s : 256 ^ suc (length bs) ≡ p * 256 = pow-suc 256 (length bs) in
    let small : b ≤ 255 = omega (arith, h 0) in
    let top : b * p ≤ 255 * p = mul-le-mul_right p small in
    let rest = be_number_below bs (λ i. h (suc i)) in
    rw s (omega arith)

-- higher digits make no difference to the lower bytes
low_bytes : (w x v : ℕ) → be_bytes w (x * 256 ^ w + v) ≡ be_bytes w v
low_bytes zero x v = refl
low_bytes (suc w) x v =
    let p = 256 ^ w in
    let e : x * 256 ^ suc w ≡ x * 256 * p =
    ap (λ n. x * n) (pow-suc 256 w ∙ mul_comm p 256) ∙ sym (mul_assoc x 256 p) in
    let head : (x * 256 * p + v) / p % 256 ≡ v / p % 256 =
    ap (λ n. n % 256) (mul-add-div_right (pow_256_pos w) (x * 256) v) ∙ mul-add-mod_self_right x 256 (v / p) in
    let tail : be_bytes w (x * 256 * p + v) ≡ be_bytes w v = low_bytes w (x * 256) v in
    rw e (λ i. head i ∷ tail i)

-- writing undoes reading
pub bytes_of_number : (bs : List ℕ) → Bytes bs → be_bytes (length bs) (be_number bs) ≡ bs
bytes_of_number [] h = refl
bytes_of_number (b ∷ bs) h =
    let w = length bs in
    let p = 256 ^ w in
    let v = be_number bs in
    let rest : Bytes bs = λ i. h (suc i) in
    let none : v / p ≡ 0 = div-eq_of_lt (be_number_below bs rest) in
    let quotient : (b * p + v) / p ≡ b + v / p = mul-add-div_right (pow_256_pos w) b v in
    let head : (b * p + v) / p % 256 ≡ b = ap (λ n. n % 256) quotient ∙ omega (arith, none, h 0) in
    let tail : be_bytes w (b * p + v) ≡ bs = low_bytes w b v ∙ bytes_of_number bs rest in
    λ i. head i ∷ tail i

-- one digit more
digit_more : (n p : ℕ) → 0 < p → n / p % 256 * p + n % p ≡ n % (p * 256)
digit_more n p h =
    let q = n / p in
    let d = q % 256 in
    let r = n % p in
    let top : d * p ≤ 255 * p = mul-le-mul_right p (omega arith) in
    let small : d * p + r < p * 256 = omega (arith, mod-lt n h) in
    let split : p * q ≡ p * (256 * (q / 256)) + p * d =
    ap (λ m. p * m) (omega arith) ∙ mul-add p (256 * (q / 256)) d in
    let whole : n ≡ p * 256 * (q / 256) + (d * p + r) =
    omega (arith, div-add-mod n p, split, mul_assoc p 256 (q / 256), mul_comm p d) in
    sym (ap (λ m. m % (p * 256)) whole ∙ mul-add-mod_self_left (p * 256) (q / 256) (d * p + r) ∙ mod-eq_of_lt small)

low_number : (w n : ℕ) → be_number (be_bytes w n) ≡ n % 256 ^ w
low_number zero n = sym (mod-one n)
low_number (suc w) n =
    let p = 256 ^ w in
    let l = length_be_bytes w n in
    let i = low_number w n in
    let s : 256 ^ suc w ≡ p * 256 = pow-suc 256 w in
    rw (l, i, s) (digit_more n p (pow_256_pos w))

-- reading undoes writing
pub number_of_bytes : (w n : ℕ) → n < 256 ^ w → be_number (be_bytes w n) ≡ n
number_of_bytes w n h = low_number w n ∙ mod-eq_of_lt h
