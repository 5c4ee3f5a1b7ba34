-- The numbers behind the laws of tags: r is a flow's weight, w the others' weight, o what they owe, t a tag.
use Rattle.std.proofs.Common.{◌≡◌, ℕ, zero, suc, ◌+◌, ◌-◌, ◌*◌, ◌/◌, ◌≤◌, Bool, true, ◌&&◌, ◌||◌, eqb, ◌⊎◌, sym, refl, ap, ◌∙◌, ⊎_elim, mul_assoc, mul_comm, mul-le-mul_left, mul-add, mul_left_comm, arith}
use Rattle.std.proofs.lemmas.Bool.Decides.{Decides-below_and, Decides-or, Decides-eqb}
use Rattle.reference.specs.Meaning.{whole}

-- 720,720 is a multiple of 1 to 16
divides : ℕ → Bool
divides zero = true
divides (suc n) = (eqb n 0 || eqb (n * (720720 / n)) 720720) && divides n

pub in_parts : (r : ℕ) → 1 ≤ r → r ≤ 16 → r * (whole / r) ≡ whole
unfolding divides
in_parts r a b =
    ⊎_elim
    (λ z. absurd (omega arith))
    (λ e. e)
    ((Decides-below_and (λ k. eqb k 0 || eqb (k * (720720 / k)) 720720) (λ k. (k ≡ 0) ⊎ (k * (720720 / k) ≡ 720720)) divides
    (λ k. Decides-or _ _ (Decides-eqb k 0) (Decides-eqb (k * (720720 / k)) 720720))
    refl (λ n. refl) 17).0 refl r (omega arith))

-- w is the others' weight, o what they owe, t the tag
pub owed_cap : (p r t : ℕ) → 1 ≤ r → r ≤ 16 → t ≤ p * whole + whole / r → r * t ≤ whole * (p * r + 1)
owed_cap p r t a b h =
    let one : r * t ≤ r * (p * whole + whole / r) = mul-le-mul_left r h in
    let two : r * (p * whole + whole / r) ≡ r * (p * whole) + r * (whole / r) = mul-add r (p * whole) (whole / r) in
    let three : r * (p * whole) ≡ r * p * whole = sym (mul_assoc r p whole) in
    let four : r * p ≡ p * r = mul_comm r p in
    let five : r * p * whole ≡ p * r * whole = ap (λ n. n * whole) four in
    let six : r * (whole / r) ≡ whole = in_parts r a b in
    omega arith

pub within : (p r w o n x : ℕ) → o ≤ whole * (p * w + n) → r * o + w * (whole * (p * r + 1) - x) ≤ whole * (2 * p * r * w + r * n + w)
within p r w o n x h =
    let a : r * o ≤ r * (whole * (p * w + n)) = mul-le-mul_left r h in
    let b : r * (whole * (p * w + n)) ≡ whole * (r * (p * w + n)) = mul_left_comm r whole (p * w + n) in
    let c : r * (p * w + n) ≡ r * (p * w) + r * n = mul-add r (p * w) n in
    let d : w * (whole * (p * r + 1) - x) ≤ w * (whole * (p * r + 1)) = mul-le-mul_left w (omega arith) in
    let e : w * (whole * (p * r + 1)) ≡ whole * (w * (p * r + 1)) = mul_left_comm w whole (p * r + 1) in
    let f : w * (p * r + 1) ≡ w * (p * r) + w * 1 = mul-add w (p * r) 1 in
    let g : r * (p * w) ≡ p * r * w = mul_left_comm r p w ∙ sym (mul_assoc p r w) in
    let i : w * (p * r) ≡ p * r * w = mul_comm w (p * r) in
    let j : 2 * p * r * w ≡ 2 * (p * r * w) = ap (λ k. k * w) (mul_assoc 2 p r) ∙ mul_assoc 2 (p * r) w in
    omega arith

pub one_more : (r o w v : ℕ) → r * o + w * v + whole * r ≤ r * (o + whole) + w * v
one_more r o w v = let a : r * (o + whole) ≡ r * o + r * whole = mul-add r o whole in omega arith

pub one_less : (r o w c x : ℕ) → x + whole ≤ c → r * o + w * (c - x) ≤ r * o + w * (c - (x + whole)) + whole * w
one_less r o w c x h =
    let q : c - x ≡ (c - (x + whole)) + whole = omega arith in
    let a : w * (c - x) ≡ w * (c - (x + whole)) + w * whole = ap (λ n. w * n) q ∙ mul-add w (c - (x + whole)) whole in
    omega arith

-- virtual time d further on: o' and t' are what is left of o and t
pub shifted :
    (r o o' w c t t' d : ℕ) → o ≤ o' + d * w → t' + d ≡ t → r * t ≤ c → r * o + w * (c - r * t) ≤ r * o' + w * (c - r * t')
shifted r o o' w c t t' d h e k =
    let a : r * o ≤ r * (o' + d * w) = mul-le-mul_left r h in
    let b : r * (o' + d * w) ≡ r * o' + r * (d * w) = mul-add r o' (d * w) in
    let f : r * t ≡ r * t' + r * d = ap (λ n. r * n) (sym e) ∙ mul-add r t' d in
    let q : c - r * t' ≡ (c - r * t) + r * d = omega arith in
    let g : w * (c - r * t') ≡ w * (c - r * t) + w * (r * d) = ap (λ n. w * n) q ∙ mul-add w (c - r * t) (r * d) in
    let i : w * (r * d) ≡ r * (d * w) = mul_left_comm w r d ∙ ap (λ n. r * n) (mul_comm w d) in
    omega arith
