-- Proofs, for the order of fractions in the tests: they are compared by their cross products.
use Rattle.std.specs.Prelude.{◌≡◌, ℕ, ◌*◌, ◌<◌, ◌≤◌, true, false, nat_lt}
use Rattle.std.proofs.Common.{mul-le-mul_left, arith}
use Rattle.std.proofs.lemmas.Bool.Decides.{nat_tests}
use Rattle.std.proofs.Math.Nat.{le_of_mul-le-mul_left}

-- if b / y is at most a / x, and c / z at most b / y, then c / z is at most a / x
pub fractions_chain : (a x b y c z : ℕ) → 0 < y → b * x ≤ a * y → c * y ≤ b * z → c * x ≤ a * z
fractions_chain a x b y c z positive p q =
    let one : z * (b * x) ≤ z * (a * y) = mul-le-mul_left z p in
    let two : x * (c * y) ≤ x * (b * z) = mul-le-mul_left x q in
    let all : y * (c * x) ≤ y * (a * z) = grind arith in
    le_of_mul-le-mul_left all positive

-- a fraction below another is not above it
pub below_one_way : (a x b y : ℕ) → nat_lt (a * y) (b * x) ≡ true → nat_lt (b * x) (a * y) ≡ false
below_one_way a x b y h = grind (arith, nat_tests)

-- a / x is not below b / y, and that is not below c / z: so a / x is not below c / z
pub below_chain :
    (a x b y c z : ℕ) → 0 < y → nat_lt (a * y) (b * x) ≡ false → nat_lt (b * z) (c * y) ≡ false → nat_lt (a * z) (c * x) ≡ false
below_chain a x b y c z positive h k =
    let p = fractions_chain a x b y c z positive in grind (arith, nat_tests)
