-- The bits of a set of flows, and what one more flow changes in them.
use Rattle.std.proofs.Common.{◌≡◌, ◌≢◌, ℕ, ◌^◌, ◌-◌, ◌<◌, ◌≤◌, min, nat_lt, true, false, cond, ◌&&◌, inl, inr, ap, ◌∙◌, w16, sym, true≢false, arith}
use Rattle.std.proofs.lemmas.Bool.Decides.{nat_tests}
use Rattle.std.proofs.lemmas.Bool.{cases_lt}
use Rattle.std.proofs.lemmas.Nat.Bits.{bit_at_above, bit_at_and, bit_at_not, bit_at_ones, bit_at_ones_above, bit_at_or, bit_at-pow_same, bit_at-pow_other, bit_at-lt}
use Rattle.std.specs.Int.{bit_at}
use Rattle.std.specs.Int.RustNames.{bit_and, bit_or}
use Rattle.cell_rules.specs.Rules.{has}

pub has_with_same : (m f : ℕ) → has (bit_or m (2 ^ f)) f ≡ true
has_with_same m f = grind (arith, nat_tests, bit_at_or m (2 ^ f) f, bit_at-pow_same f, bit_at-lt m f)

pub has_with_other : (m f g : ℕ) → g ≢ f → has (bit_or m (2 ^ f)) g ≡ has m g
has_with_other m f g apart = grind (arith, nat_tests, bit_at_or m (2 ^ f) g, bit_at-pow_other f g apart)

pub none_from_sixteen : (m f : ℕ) → m < 2 ^ 16 → 16 ≤ f → has m f ≡ false
none_from_sixteen m f fits past = grind (arith, nat_tests, bit_at_above m 16 f fits past)

-- ## The first n flows, those of them that are not in a set m, and those of these that are in a mask, beside a set c

module _ (n : ℕ) (few : n ≤ 16) where
  pub none_past_first : (f : ℕ) → n ≤ f → has (2 ^ n - 1) f ≡ false
  none_past_first f h = grind (arith, nat_tests, bit_at_ones_above n f h)

  pub past_first : (f : ℕ) → has (2 ^ n - 1) f ≡ false → n ≤ f
  past_first f h =
      elim (cases_lt f n) [
        | inl l ↦ absurd (true≢false (sym (grind (arith, nat_tests, bit_at_ones n f l)) ∙ h))
        | inr l ↦ l
      ]

  pub has_first : (f : ℕ) → has (2 ^ n - 1) f ≡ nat_lt f n
  has_first f =
      elim (cases_lt f n) [
        | inl h ↦ grind (arith, nat_tests, bit_at_ones n f h)
        | inr h ↦ grind (arith, nat_tests, bit_at_ones_above n f h)
      ]

  module _ (m c mask : ℕ) (fits : m < 2 ^ 16) where
    abbrev rest : ℕ
    rest = bit_and (2 ^ n - 1) (65535 - m)

    bit_of_rest : (f : ℕ) → f < 16 → bit_at rest f ≡ min (bit_at (2 ^ n - 1) f) (1 - bit_at m f)
    bit_of_rest f h = bit_at_and (2 ^ n - 1) (65535 - m) f ∙ ap (min (bit_at (2 ^ n - 1) f)) (bit_at_not w16 m f fits h)

    pub rest_in_mask :
        (f : ℕ)
        → (n ≤ f → has m f ≡ false)
        → (has m f ≡ false → has c f ≡ false)
        → (has (2 ^ n - 1) f && has (bit_or c (bit_and mask rest)) f) ≡ cond (has m f) (has m f && has c f) (nat_lt f n && has mask f)
    rest_in_mask f inside dirty =
        elim (cases_lt f n) [
          | inl h ↦
              grind (
                arith,
                nat_tests,
                bit_at_ones n f h,
                bit_of_rest f (omega (arith, h, few)),
                bit_at_or c (bit_and mask rest) f,
                bit_at_and mask rest f,
                bit_at-lt m f,
                bit_at-lt c f,
                bit_at-lt mask f,
                dirty,
              )
          | inr h ↦ grind (arith, nat_tests, bit_at_ones_above n f h, inside h)
        ]

    pub none_past : (f : ℕ) → has (2 ^ n - 1) f ≡ false → has c f ≡ false → has (bit_or c (bit_and mask rest)) f ≡ false
    none_past f past dirty =
        grind (
          arith,
          nat_tests,
          past,
          dirty,
          bit_at_or c (bit_and mask rest) f,
          bit_at_and mask rest f,
          bit_at_and (2 ^ n - 1) (65535 - m) f,
          bit_at-lt c f,
          bit_at-lt (2 ^ n - 1) f,
        )
