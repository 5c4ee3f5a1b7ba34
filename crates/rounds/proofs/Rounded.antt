-- The fewest marks that are a share: what is owed, less the allowance, over the total weight, rounded up.
use Rattle.std.proofs.Common.{◌≡◌, ℕ, ◌-◌, ◌*◌, ◌<◌, Some, None, Option, nat_lt, ap, arith}
use native.Mathlib.Nat.{mul-le-mul_right}
use Rattle.std.proofs.lemmas.Bool.Decides.{nat_tests}
use Rattle.std.proofs.lemmas.Grind.{div_ceil_times}
use Rattle.std.specs.Int.{div_ceil}
use Rattle.std.specs.Option.{is_some, IfSome}
use Rattle.rounds.specs.Fewest.{FewestMarks}

module _ (turns weight total allowance owed : ℕ) (less : owed ≡ turns * weight - allowance) where
  fewest_rounded : 0 < total → (marks : ℕ) → marks ≡ div_ceil owed total → FewestMarks turns weight total allowance (Some marks)
  fewest_rounded positive marks e =
      let bounds = div_ceil_times owed total positive in
      let product = ap (λ n. n * total) e in
      (omega (arith, product), λ fewer l. omega (arith, product, mul-le-mul_right total l))

  pub fewest_told :
      (r : Option ℕ) → is_some r ≡ nat_lt 0 total → IfSome r (λ marks. marks ≡ div_ceil owed total)
      → FewestMarks turns weight total allowance r
  fewest_told None variant e = grind (arith, nat_tests)
  fewest_told (Some marks) variant e = fewest_rounded (grind (arith, nat_tests)) marks e
