use Rattle.std.proofs.Common.{◌≡◌, ℕ, suc, zero, ◌+◌, ◌-◌, ◌<◌, ◌/◌, Bool, true, ◌&&◌, eqb, get_or, refl, ap, subst, ⊎_elim, ◌∙◌, sym, arith}
use Rattle.std.proofs.lemmas.Bool.{cases_lt, and_parts, eqb-true}
use Rattle.reference.specs.Meaning.{whole}
use Rattle.tags.specs.declared.parts.TheConstants.{PARTS}
use Rattle.tags.proofs.parts.part.Goals as goal

-- whether each number below n passes a test; then any one of them does
abbrev passes : (ℕ → Bool) → ℕ → Bool
passes p zero = true
passes p (suc n) = p n && passes p n

each_passes : (p : ℕ → Bool) (n k : ℕ) → passes p n ≡ true → k < n → p k ≡ true
each_passes p zero k e l = absurd (omega arith)
each_passes p (suc n) k e l =
    let both = and_parts (p n) (passes p n) e in
    ⊎_elim
    (λ m. each_passes p n k both.1 m)
    (λ m. let last : n ≡ k = omega arith in subst (λ j. p j ≡ true) last both.0)
    (cases_lt k n)

-- the place after a weight's has the whole divided by it
abbrev divides : ℕ → Bool
divides k = eqb (get_or PARTS (k + 1) 0) (whole / (k + 1))

divided : (k : ℕ) → k < 16 → get_or PARTS (k + 1) 0 ≡ whole / (k + 1)
divided k l = eqb-true _ _ (each_passes divides 16 k refl l)

pub returns : goal.returns
returns c =
    let at : c.args.weight - 1 + 1 ≡ c.args.weight = omega (arith, c.requires.at_least_one) in
    let few : c.args.weight - 1 < 16 = omega (arith, c.requires) in
    ap (λ i. get_or PARTS i 0) (c.from.ensures ∙ sym at) ∙ (divided (c.args.weight - 1) few ∙ ap (λ i. whole / i) at)
