-- Flows that enter one after another.
use Rattle.std.proofs.Common.{◌≡◌, ℕ, zero, suc, ◌<◌, ◌≤◌, true, sym, refl, ap, ◌∙◌, ⊎_elim, arith}
use Rattle.std.proofs.lemmas.Bool.{cases_eq}
use Rattle.reference.specs.Meaning.{Meaning, Lawful, SameNumbers}
use Rattle.rounds.specs.Rounds.{entered_below}

module _ (M : Meaning) (L : Lawful M) (h : M.Held) (sound : M.Sound h) where
  entered_sound : (n : ℕ) → M.Sound (entered_below M h n)
  entered_sound zero = sound
  entered_sound (suc n) = L.enter_sound (entered_below M h n) n (entered_sound n)

  pub entered_numbers : (n : ℕ) → SameNumbers M h (entered_below M h n)
  entered_numbers zero = record { flows = refl; weight = λ _. refl; allowance = λ _. refl; total = refl }
  entered_numbers (suc n) =
      let more = L.enter_keeps_numbers (entered_below M h n) n (entered_sound n) in
      let so_far = entered_numbers n in
      record {
        flows = more.flows ∙ so_far.flows;
        weight = λ f. more.weight f ∙ so_far.weight f;
        allowance = λ f. more.allowance f ∙ so_far.allowance f;
        total = more.total ∙ so_far.total;
      }

  pub entered_due : (n f : ℕ) → n ≤ M.flows h → f < n → M.due (entered_below M h n) f ≡ true
  entered_due zero f le l = absurd (omega arith)
  entered_due (suc n) f le l =
      let k : M.Held = entered_below M h n in
      ⊎_elim
      (λ same.
      ap (M.due (M.entered k n)) (sym same)
      ∙ L.entered_is_due k n (entered_sound n) (omega (arith, (entered_numbers n).flows)))
      (λ other.
      L.enter_keeps_others_due k n f (entered_sound n) other ∙ entered_due n f (omega arith) (omega arith))
      (cases_eq n f)
