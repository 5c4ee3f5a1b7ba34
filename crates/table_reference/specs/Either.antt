-- Either of two references is a reference: what holds of it is what holds of the one that it is.
use Rattle.std.specs.Prelude.{◌⊎◌}
use Rattle.std.proofs.Common.{inl, inr}
use Rattle.reference.specs.Meaning.{Meaning}

-- what is asked of the one, or of the other
abbrev pub of_either : {A B C : Type 0} → (A → C) → (B → C) → A ⊎ B → C
of_either f g (inl a) = f a
of_either f g (inr b) = g b

-- a call on the one, or on the other
abbrev pub on_either : {A B : Type 0} → (A → A) → (B → B) → A ⊎ B → A ⊎ B
on_either f g (inl a) = inl (f a)
on_either f g (inr b) = inr (g b)

abbrev pub SoundEither : {A B : Type 0} → (A → Type 0) → (B → Type 0) → A ⊎ B → Type 0
SoundEither P Q (inl a) = P a
SoundEither P Q (inr b) = Q b

abbrev pub either : Meaning → Meaning → Meaning
either M N =
    record {
      Held = M.Held ⊎ N.Held;
      Sound = SoundEither M.Sound N.Sound;
      flows = of_either M.flows N.flows;
      weight = λ h f. of_either (λ a. M.weight a f) (λ b. N.weight b f) h;
      allowance = λ h f. of_either (λ a. M.allowance a f) (λ b. N.allowance b f) h;
      total = of_either M.total N.total;
      due = λ h f. of_either (λ a. M.due a f) (λ b. N.due b f) h;
      arrears = λ h f. of_either (λ a. M.arrears a f) (λ b. N.arrears b f) h;
      entered = λ h f. on_either (λ a. M.entered a f) (λ b. N.entered b f) h;
      left = λ h f. on_either (λ a. M.left a f) (λ b. N.left b f) h;
      marks = of_either M.marks N.marks;
      turned = on_either M.turned N.turned;
    }
