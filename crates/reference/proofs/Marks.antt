-- What a turn marks.
use Rattle.std.proofs.Common.{◌≡◌, ℕ, true, false, Some, None, Option, refl}
use Rattle.std.proofs.lemmas.Bool.{both_ways}
use Rattle.reference.specs.Meaning.{Meaning}

-- where every marked flow is due, a turn marks none if no flow is due
pub unmarked :
    (M : Meaning) (h : M.Held)
    → ((f : ℕ) → M.marks h ≡ Some f → M.due h f ≡ true)
    → ((f : ℕ) → M.due h f ≡ false)
    → M.marks h ≡ None
unmarked M h marked none = split (M.marks h) refl
  where
    split : (o : Option ℕ) → M.marks h ≡ o → o ≡ None
    split None e = refl
    split (Some f) e = absurd (both_ways (M.due h f) (none f) (marked f e))
