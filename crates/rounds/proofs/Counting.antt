-- The marks of a flow, counted by a test.
use Rattle.std.proofs.Common.{◌≡◌, ℕ, ◌+◌, Bool, false, cond, eqb, List, Some, None, Option, refl, arith}
use Rattle.std.proofs.lemmas.Bool.Decides.{same_from_decides, Decides-eqb, nat_tests}
use Rattle.std.proofs.lemmas.List.Recursion.{is_count_by}
use Rattle.std.specs.Bool.{Decides}
use Rattle.std.specs.List.{count_by}
use Rattle.std.specs.Option.{MatchOption}
use Rattle.reference.specs.Shares.{times_marked, once_marked}

-- whether a mark is of flow f
abbrev pub is_of : ℕ → Option ℕ → Bool
is_of f None = false
is_of f (Some g) = eqb g f

-- what `mark == Some(flow)` answers
pub compared : (f : ℕ) (mark : Option ℕ) (is : Bool) → MatchOption mark (is ≡ false) (λ g. Decides is (g ≡ f)) → is ≡ is_of f mark
compared f None is h = h
compared f (Some g) is h = same_from_decides is _ h (Decides-eqb g f)

pub times_counted : (f : ℕ) (marks : List (Option ℕ)) → times_marked f marks ≡ count_by (is_of f) marks
times_counted f = is_count_by (times_marked f) (is_of f) refl (λ mark marks. more mark (times_marked f marks))
  where
    more : (mark : Option ℕ) (n : ℕ) → once_marked f mark + n ≡ cond (is_of f mark) (1 + n) n
    more None n = omega arith
    more (Some g) n = grind (arith, nat_tests)
