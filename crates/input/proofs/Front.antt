-- What is read of a reader's front, said of all that the reader had.
use Rattle.std.proofs.Common.{◌≡◌, ℕ, List, [], ◌++◌, take, Some, None, Option, IfSome, sym, ap, ◌∙◌}
use Rattle.std.specs.Option.{option_map}

pub said_of_all :
    (all : Option (List ℕ)) (n : ℕ) (start items : List ℕ) (P : List ℕ → Type 0)
    → n ≡ 65538 → start ≡ []
    → IfSome (option_map (take n) all) (λ xs. items ≡ start ++ xs)
    → ((b : List ℕ) → take 65538 b ≡ items → P b)
    → IfSome all P
said_of_all None n start items P e s h f = tt
said_of_all (Some b) n start items P e s h f =
    f b (ap (λ m. take m b) (sym e) ∙ sym (h ∙ ap (λ xs. xs ++ take n b) s))
