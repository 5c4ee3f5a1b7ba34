-- Arrays that a closure makes place by place, and lists that stand beside one another.
use Rattle.std.proofs.Common.{ℕ, zero, suc, ◌+◌, ◌<◌, ◌≤◌, ◌≡◌, List, [], ◌∷◌, length, get_or, take, arith, subst, sym}
use Rattle.std.specs.List.{AllZip}
use Rattle.std.specs.Fn.{Called}
use Rattle.std.specs.Array.{IsFromFnResult, IsFromFnResultFrom}
use denote.Param.Members.{Mut}

-- what each call of a closure that changes nothing says of a place and its answer holds of the array that is made
pub made_at :
    {F B : Type 0} (g : Mut F (ℕ × Unit {0}) B) (P : ℕ → B → Type 0) (f : F)
    → ((i : ℕ) (y : B) (q : F) → Called g f (i, tt) y q → P i y × (q ≡ f))
    → (ys : List B) (n : ℕ) → IsFromFnResult g f ys n
    → (k : ℕ) (d : B) → k < n → P k (get_or ys k d)
made_at {F} {B} g P f says ys n made k d l = go 0 n made.each k k (omega arith) l
  where
    go : (i n : ℕ) → IsFromFnResultFrom g f ys i n → (j k : ℕ) → i + j ≡ k → j < n → P k (get_or ys k d)
    go i zero h j k e l = absurd (omega arith)
    go i (suc n) (q, y, a, c, h) zero k e l =
        let m : i ≡ k = omega arith in
        subst (λ k. P k (get_or ys k d)) m (subst (P i) (sym (a.1 d)) (says i y q c).0)
    go i (suc n) (q, y, a, c, h) (suc j) k e l =
        go (i + 1) n (subst (λ p. IsFromFnResultFrom g p ys (i + 1) n) (says i y q c).1 h) j k (omega arith) (omega arith)

-- what holds at each place holds all along
pub zip_from_places :
    {A B : Type 0} (R : A → B → Type 0) (xs : List A) (ys : List B)
    → length xs ≤ length ys
    → ((i : ℕ) (d : A) (e : B) → i < length xs → R (get_or xs i d) (get_or ys i e))
    → AllZip R xs (take (length xs) ys)
zip_from_places R [] ys l h = tt
zip_from_places R (x ∷ xs) [] l h = absurd (omega arith)
zip_from_places R (x ∷ xs) (y ∷ ys) l h =
    (h 0 x y (omega arith), zip_from_places R xs ys (omega arith) (λ i d e k. h (suc i) d e (omega arith)))
