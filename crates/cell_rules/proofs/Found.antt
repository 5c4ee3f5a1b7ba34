-- What a search over flows finds, and what it passes over.
use Rattle.std.proofs.Common.{◌≡◌, ℕ, ◌+◌, ◌-◌, ◌<◌, ◌≤◌, Bool, true, false, List, [], ◌∷◌, get_or, Some, None, Option, ◌∙◌, subst, arith}
use Rattle.std.proofs.lemmas.Bool.{cond_both}
use Rattle.std.proofs.lemmas.List.Elements.{All-from_recursion, recursion_from_All, filter_passes}
use Rattle.std.proofs.lemmas.List.FromFn.{length-range_with_len, get_or-range_with_len}
use Rattle.std.specs.List.{AllByRecursion, best_of, filter, find, range_with_len}
use Rattle.std.specs.Option.{option_map_or, option_or}
use Rattle.cell_rules.specs.Rules.{least}

-- P holds of what a search finds
abbrev pub Found : (ℕ → Type 0) → Option ℕ → Type 0
Found P None = Unit {0}
Found P (Some f) = P f

pub found_as : (P Q : ℕ → Type 0) → ((f : ℕ) → P f → Q f) → (o : Option ℕ) → Found P o → Found Q o
found_as P Q h None e = tt
found_as P Q h (Some f) e = h f e

-- where it finds nothing, nobody on its list passes the test
abbrev pub Missed : (ℕ → Bool) → List ℕ → Option ℕ → Type 0
Missed p xs None = AllByRecursion (λ x. p x ≡ false) xs
Missed p xs (Some f) = Unit {0}

pub find_found : (p : ℕ → Bool) (xs : List ℕ) → Found (λ f. p f ≡ true) (find p xs)
find_found p [] = tt
find_found p (x ∷ xs) = cond_both (p x) (Some x) (find p xs) (Found (λ f. p f ≡ true)) (λ e. e) (λ _. find_found p xs)

missed_more : (p : ℕ → Bool) (x : ℕ) (xs : List ℕ) (o : Option ℕ) → p x ≡ false → Missed p xs o → Missed p (x ∷ xs) o
missed_more p x xs None e h = (e, h)
missed_more p x xs (Some f) e h = tt

pub find_missed : (p : ℕ → Bool) (xs : List ℕ) → Missed p xs (find p xs)
find_missed p [] = tt
find_missed p (x ∷ xs) =
    cond_both (p x) (Some x) (find p xs) (Missed p (x ∷ xs)) (λ _. tt) (λ e. missed_more p x xs (find p xs) e (find_missed p xs))

best_holds : (P : ℕ → Type 0) (precedes : ℕ → ℕ → Bool) (x : ℕ) (xs : List ℕ) → P x → AllByRecursion P xs → P (best_of precedes x xs)
best_holds P precedes x [] p a = p
best_holds P precedes x (y ∷ ys) p a =
    best_holds P precedes _ ys (cond_both (precedes y x) y x P (λ _. a.0) (λ _. p)) a.1

least_holds : (P : ℕ → Type 0) (precedes : ℕ → ℕ → Bool) (xs : List ℕ) → AllByRecursion P xs → Found P (least precedes xs)
least_holds P precedes [] a = tt
least_holds P precedes (x ∷ xs) a = best_holds P precedes x xs a.0 a.1

pub least_found : (p : ℕ → Bool) (precedes : ℕ → ℕ → Bool) (xs : List ℕ) → Found (λ f. p f ≡ true) (least precedes (filter p xs))
least_found p precedes xs = least_holds (λ f. p f ≡ true) precedes (filter p xs)
    (recursion_from_All (λ f. p f ≡ true) (filter p xs) (filter_passes p xs))

pub either_found : (P : ℕ → Type 0) (a b : Option ℕ) → Found P a → Found P b → Found P (option_or a b)
either_found P None b h k = k
either_found P (Some f) b h k = h

pub all_in_range : (P : ℕ → Type 0) (f n : ℕ) → AllByRecursion P (range_with_len f n) → (k : ℕ) → f ≤ k → k < f + n → P k
all_in_range P f n a k l u =
    let i : ℕ = k - f in
    let there : get_or (range_with_len f n) i 0 ≡ k = get_or-range_with_len f n i 0 (omega arith) ∙ omega arith in
    subst P there (All-from_recursion P (range_with_len f n) a i 0 (omega (arith, length-range_with_len f n)))

pub map_or_both :
    {X : Type 0} (Q : ℕ → Type 0) (g : ℕ → X) (o : Option ℕ) (x : X) (P : X → Type 0)
    → Found Q o → ((f : ℕ) → Q f → P (g f)) → P x → P (option_map_or g o x)
map_or_both Q g None x P h found other = other
map_or_both Q g (Some f) x P h found other = found f h
