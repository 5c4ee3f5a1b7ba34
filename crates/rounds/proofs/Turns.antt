-- Turns one after another, and what they mark.
use Rattle.std.proofs.Common.{◌≡◌, ℕ, zero, suc, ◌+◌, ◌<◌, true, List, [], ◌∷◌, ◌++◌, length, take, set, Some, None, Option, sym, refl, ap, ◌∙◌, add-one}
use Rattle.std.proofs.lemmas.List.{take_more_set}
use Rattle.std.specs.List.{AllByRecursion}
use Rattle.reference.specs.Meaning.{Meaning, Lawful}
use Rattle.reference.specs.Calls.{marks_of, turns_then}
use Rattle.reference.specs.Shares.{NeverLeaves, HasShare}
use Rattle.reference.proofs.Shares.{gives_shares}
use Rattle.rounds.specs.Rounds.{after_turns, MarkIsDue}

-- no flow leaves in a turn
turns_never_leave : (f n : ℕ) → NeverLeaves f (turns_then n [])
turns_never_leave f zero = tt
turns_never_leave f (suc n) = turns_never_leave f n

module _ (M : Meaning) where
  first_turn : (h : M.Held) (n : ℕ) → after_turns M (M.turned h) n ≡ M.turned (after_turns M h n)
  first_turn h zero = refl
  first_turn h (suc n) = ap M.turned (first_turn h n)

  marks_push :
      (h : M.Held) (n : ℕ)
      → marks_of M h (turns_then (suc n) [])
      ≡ marks_of M h (turns_then n []) ++ (M.marks (after_turns M h n) ∷ [])
  marks_push h zero = refl
  marks_push h (suc n) =
      ap (λ marks. M.marks h ∷ marks)
      (marks_push (M.turned h) n
      ∙ ap (λ k. marks_of M (M.turned h) (turns_then n []) ++ (M.marks k ∷ [])) (first_turn h n))

  -- the mark of one more turn stands at place n
  pub marks_more :
      (h : M.Held) (n : ℕ) (marks : List (Option ℕ)) (mark : Option ℕ)
      → n < length marks → take n marks ≡ marks_of M h (turns_then n []) → mark ≡ M.marks (after_turns M h n)
      → take (n + 1) (set marks n mark) ≡ marks_of M h (turns_then (n + 1) [])
  marks_more h n marks mark inside before step =
      let put = take_more_set marks n mark inside in
      let push = marks_push h n in
      let next : marks_of M h (turns_then (n + 1) []) ≡ marks_of M h (turns_then (suc n) []) = rw (add-one n) in
      cc

module _ (M : Meaning) (L : Lawful M) (h : M.Held) where
  mark_due :
      (k : M.Held) → M.Sound k → ((f : ℕ) → M.due k f ≡ M.due h f)
      → (mark : Option ℕ) → M.marks k ≡ mark → MarkIsDue M h mark
  mark_due k sound same None e = λ f. sym (same f) ∙ L.none_marked_none_due k sound e f
  mark_due k sound same (Some f) e = sym (same f) ∙ L.marked_is_due k f sound e

  -- the marks of n turns from a state with the same flows due
  marks_due :
      (n : ℕ) (k : M.Held) → M.Sound k → ((f : ℕ) → M.due k f ≡ M.due h f)
      → AllByRecursion (MarkIsDue M h) (marks_of M k (turns_then n []))
  marks_due zero k sound same = tt
  marks_due (suc n) k sound same = (
    mark_due k sound same (M.marks k) refl,
    marks_due n (M.turned k) (L.turn_sound k sound) (λ f. L.turn_keeps_due k f sound ∙ same f),
  )

  pub turns_mark_due : (n : ℕ) → M.Sound h → AllByRecursion (MarkIsDue M h) (marks_of M h (turns_then n []))
  turns_mark_due n sound = marks_due n h sound (λ f. refl)

  pub turns_have_share :
      (n f : ℕ) → M.Sound h → M.due h f ≡ true → HasShare M h f (marks_of M h (turns_then n []))
  turns_have_share n f sound due = gives_shares M L h sound f (turns_then n []) due (turns_never_leave f n)
