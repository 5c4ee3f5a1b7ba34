-- Each due flow has its share of the turns, by the laws alone.
use Rattle.std.proofs.Common.{◌≡◌, ℕ, zero, suc, ◌+◌, ◌*◌, ◌<◌, ◌≤◌, true, List, [], ◌∷◌, length, Some, None, Option, sym, refl, ap, ◌∙◌, subst, ⊎_elim, add-mul, one-mul, arith}
use Rattle.std.proofs.lemmas.Bool.{cases_eq, eq-eqb, ne_eqb}
use Rattle.reference.specs.Meaning.{Meaning, Lawful, SameNumbers, whole, sum_below}
use Rattle.reference.specs.Calls.{Call, turning, entering, leaving, marks_of}
use Rattle.reference.specs.Shares.{times_marked, NeverLeaves, GivesShares}

one_of_sum : (number : ℕ → ℕ) (n f : ℕ) → f < n → number f ≤ sum_below n number
one_of_sum number zero f l = absurd (omega arith)
one_of_sum number (suc n) f l =
    ⊎_elim
    (λ e. let same = ap number e in omega arith)
    (λ e. omega (arith, one_of_sum number n f (omega arith)))
    (cases_eq n f)

one_more : (m n c : ℕ) → m ≡ 1 + n → m * c ≡ c + n * c
one_more m n c e = ap (λ k. k * c) e ∙ (add-mul 1 n c ∙ ap (λ k. k + n * c) (one-mul c))

module _ (M : Meaning) (L : Lawful M) (f : ℕ) where
  pub weight_within_total : (h : M.Held) → M.Sound h → M.due h f ≡ true → M.weight h f ≤ M.total h
  weight_within_total h sound due =
      omega (
        arith,
        one_of_sum (M.weight h) (M.flows h) f (L.only_flows_are_due h f sound due),
        L.total_covers_weights h sound,
      )

  -- flow f is due in h, and these numbers are told
  record DueWith (weight total allowance : ℕ) (h : M.Held) : Type 0 where
    sound : M.Sound h
    is_due : M.due h f ≡ true
    weight_is : M.weight h f ≡ weight
    total_is : M.total h ≡ total
    allowance_is : M.allowance h f ≡ allowance

  module _ (W A K : ℕ) where
    -- after a call by which flow f stays due
    still : (h k : M.Held) → SameNumbers M h k → M.Sound k → M.due k f ≡ true → DueWith W A K h → DueWith W A K k
    still h k same sound due i =
        record {
          sound = sound;
          is_due = due;
          weight_is = same.weight f ∙ i.weight_is;
          total_is = same.total ∙ i.total_is;
          allowance_is = same.allowance f ∙ i.allowance_is;
        }

    -- the share of the marks, and what flow f is behind before them
    abbrev Covered : M.Held → List (Option ℕ) → Type 0
    Covered h marks =
        whole * (length marks * W) + M.arrears h f ≤ whole * (times_marked f marks * A) + whole * K

    -- a turn before the other marks
    turn_covered :
        (h : M.Held) (mark : Option ℕ) (marks : List (Option ℕ))
        → M.marks h ≡ mark → DueWith W A K h → Covered (M.turned h) marks → Covered h (mark ∷ marks)
    turn_covered h None marks e i more =
        let no = L.none_marked_none_due h i.sound e f in let z : ◌≡◌ {A = ℕ} 0 1 = cc in absurd (omega arith)
    turn_covered h (Some g) marks e i more =
        let n : length (Some g ∷ marks) * W ≡ W + length marks * W =
        one_more (length (Some g ∷ marks)) (length marks) W (omega arith) in
        let fits : W ≤ A = omega (arith, weight_within_total h i.sound i.is_due) in
        ⊎_elim
        (λ same.
        let b = eq-eqb g f same in
        let t : times_marked f (Some g ∷ marks) ≡ 1 + times_marked f marks = rw b in
        let u : times_marked f (Some g ∷ marks) * A ≡ A + times_marked f marks * A = one_more _ _ A t in
        omega (arith, L.turn_lowers_marked h f i.sound (e ∙ ap (λ k. Some k) same)))
        (λ other.
        let b = ne_eqb g f other in
        let t : times_marked f (Some g ∷ marks) ≡ times_marked f marks = rw b (omega arith) in
        let u = ap (λ k. k * A) t in
        omega (arith, L.turn_raises_others h g f i.sound e other i.is_due))
        (cases_eq g f)

    covered : (calls : List Call) (h : M.Held) → DueWith W A K h → NeverLeaves f calls → Covered h (marks_of M h calls)
    covered [] h i stays = omega (arith, L.arrears_within_allowance h f i.sound i.is_due)
    covered (turning ∷ calls) h i stays =
        turn_covered h (M.marks h) (marks_of M (M.turned h) calls) refl i
        (covered calls (M.turned h)
        (still h (M.turned h) (L.turn_keeps_numbers h i.sound) (L.turn_sound h i.sound)
        (L.turn_keeps_due h f i.sound ∙ i.is_due) i)
        stays)
    covered (entering g ∷ calls) h i stays =
        let k : M.Held = M.entered h g in
        let more : DueWith W A K k → Covered k (marks_of M k calls) = λ j. covered calls k j stays in
        ⊎_elim
        (λ same.
        let e : k ≡ h = ap (M.entered h) same ∙ L.entering_again_alters_nothing h f i.sound i.is_due in
        let a = ap (λ z. M.arrears z f) e in
        omega (arith, more (subst (DueWith W A K) (sym e) i)))
        (λ other.
        omega (
          arith,
          L.enter_lowers_no_arrears h g f i.sound other i.is_due,
          more (still h k (L.enter_keeps_numbers h g i.sound) (L.enter_sound h g i.sound)
              (L.enter_keeps_others_due h g f i.sound other ∙ i.is_due) i),
        ))
        (cases_eq g f)
    covered (leaving g ∷ calls) h i stays =
        omega (
          arith,
          L.leave_lowers_no_arrears h g f i.sound stays.0 i.is_due,
          covered calls (M.left h g)
              (still h (M.left h g) (L.leave_keeps_numbers h g i.sound) (L.leave_sound h g i.sound)
              (L.leave_keeps_others_due h g f i.sound stays.0 ∙ i.is_due) i)
              stays.1,
        )

pub gives_shares : (M : Meaning) (L : Lawful M) (h : M.Held) → M.Sound h → GivesShares M h
gives_shares M L h sound f calls due stays =
    omega (
      arith,
      covered M L f (M.weight h f) (M.total h) (M.allowance h f) calls h
          (record { sound = sound; is_due = due; weight_is = refl; total_is = refl; allowance_is = refl }) stays,
    )
