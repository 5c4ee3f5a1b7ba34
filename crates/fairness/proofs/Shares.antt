-- A flow that is due without a break is marked in its share of the slots.
use Rattle.std.proofs.Common.{◌≡◌, ◌≢◌, ℕ, ◌+◌, ◌-◌, ◌*◌, ◌<◌, ◌≤◌, true, ltb, List, Some, None, Option, refl, sym, ◌∙◌, subst, inl, inr, add-mul, zero-mul, add-zero, arith}
use Rattle.std.proofs.lemmas.Bool.{lt-ltb, eqb-true, cases_lt, and_parts, both_ways}
use Rattle.reference.specs.Meaning.{Meaning, Lawful, whole}
use Rattle.reference.proofs.Shares.{weight_within_total}
use Rattle.table.specs.declared.line.Line.{Line}
use Rattle.cell_rules.specs.Rules.{State, Outcome, Reports, at, due, enters, once, released, arrived}
use Rattle.fairness.specs.Past.{refusal, deciding}
use Rattle.fairness.specs.Past.Call.{arrival}
use Rattle.fairness.specs.Past.Which.{cell}
use Rattle.fairness.specs.Fairness.{DueAround}
use Rattle.cell_rules.proofs.Booking.{booked_at, once_case}
use Rattle.fairness.proofs.Runs.{Keeps}
use Rattle.fairness.proofs.Keeping.{arrived_at, arrived_held, released_held, Whole, arrived_whole, decided_whole}

module _ (M : Meaning) (h : M.Held) (lines : List Line) (f : ℕ) where
  -- the arrears with the turns so far cover the share of the slots so far
  abbrev pub Covered : ℕ → M.Held → ℕ → Type 0
  Covered slot held marked = whole * (slot * M.weight h f) ≤ M.arrears held f + whole * (marked * M.total h)

  pub record ShareKept (s : State M) : Type 0 where
    pub kept : Whole M h lines s
    pub due : 0 < s.slot → 0 < due (at s.rows f)
    pub covered : Covered s.slot s.held (at s.rows f).marked

module _ (M : Meaning) (L : Lawful M) (h : M.Held) (lines : List Line) (f : ℕ) (inside : f < M.flows h) where
  no_slots : (slot : ℕ) → slot ≤ 0 → slot * M.weight h f ≡ 0
  no_slots slot e = let none : slot ≡ 0 = omega arith in rw none (zero-mul (M.weight h f))

  is_due : (s : State M) → Whole M h lines s → 0 < due (at s.rows f) → M.due s.held f ≡ true
  is_due s i d = (i.kept f (omega (arith, i.count))).is_due ∙ lt-ltb 0 (due (at s.rows f)) d

  -- ## An arrival

  module _ (s : State M) (i : ShareKept M h lines f s) (g n : ℕ) where
    -- once a slot is decided flow f is due, and another one enters
    entering_covered : enters (at s.rows g) n ≡ true → Covered M h lines f s.slot (M.entered s.held g) (at s.rows f).marked
    entering_covered e = elim (cases_lt 0 s.slot) [
      | inl z ↦
          let idle : due (at s.rows g) ≡ 0 = eqb-true (due (at s.rows g)) 0 (and_parts _ (ltb 0 n) e).0 in
          let other : g ≢ f
          = λ p. let own : due (at s.rows f) ≡ 0 = subst (λ j. due (at s.rows j) ≡ 0) p idle in omega (arith, i.due z) in
          omega (arith, i.covered, L.enter_lowers_no_arrears s.held g f i.kept.sound other (is_due s i.kept (i.due z)))
      | inr z ↦ omega (arith, no_slots s.slot z)
    ]

    share_arrived : refusal M s (arrival g n) ≡ None → ShareKept M h lines f (arrived M s g n)
    share_arrived e =
        let row = arrived_at M s g n e f in
        record {
          kept = arrived_whole M L h lines s i.kept g n e;
          due = λ z. subst (λ r. 0 < due r) (sym row) (let d = i.due z in omega arith);
          covered =
              subst (λ r. Covered M h lines f s.slot (arrived M s g n).held r.marked) (sym row)
              (arrived_held M s g n (λ z. Covered M h lines f s.slot z (at s.rows f).marked) entering_covered (λ _. i.covered));
        }

  -- ## A decision

  module _ (s : State M) (i : ShareKept M h lines f s) (held_due : M.due s.held f ≡ true) where
    own_turn :
        M.marks s.held ≡ Some f → Covered M h lines f (s.slot + 1) (M.turned s.held) ((at s.rows f).marked + 1)
    own_turn e =
        omega (
          arith,
          i.covered,
          L.turn_lowers_marked s.held f i.kept.sound e,
          i.kept.numbers.weight f,
          i.kept.numbers.total,
          weight_within_total M L f s.held i.kept.sound held_due,
          add-mul s.slot 1 (M.weight h f),
          add-mul (at s.rows f).marked 1 (M.total h),
        )

    others_turn :
        (m : ℕ) → m ≢ f → M.marks s.held ≡ Some m
        → Covered M h lines f (s.slot + 1) (M.turned s.held) (at s.rows f).marked
    others_turn m p e =
        omega (
          arith,
          i.covered,
          L.turn_raises_others s.held m f i.kept.sound e p held_due,
          i.kept.numbers.weight f,
          add-mul s.slot 1 (M.weight h f),
        )

    -- flow f, marked n times in the slot that marked o: it is still due, and its share is covered
    abbrev CoveredAfter : Option ℕ → ℕ → Type 0
    CoveredAfter o n =
        0 < (at s.rows f).arrived - ((at s.rows f).marked + n)
        → Covered M h lines f (s.slot + 1) (released M (M.turned s.held) s.rows o) ((at s.rows f).marked + n)

    covered_after_own : M.marks s.held ≡ Some f → CoveredAfter (Some f) 1
    covered_after_own e d =
        released_held M s f (λ z. Covered M h lines f (s.slot + 1) z ((at s.rows f).marked + 1))
        (λ q. absurd (omega (arith, eqb-true ((at s.rows f).arrived - ((at s.rows f).marked + 1)) 0 q)))
        (λ _. own_turn e)

    covered_after_others : (m : ℕ) → m ≢ f → M.marks s.held ≡ Some m → CoveredAfter (Some m) 0
    covered_after_others m p e d =
        let turned : M.Held = M.turned s.held in
        let still : M.due turned f ≡ true = L.turn_keeps_due s.held f i.kept.sound ∙ held_due in
        let more = others_turn m p e in
        rw (add-zero (at s.rows f).marked)
        (released_held M s m (λ z. Covered M h lines f (s.slot + 1) z (at s.rows f).marked)
        (λ _. omega (arith, L.leave_lowers_no_arrears turned m f (L.turn_sound s.held i.kept.sound) p still)) (λ _. more))

    covered_after : (o : Option ℕ) → M.marks s.held ≡ o → CoveredAfter o (once o f)
    covered_after None e d = absurd (both_ways (M.due s.held f) (L.none_marked_none_due s.held i.kept.sound e f) held_due)
    covered_after (Some m) e d =
        once_case m f (CoveredAfter (Some m))
        (λ p. subst (λ j. M.marks s.held ≡ Some j → CoveredAfter (Some j) 1) (sym p) covered_after_own e)
        (λ p. covered_after_others m p e)
        d

  share_decided :
      (s : State M) (set : Reports) → DueAround M f (deciding M cell s set) → ShareKept M h lines f s
      → ShareKept M h lines f (deciding M cell s set).after
  share_decided s set around i =
      let x : Outcome = (deciding M cell s set).came_to in
      let held : M.Held = released M (M.turned s.held) s.rows (M.marks s.held) in
      let row = booked_at x s.rows f (omega (arith, i.kept.count)) in
      let was_due : 0 < due (at s.rows f) = elim (cases_lt 0 s.slot) [ inl z ↦ i.due z | inr z ↦ around.0 (omega arith) ] in
      record {
        kept = decided_whole M L h lines s i.kept cell set;
        due = λ _. around.1;
        covered =
            subst (λ r. Covered M h lines f (s.slot + 1) held r.marked) (sym row)
            (covered_after s i (is_due s i.kept was_due) (M.marks s.held) refl (subst (λ r. 0 < due r) row around.1));
      }

  pub share_keeps : Keeps M cell (ShareKept M h lines f) (DueAround M f)
  share_keeps = record { at_arrival = λ s g n e i. share_arrived s i g n e; at_decision = share_decided }

  -- its share of the marks
  pub marked_share :
      (s : State M) → ShareKept M h lines f s → s.slot * M.weight h f ≤ (at s.rows f).marked * M.total h + M.allowance h f
  marked_share s i = elim (cases_lt 0 s.slot) [
    | inl z ↦
        omega (
          arith,
          i.covered,
          L.arrears_within_allowance s.held f i.kept.sound (is_due s i.kept (i.due z)),
          i.kept.numbers.allowance f,
        )
    | inr z ↦ omega (arith, no_slots s.slot z)
  ]
