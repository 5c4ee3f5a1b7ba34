-- What every call keeps, in the cell and in its twin: who is due, and the facts of every flow.
use Rattle.std.proofs.Common.{◌≡◌, ◌≢◌, ℕ, zero, suc, ◌+◌, ◌-◌, ◌<◌, ◌≤◌, Bool, true, false, cond, ◌&&◌, eqb, ltb, List, map, length, get_or, Some, None, Option, sym, refl, ◌∙◌, subst, inl, inr, add-zero, arith}
use Rattle.std.proofs.lemmas.Bool.{cond_both, ltb-true, eqb-true, eqb-false, le-leb, cases_eq, cases_lt}
use Rattle.std.proofs.lemmas.List.{length-set, length-map, get_or-set_same, get_or-set_other}
use Rattle.std.proofs.lemmas.Bool.Decides.{nat_tests}
use Rattle.reference.specs.Meaning.{Meaning, Lawful, SameNumbers}
use Rattle.table.specs.declared.line.Line.{Line}
use Rattle.table.specs.Lines.{no_line}
use Rattle.cell_rules.specs.declared.row.Row.{Row}
use Rattle.cell_rules.specs.Rules.{State, Outcome, Reports, at, fresh, due, enters, leaves, once, with_arrived, released, arrived, all_leave, created}
use Rattle.cell_rules.specs.Facts.{Facts}
use Rattle.cell_rules.specs.Bookable.{Bookable}
use Rattle.cell_rules.proofs.Rows.{fresh_at, fresh_facts}
use Rattle.cell_rules.proofs.Settling.{Right, slot_right, slot_settles}
use Rattle.cell_rules.proofs.Booking.{booked_length, booked_at, once_case, facts_booked}
use Rattle.fairness.specs.Past.{Which, refusal, deciding, clean_for}
use Rattle.fairness.specs.Past.Call.{arrival}
use Rattle.fairness.proofs.Runs.{Always}

facts_arrived : (n : ℕ) (r : Row) → Facts r → Facts (with_arrived (r.arrived + n) r)
facts_arrived n r a = omega arith

-- Of a flow of which a packets arrived and m turns are past: it is due once n more arrive, or once it is marked again.
due_entered : (a m n : ℕ) → m ≤ a → eqb (a - m) 0 && ltb 0 n ≡ true → true ≡ ltb 0 (a + n - m)
due_entered a m n l e = grind (arith, nat_tests)

due_stays : (a m n : ℕ) → m ≤ a → eqb (a - m) 0 && ltb 0 n ≡ false → ltb 0 (a - m) ≡ ltb 0 (a + n - m)
due_stays a m n l e = grind (arith, nat_tests)

due_left : (a m : ℕ) → eqb (a - (m + 1)) 0 ≡ true → false ≡ ltb 0 (a - (m + 1))
due_left a m e = grind (arith, nat_tests)

due_remains : (a m : ℕ) → m < a → eqb (a - (m + 1)) 0 ≡ false → ltb 0 (a - m) ≡ ltb 0 (a - (m + 1))
due_remains a m l e = grind (arith, nat_tests)

-- Of a flow: no more of its turns are past than packets arrived, the reference holds it due exactly if its due is above
-- 0, its facts hold, and its limits are the table's.
pub record Kept (held_due : Bool) (r : Row) (l : Line) : Type 0 where
  pub marked_arrived : r.marked ≤ r.arrived
  pub is_due : held_due ≡ ltb 0 (due r)
  pub facts : Facts r
  pub lag_limit : r.lag_limit ≡ l.lag_limit
  pub lead_limit : r.lead_limit ≡ l.lead_limit

module _ (M : Meaning) where
  same_numbers : (h : M.Held) → SameNumbers M h h
  same_numbers h = record { flows = refl; weight = λ f. refl; allowance = λ f. refl; total = refl }

  same_trans : (h k l : M.Held) → SameNumbers M h k → SameNumbers M k l → SameNumbers M h l
  same_trans h k l p q =
      record {
        flows = q.flows ∙ p.flows;
        weight = λ f. q.weight f ∙ p.weight f;
        allowance = λ f. q.allowance f ∙ p.allowance f;
        total = q.total ∙ p.total;
      }

  -- ## What an arrival does

  module _ (s : State M) (f n : ℕ) where
    pub arrival_inside : refusal M s (arrival f n) ≡ None → f < length s.rows
    arrival_inside e = elim (cases_lt f (length s.rows)) [
      | inl l ↦ l
      | inr l ↦ cc (rw (le-leb (length s.rows) f l) at e)
    ]

    pub arrived_length : length (arrived M s f n).rows ≡ length s.rows
    arrived_length = length-set s.rows f (with_arrived ((at s.rows f).arrived + n) (at s.rows f))

    -- those of the n packets that are for flow k
    abbrev pub packets_for : ℕ → ℕ
    packets_for k = cond (eqb f k) n 0

    pub arrived_at :
        refusal M s (arrival f n) ≡ None → (k : ℕ)
        → at (arrived M s f n).rows k ≡ with_arrived ((at s.rows k).arrived + packets_for k) (at s.rows k)
    arrived_at e k =
        let now : Row = at (arrived M s f n).rows k in
        cond_both (eqb f k) n 0 (λ a. now ≡ with_arrived ((at s.rows k).arrived + a) (at s.rows k))
        (λ p. rw (← eqb-true f k p) (get_or-set_same s.rows f _ (fresh no_line) (arrival_inside e)))
        (λ p. get_or-set_other s.rows f k _ (fresh no_line) (λ q. eqb-false f k p (sym q)) ∙ rw add-zero refl)

    -- the flow enters, or what is held stays
    pub arrived_held :
        (P : M.Held → Type 0)
        → (enters (at s.rows f) n ≡ true → P (M.entered s.held f))
        → (enters (at s.rows f) n ≡ false → P s.held)
        → P (arrived M s f n).held
    arrived_held P = cond_both (enters (at s.rows f) n) (M.entered s.held f) s.held P

  -- the marked flow leaves, or what is held after the turn stays
  pub released_held :
      (s : State M) (m : ℕ) (P : M.Held → Type 0)
      → (leaves (at s.rows m) ≡ true → P (M.left (M.turned s.held) m))
      → (leaves (at s.rows m) ≡ false → P (M.turned s.held))
      → P (released M (M.turned s.held) s.rows (Some m))
  released_held s m P = cond_both (leaves (at s.rows m)) (M.left (M.turned s.held) m) (M.turned s.held) P

  module _ (h : M.Held) (lines : List Line) where
    -- of a cell: its reference is in a state that it can be in and tells what it told at first, and each flow is kept
    pub record Whole (s : State M) : Type 0 where
      pub sound : M.Sound s.held
      pub numbers : SameNumbers M h s.held
      pub count : length s.rows ≡ M.flows h
      pub kept : (k : ℕ) → k < length s.rows → Kept (M.due s.held k) (at s.rows k) (get_or lines k no_line)

module _ (M : Meaning) (L : Lawful M) (h : M.Held) (lines : List Line) where
  -- ## Creation

  all_leave_kept : (n : ℕ) → M.Sound h → M.Sound (all_leave M h n) × SameNumbers M h (all_leave M h n)
  all_leave_kept zero sound = (sound, same_numbers M h)
  all_leave_kept (suc n) sound =
      let before = all_leave M h n in
      let (still, same) = all_leave_kept n sound in
      (L.leave_sound before n still, same_trans M h before (M.left before n) same (L.leave_keeps_numbers before n still))

  -- the flows that have left are not due
  all_left : (n : ℕ) → M.Sound h → n ≤ M.flows h → (k : ℕ) → k < n → M.due (all_leave M h n) k ≡ false
  all_left zero sound few k l = absurd (omega arith)
  all_left (suc n) sound few k l =
      let before = all_leave M h n in
      let (still, same) = all_leave_kept n sound in
      elim (cases_eq n k) [
        | inl p ↦ subst (λ i. M.due (M.left before n) i ≡ false) p (L.left_is_not_due before n still (omega (arith, same.flows)))
        | inr p ↦ L.leave_keeps_others_due before n k still p ∙ all_left n sound (omega arith) k (omega arith)
      ]

  pub created_whole : M.Sound h → length lines ≡ M.flows h → Whole M h lines (created M h lines)
  created_whole sound as_many =
      let held = all_leave M h (length lines) in
      let same_count : length (map fresh lines) ≡ length lines = length-map lines fresh in
      record {
        sound = (all_leave_kept (length lines) sound).0;
        numbers = (all_leave_kept (length lines) sound).1;
        count = same_count ∙ as_many;
        kept =
            λ k l. subst (λ r. Kept (M.due held k) r (get_or lines k no_line)) (sym (fresh_at lines k))
            (record {
              marked_arrived = omega arith;
              is_due = all_left (length lines) sound (omega arith) k (omega arith);
              facts = fresh_facts (get_or lines k no_line);
              lag_limit = refl;
              lead_limit = refl;
            });
      }

  module _ (s : State M) (i : Whole M h lines s) where
    -- ## An arrival

    module _ (f n : ℕ) (e : refusal M s (arrival f n) ≡ None) where
      -- whether the reference then holds the flow due
      due_here : M.due (arrived M s f n).held f ≡ ltb 0 ((at s.rows f).arrived + n - (at s.rows f).marked)
      due_here =
          let r : Row = at s.rows f in
          let l = arrival_inside M s f n e in
          let k = i.kept f l in
          let few = k.marked_arrived in
          arrived_held M s f n (λ z. M.due z f ≡ ltb 0 (r.arrived + n - r.marked))
          (λ q.
          L.entered_is_due s.held f i.sound (omega (arith, i.count, i.numbers.flows)) ∙ due_entered r.arrived r.marked n few q)
          (λ q. k.is_due ∙ due_stays r.arrived r.marked n few q)

      -- and another one
      due_elsewhere : (k : ℕ) → f ≢ k → M.due (arrived M s f n).held k ≡ M.due s.held k
      due_elsewhere k p =
          arrived_held M s f n (λ z. M.due z k ≡ M.due s.held k) (λ _. L.enter_keeps_others_due s.held f k i.sound p) (λ _. refl)

      -- and so flow k, the one or the other
      due_now :
          (k : ℕ) → k < length s.rows
          → M.due (arrived M s f n).held k ≡ ltb 0 ((at s.rows k).arrived + packets_for M s f n k - (at s.rows k).marked)
      due_now k l =
          let r : Row = at s.rows k in
          let held : M.Held = (arrived M s f n).held in
          cond_both (eqb f k) n 0 (λ a. M.due held k ≡ ltb 0 (r.arrived + a - r.marked))
          (λ p. subst (λ j. M.due held j ≡ ltb 0 ((at s.rows j).arrived + n - (at s.rows j).marked)) (eqb-true f k p) due_here)
          (λ p. rw add-zero (due_elsewhere k (eqb-false f k p) ∙ (i.kept k l).is_due))

      kept_at_arrival :
          (k : ℕ) → k < length s.rows
          → Kept (M.due (arrived M s f n).held k) (at (arrived M s f n).rows k) (get_or lines k no_line)
      kept_at_arrival k l =
          let before = i.kept k l in
          subst (λ r. Kept (M.due (arrived M s f n).held k) r (get_or lines k no_line)) (sym (arrived_at M s f n e k))
          (record {
            marked_arrived = let few = before.marked_arrived in omega arith;
            is_due = due_now k l;
            facts = facts_arrived (packets_for M s f n k) (at s.rows k) before.facts;
            lag_limit = before.lag_limit;
            lead_limit = before.lead_limit;
          })

      pub arrived_whole : Whole M h lines (arrived M s f n)
      arrived_whole =
          record {
            sound = arrived_held M s f n M.Sound (λ _. L.enter_sound s.held f i.sound) (λ _. i.sound);
            numbers =
                arrived_held M s f n (SameNumbers M h)
                (λ _. same_trans M h s.held (M.entered s.held f) i.numbers (L.enter_keeps_numbers s.held f i.sound))
                (λ _. i.numbers);
            count = arrived_length M s f n ∙ i.count;
            kept = λ k l. kept_at_arrival k (omega (arith, arrived_length M s f n));
          }

    -- ## A decision

    -- a marked flow is due
    pub marked_due : (m : ℕ) → M.marks s.held ≡ Some m → (m < length s.rows) × ((at s.rows m).marked < (at s.rows m).arrived)
    marked_due m e =
        let d = L.marked_is_due s.held m i.sound e in
        let l : m < length s.rows = omega (arith, L.only_flows_are_due s.held m i.sound d, i.numbers.flows, i.count) in
        (l, omega (arith, ltb-true 0 (due (at s.rows m)) (sym (i.kept m l).is_due ∙ d)))

    -- what the turn keeps, before the marked flow may leave
    turn_sound : M.Sound (M.turned s.held)
    turn_sound = L.turn_sound s.held i.sound

    turn_numbers : SameNumbers M h (M.turned s.held)
    turn_numbers = same_trans M h s.held (M.turned s.held) i.numbers (L.turn_keeps_numbers s.held i.sound)

    turn_due : (k : ℕ) → k < length s.rows → M.due (M.turned s.held) k ≡ ltb 0 (due (at s.rows k))
    turn_due k l = L.turn_keeps_due s.held k i.sound ∙ (i.kept k l).is_due

    -- flow k, marked n times in the slot that marked o: what is due for it, and whether the reference then holds it due
    abbrev DueAfter : Option ℕ → ℕ → ℕ → Type 0
    DueAfter o k n =
        ((at s.rows k).marked + n ≤ (at s.rows k).arrived)
        × (M.due (released M (M.turned s.held) s.rows o) k ≡ ltb 0 ((at s.rows k).arrived - ((at s.rows k).marked + n)))

    -- a turn that is not the flow's own leaves what is due for it
    unmarked_due :
        (k : ℕ) → k < length s.rows
        → M.due (M.turned s.held) k ≡ ltb 0 ((at s.rows k).arrived - ((at s.rows k).marked + 0))
    unmarked_due k l = rw (add-zero (at s.rows k).marked) (turn_due k l)

    due_of_marked : (m : ℕ) → M.marks s.held ≡ Some m → DueAfter (Some m) m 1
    due_of_marked m e =
        let r : Row = at s.rows m in
        let d = marked_due m e in (
          omega arith,
          released_held M s m (λ z. M.due z m ≡ ltb 0 (r.arrived - (r.marked + 1)))
              (λ q.
              L.left_is_not_due (M.turned s.held) m turn_sound (omega (arith, d.0, i.count, turn_numbers.flows))
              ∙ due_left r.arrived r.marked q)
              (λ q. turn_due m d.0 ∙ due_remains r.arrived r.marked d.1 q),
        )

    due_of_others : (m k : ℕ) → m ≢ k → k < length s.rows → DueAfter (Some m) k 0
    due_of_others m k p l =
        let few = (i.kept k l).marked_arrived in (
          omega arith,
          released_held M s m (λ z. M.due z k ≡ ltb 0 ((at s.rows k).arrived - ((at s.rows k).marked + 0)))
              (λ _. L.leave_keeps_others_due (M.turned s.held) m k turn_sound p ∙ unmarked_due k l)
              (λ _. unmarked_due k l),
        )

    due_after : (o : Option ℕ) → M.marks s.held ≡ o → (k : ℕ) → k < length s.rows → DueAfter o k (once o k)
    due_after None e k l = let few = (i.kept k l).marked_arrived in (omega arith, unmarked_due k l)
    due_after (Some m) e k l =
        once_case m k (DueAfter (Some m) k)
        (λ p. subst (λ j. DueAfter (Some m) j 1) p (due_of_marked m e))
        (λ p. due_of_others m k p l)

    -- what holds after the turn, and after any flow then leaves, holds in the end
    after_release :
        (P : M.Held → Type 0) → P (M.turned s.held) → ((m : ℕ) → P (M.left (M.turned s.held) m))
        → (o : Option ℕ) → P (released M (M.turned s.held) s.rows o)
    after_release P stays leaves None = stays
    after_release P stays leaves (Some m) = released_held M s m P (λ _. leaves m) (λ _. stays)

    module _ (w : Which) (set : Reports) where
      pub decided_right :
          Right s.rows (clean_for w set) (M.marks s.held)
          ((deciding M w s set).came_to.taking, (deciding M w s set).came_to.charge)
      decided_right = slot_right s.rows (clean_for w set) s.ring (M.marks s.held)

      decided_bookable : Bookable s.rows (deciding M w s set).came_to
      decided_bookable = slot_settles s.rows (clean_for w set) s.ring (M.marks s.held) (λ m e. (marked_due m e).0)

      pub decided_whole : Whole M h lines (deciding M w s set).after
      decided_whole =
          let x : Outcome = (deciding M w s set).came_to in
          let turned : M.Held = M.turned s.held in
          let held : M.Held = released M turned s.rows (M.marks s.held) in
          record {
            sound = after_release M.Sound turn_sound (λ m. L.leave_sound turned m turn_sound) (M.marks s.held);
            numbers =
                after_release (SameNumbers M h) turn_numbers
                (λ m. same_trans M h turned (M.left turned m) turn_numbers (L.leave_keeps_numbers turned m turn_sound))
                (M.marks s.held);
            count = booked_length x s.rows ∙ i.count;
            kept =
                λ k u.
                let l : k < length s.rows = omega (arith, booked_length x s.rows) in
                let now = due_after (M.marks s.held) refl k l in
                subst (λ r. Kept (M.due held k) r (get_or lines k no_line)) (sym (booked_at x s.rows k l))
                (record {
                  marked_arrived = now.0;
                  is_due = now.1;
                  facts = facts_booked s.rows k x decided_bookable (i.kept k l).facts;
                  lag_limit = (i.kept k l).lag_limit;
                  lead_limit = (i.kept k l).lead_limit;
                });
          }

  pub whole_always : (w : Which) → Always M w (Whole M h lines)
  whole_always w =
      record {
        at_arrival = λ s f n e i. arrived_whole s i f n e;
        at_decision = λ s set _ i. decided_whole s i w set;
      }
