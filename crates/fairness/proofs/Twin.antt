-- The clear-weather twin sends what it marks.
use Rattle.std.proofs.Common.{◌≡◌, ℕ, ◌-◌, ◌<◌, Bool, true, false, ltb, List, length, Some, None, Option, sym, refl, ap, ◌∙◌, subst, inl, inr, arith}
use Rattle.std.proofs.Math.Bool.{and-true}
use Rattle.std.proofs.lemmas.Bool.{lt-ltb, cases_lt, both_ways}
use Rattle.cell_rules.specs.declared.row.Row.{Row}
use Rattle.reference.specs.Meaning.{Meaning, Lawful}
use Rattle.record.specs.declared.taking.Charge.{Charge}
use Rattle.record.specs.declared.taking.Charge.TheVariants.{Nothing, LeadDown, LagUp, Forfeited}
use Rattle.record.specs.declared.taking.Taking.{Taking}
use Rattle.table.specs.declared.line.Line.{Line}
use Rattle.cell_rules.specs.Rules.{State, Outcome, Reports, at, due, able, booked_row, slot_of}
use Rattle.fairness.specs.Past.{deciding, clean_for}
use Rattle.fairness.specs.Past.Which.{twin}
use Rattle.fairness.specs.Fairness.{own_or_idle}
use Rattle.cell_rules.proofs.Settling.{Bears, Right, past_unable, idle_if_nobody}
use Rattle.cell_rules.proofs.Booking.{booked_length, booked_at}
use Rattle.fairness.proofs.Runs.{Always}
use Rattle.fairness.proofs.Keeping.{arrived_length, arrived_at, Whole, arrived_whole, decided_whole, decided_right, marked_due}

-- of a flow: it sent in each of its turns, and does not lead
abbrev pub InTurn : Row → Type 0
InTurn r = (r.sent ≡ r.marked) × (r.lead ≡ 0)

in_turn_booked :
    (o : Option ℕ) (c : Charge) (k : ℕ) (r : Row) → InTurn r
    → InTurn (booked_row (record { marked = o; taking = own_or_idle o; charge = c }) k r)
in_turn_booked None c k r a = omega arith
in_turn_booked (Some m) c k r a = omega arith

module _ (M : Meaning) (h : M.Held) (lines : List Line) where
  pub record Twin (s : State M) : Type 0 where
    pub whole : Whole M h lines s
    pub in_turn : (k : ℕ) → k < length s.rows → InTurn (at s.rows k)

module _ (M : Meaning) (L : Lawful M) (h : M.Held) (lines : List Line) where
  module _ (s : State M) (i : Twin M h lines s) (set : Reports) where
    abbrev all_clean : ℕ → Bool
    all_clean = clean_for twin set

    -- who is due waits, and nobody else does
    able_if_due : (k : ℕ) → k < length s.rows → able s.rows all_clean k ≡ ltb 0 (due (at s.rows k))
    able_if_due k l =
        and-true (ltb 0 ((at s.rows k).arrived - (at s.rows k).sent))
        ∙ ap (λ n. ltb 0 ((at s.rows k).arrived - n)) (i.in_turn k l).0

    marked_able : (m : ℕ) → M.marks s.held ≡ Some m → able s.rows all_clean m ≡ true
    marked_able m e =
        let d = marked_due M L h lines s i.whole m e in
        able_if_due m d.0 ∙ lt-ltb 0 (due (at s.rows m)) (omega arith)

    nobody_able : M.marks s.held ≡ None → (k : ℕ) → able s.rows all_clean k ≡ false
    nobody_able e k = elim (cases_lt k (length s.rows)) [
      | inl l ↦ able_if_due k l ∙ sym (i.whole.kept k l).is_due ∙ L.none_marked_none_due s.held i.whole.sound e k
      | inr l ↦ past_unable s.rows all_clean k l
    ]

    -- a marked flow bears no charge: it is able, and does not lead
    uncharged : (m : ℕ) → M.marks s.held ≡ Some m → (c : Charge) → Bears s.rows all_clean m c → ⊥
    uncharged m e Nothing b = b
    uncharged m e LeadDown b = omega (arith, (i.in_turn m (marked_due M L h lines s i.whole m e).0).1)
    uncharged m e LagUp b = both_ways (able s.rows all_clean m) b.0 (marked_able m e)
    uncharged m e Forfeited b = both_ways (able s.rows all_clean m) b.0 (marked_able m e)

    sends_mark : (o : Option ℕ) → M.marks s.held ≡ o → (x : Taking × Charge) → Right s.rows all_clean o x → x.0 ≡ own_or_idle o
    sends_mark None e x r = idle_if_nobody s.rows all_clean (nobody_able e) x.0 r.0
    sends_mark (Some m) e x (inl r) = r.0
    sends_mark (Some m) e x (inr r) = absurd (uncharged m e x.1 r.1)

    pub twin_sends : (deciding M twin s set).came_to.taking ≡ own_or_idle (M.marks s.held)
    twin_sends =
        sends_mark (M.marks s.held) refl (slot_of s.rows all_clean s.ring (M.marks s.held))
        (decided_right M L h lines s i.whole twin set)

    twin_decided : Twin M h lines (deciding M twin s set).after
    twin_decided =
        let x : Outcome = (deciding M twin s set).came_to in
        record {
          whole = decided_whole M L h lines s i.whole twin set;
          in_turn =
              λ k u.
              let l : k < length s.rows = omega (arith, booked_length x s.rows) in
              subst InTurn (sym (booked_at x s.rows k l))
              (subst (λ t. InTurn (booked_row (record { marked = x.marked; taking = t; charge = x.charge }) k (at s.rows k)))
              (sym twin_sends) (in_turn_booked x.marked x.charge k (at s.rows k) (i.in_turn k l)));
        }

  pub twin_always : Always M twin (Twin M h lines)
  twin_always =
      record {
        at_arrival =
            λ s f n e i.
            record {
              whole = arrived_whole M L h lines s i.whole f n e;
              in_turn =
                  λ k u.
                  let l : k < length s.rows = omega (arith, arrived_length M s f n) in
                  subst InTurn (sym (arrived_at M s f n e k)) (i.in_turn k l);
            };
        at_decision = λ s set _ i. twin_decided s i set;
      }
