-- A flow that is clean throughout is not behind: it was marked at most as often as it sent.
use Rattle.std.proofs.Common.{◌≡◌, ℕ, ◌+◌, ◌<◌, ◌≤◌, Bool, true, false, ltb, List, length, Some, None, Option, sym, refl, ap, ◌∙◌, subst, inl, inr, arith}
use Rattle.std.proofs.Math.Bool.{and-true}
use Rattle.std.proofs.lemmas.Bool.{ltb-false}
use Rattle.cell_rules.specs.declared.row.Row.{Row}
use Rattle.reference.specs.Meaning.{Meaning, Lawful}
use Rattle.record.specs.Accounts.{lag_up_of, forfeited_by}
use Rattle.record.specs.declared.taking.Charge.{Charge}
use Rattle.record.specs.declared.taking.Charge.TheVariants.{Nothing, LeadDown, LagUp, Forfeited}
use Rattle.record.specs.declared.taking.Taking.{Taking}
use Rattle.table.specs.declared.line.Line.{Line}
use Rattle.cell_rules.specs.Rules.{State, Outcome, at, able, waiting, once, booked_row, flags_clean}
use Rattle.cell_rules.specs.Facts.{Facts}
use Rattle.fairness.specs.Past.{deciding}
use Rattle.fairness.specs.Past.Which.{cell}
use Rattle.fairness.specs.Fairness.{CleanIn}
use Rattle.cell_rules.proofs.Settling.{Bears, Right}
use Rattle.cell_rules.proofs.Booking.{booked_at, once_case}
use Rattle.fairness.proofs.Runs.{Keeps}
use Rattle.fairness.proofs.Keeping.{arrived_at, Whole, arrived_whole, decided_whole, decided_right, marked_due}

-- a flow does not lag, and sent free as often as it forfeited, or more
abbrev pub Level : Row → Type 0
Level r = (r.lag ≡ 0) × (r.forfeited ≤ r.free)

-- ## One slot, in which flow k is clean

module _ (rows : List Row) (clean : ℕ → Bool) (k : ℕ)
    (is_clean : clean k ≡ true) (facts : Facts (at rows k)) (level : Level (at rows k)) where
  -- not able, though clean: nothing of it is waiting
  waits_not : able rows clean k ≡ false → waiting (at rows k) ≡ 0
  waits_not e =
      let none : ltb 0 (waiting (at rows k)) ≡ false = sym (and-true (ltb 0 (waiting (at rows k)))) ∙ (rw is_clean at e) in
      omega (arith, ltb-false 0 (waiting (at rows k)) none)

  -- the charge adds nothing to its lag, and a turn forfeited was sent free before
  abbrev Charged : Option ℕ → Charge → Type 0
  Charged o c =
      (once (lag_up_of c o) k ≡ 0) × ((at rows k).forfeited + once (forfeited_by c o) k ≤ (at rows k).free)

  bears_level :
      (m : ℕ) (c : Charge) → Bears rows clean m c → (m ≡ k → (at rows k).marked < (at rows k).arrived) → Charged (Some m) c
  bears_level m Nothing b due = absurd b
  bears_level m LeadDown b due = omega arith
  bears_level m LagUp b due = (
    once_case m k (λ n. n ≡ 0)
        (λ e.
        let own : Bears rows clean k LagUp = subst (λ j. Bears rows clean j LagUp) e b in
        absurd (omega (arith, waits_not own.0)))
        (λ _. refl),
    omega arith,
  )
  bears_level m Forfeited b due = (
    refl,
    once_case m k (λ n. (at rows k).forfeited + n ≤ (at rows k).free)
        (λ e.
        let own : Bears rows clean k Forfeited = subst (λ j. Bears rows clean j Forfeited) e b in
        omega (arith, waits_not own.0, due e))
        (λ _. omega arith),
  )

  charged :
      (o : Option ℕ) (t : Taking) (c : Charge) → Right rows clean o (t, c)
      → (o ≡ Some k → (at rows k).marked < (at rows k).arrived) → Charged o c
  charged None t c r due = subst (Charged None) (sym r.1) (omega arith)
  charged (Some m) t c (inl r) due = subst (Charged (Some m)) (sym r.1) (omega arith)
  charged (Some m) t c (inr r) due = bears_level m c r.1 (λ e. due (ap Some e))

  level_booked :
      (x : Outcome) → Right rows clean x.marked (x.taking, x.charge)
      → (x.marked ≡ Some k → (at rows k).marked < (at rows k).arrived) → Level (booked_row x k (at rows k))
  level_booked x r due = let c = charged x.marked x.taking x.charge r due in omega arith

-- ## Over a past

module _ (M : Meaning) (h : M.Held) (lines : List Line) (f : ℕ) where
  pub record CleanKept (s : State M) : Type 0 where
    pub whole : Whole M h lines s
    pub level : Level (at s.rows f)

module _ (M : Meaning) (L : Lawful M) (h : M.Held) (lines : List Line) (f : ℕ) (inside : f < M.flows h) where
  pub clean_keeps : Keeps M cell (CleanKept M h lines f) (CleanIn M f)
  clean_keeps =
      record {
        at_arrival =
            λ s g n e i.
            record {
              whole = arrived_whole M L h lines s i.whole g n e;
              level = subst Level (sym (arrived_at M s g n e f)) i.level;
            };
        at_decision =
            λ s set is_clean i.
            let x : Outcome = (deciding M cell s set).came_to in
            let l : f < length s.rows = omega (arith, i.whole.count) in
            record {
              whole = decided_whole M L h lines s i.whole cell set;
              level =
                  subst Level (sym (booked_at x s.rows f l))
                  (level_booked s.rows (flags_clean set) f is_clean (i.whole.kept f l).facts i.level x
                  (decided_right M L h lines s i.whole cell set) (λ e. (marked_due M L h lines s i.whole f e).1));
            };
      }

  pub marked_at_most_sent : (s : State M) → CleanKept M h lines f s → (at s.rows f).marked ≤ (at s.rows f).sent
  marked_at_most_sent s i = omega (arith, (i.whole.kept f (omega (arith, i.whole.count))).facts.balance, i.level)
