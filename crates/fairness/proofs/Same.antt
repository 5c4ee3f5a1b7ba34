-- Cell and twin refuse the same calls, and mark the same flows.
use Rattle.std.proofs.Common.{◌≡◌, ℕ, ◌+◌, ◌<◌, ◌≤◌, List, [], ◌∷◌, map, length, Some, None, Option, sym, refl, ap, ◌∙◌, subst, subst₂, ap₂, inl, inr, arith}
use Rattle.std.proofs.lemmas.Bool.{le-leb, cases_lt}
use Rattle.cell_rules.specs.declared.row.Row.{Row}
use Rattle.reference.specs.Meaning.{Meaning, Lawful}
use Rattle.table.specs.declared.line.Line.{Line}
use Rattle.cell_rules.specs.Rules.{State, Outcome, Reports, at, once, released, arrived}
use Rattle.fairness.specs.Past.{Call, Answer, Which, refusal, deciding, accepted, unless_refused, step, after, answers, decisions, refusal_in}
use Rattle.fairness.specs.Past.Call.{arrival, opening, flag, decision}
use Rattle.cell_rules.proofs.Booking.{booked_length, booked_at}
use Rattle.fairness.proofs.Keeping.{arrival_inside, arrived_length, packets_for, arrived_at, Whole, arrived_whole, decided_whole, marked_due}

-- of a flow in two cells: as many packets arrived, and as many turns are past
abbrev SameTurns : Row → Row → Type 0
SameTurns r q = (r.arrived ≡ q.arrived) × (r.marked ≡ q.marked)

module _ (M : Meaning) where
  -- two cells that differ at most in who sent, and in what is counted of that
  pub record Same (s t : State M) : Type 0 where
    pub held : s.held ≡ t.held
    pub slot : s.slot ≡ t.slot
    pub count : length s.rows ≡ length t.rows
    pub rows : (k : ℕ) → k < length s.rows → SameTurns (at s.rows k) (at t.rows k)

  pub same_self : (s : State M) → Same s s
  same_self s = record { held = refl; slot = refl; count = refl; rows = λ k l. (refl, refl) }

  -- what both are to show of a past: the refusals of the calls, and the marks of the decisions
  pub record Seen : Type 0 where
    pub refusals : List (Option ℕ)
    pub marks : List (Option ℕ)

  abbrev pub seen : List (Answer M) → Seen
  seen given = record { refusals = map (refusal_in M) given; marks = map (λ d. d.came_to.marked) (decisions M given) }

  -- the same after a call that marks nothing, and after a decision
  abbrev unmarking : Option ℕ → Seen → Seen
  unmarking o later = record { refusals = o ∷ later.refusals; marks = later.marks }

  abbrev marking : Option ℕ → Seen → Seen
  marking m later = record { refusals = None ∷ later.refusals; marks = m ∷ later.marks }

  module _ (w v : Which) where
    pub record Alike (given_here given_there : List (Answer M)) (s t : State M) : Type 0 where
      pub seen : seen given_here ≡ seen given_there
      pub same : Same s t

    abbrev pub AlikeFrom : List Call → State M → State M → Type 0
    AlikeFrom calls s t = Alike (answers M w s calls) (answers M v t calls) (after M w s calls) (after M v t calls)

    -- the same, after a first call that came to x in the one and to y in the other
    abbrev AlikeOnce : List Call → State M × Answer M → State M × Answer M → Type 0
    AlikeOnce calls x y =
        Alike (x.1 ∷ answers M w x.0 calls) (y.1 ∷ answers M v y.0 calls) (after M w x.0 calls) (after M v y.0 calls)

module _ (M : Meaning) (L : Lawful M) (h : M.Held) (lines : List Line) where
  module _ (s t : State M) (whole : Whole M h lines s) (same : Same M s t) where
    -- ## One call

    same_refusal : (call : Call) → refusal M s call ≡ refusal M t call
    same_refusal (arrival f n) = elim (cases_lt f (length s.rows)) [
      | inl l ↦ cc (same.count, (same.rows f l).0)
      | inr l ↦
          let past : length t.rows ≤ f = omega (arith, same.count) in
          rw (le-leb (length s.rows) f l, le-leb (length t.rows) f past) refl
    ]
    same_refusal opening = cc same.slot
    same_refusal (flag set f clean) = refl
    same_refusal (decision set) = cc (same.slot, same.count)

    arrived_same : (f n : ℕ) → refusal M s (arrival f n) ≡ None → Same M (arrived M s f n) (arrived M t f n)
    arrived_same f n e =
        let inside = arrival_inside M s f n e in
        let turns = same.rows f inside in
        record {
          held = cc (same.held, turns.0, turns.1);
          slot = same.slot;
          count = arrived_length M s f n ∙ same.count ∙ sym (arrived_length M t f n);
          rows =
              λ k u.
              let l : k < length s.rows = omega (arith, arrived_length M s f n) in
              let before = same.rows k l in
              subst₂ SameTurns (sym (arrived_at M s f n e k)) (sym (arrived_at M t f n (sym (same_refusal (arrival f n)) ∙ e) k))
              (ap (λ a. a + packets_for M s f n k) before.0, before.1);
        }

    released_same :
        (o : Option ℕ) → M.marks s.held ≡ o → released M (M.turned s.held) s.rows o ≡ released M (M.turned s.held) t.rows o
    released_same None e = refl
    released_same (Some m) e = let turns = same.rows m (marked_due M L h lines s whole m e).0 in cc (turns.0, turns.1)

    decided_same : (w v : Which) (set : Reports) → Same M (deciding M w s set).after (deciding M v t set).after
    decided_same w v set =
        let x : Outcome = (deciding M w s set).came_to in
        let y : Outcome = (deciding M v t set).came_to in
        record {
          held =
              released_same (M.marks s.held) refl ∙ ap (λ z. released M (M.turned z) t.rows (M.marks z)) same.held;
          slot = ap (λ n. n + 1) same.slot;
          count = booked_length x s.rows ∙ same.count ∙ sym (booked_length y t.rows);
          rows =
              λ k u.
              let l : k < length s.rows = omega (arith, booked_length x s.rows) in
              let before = same.rows k l in
              subst₂ SameTurns (sym (booked_at x s.rows k l)) (sym (booked_at y t.rows k (omega (arith, same.count))))
              (before.0, ap₂ (λ n z. n + once (M.marks z) k) before.1 same.held);
        }

  -- ## Over a past

  module _ (w v : Which) where
    alike_call :
        (calls : List Call) → ((s t : State M) → Whole M h lines s → Same M s t → AlikeFrom M w v calls s t)
        → (s t : State M) → Whole M h lines s → Same M s t
        → (call : Call) (o : Option ℕ) → refusal M s call ≡ o
        → AlikeOnce M w v calls (unless_refused M o s (accepted M w s call)) (unless_refused M o t (accepted M v t call))
    alike_call calls rest s t whole same call (Some n) e =
        let a = rest s t whole same in record { seen = ap (unmarking M (Some n)) a.seen; same = a.same }
    alike_call calls rest s t whole same (arrival f n) None e =
        let a
        = rest (arrived M s f n) (arrived M t f n) (arrived_whole M L h lines s whole f n e)
        (arrived_same s t whole same f n e) in
        record { seen = ap (unmarking M None) a.seen; same = a.same }
    alike_call calls rest s t whole same opening None e =
        let a = rest s t whole same in record { seen = ap (unmarking M None) a.seen; same = a.same }
    alike_call calls rest s t whole same (flag set f clean) None e =
        let a = rest s t whole same in record { seen = ap (unmarking M None) a.seen; same = a.same }
    alike_call calls rest s t whole same (decision set) None e =
        let a
        = rest (deciding M w s set).after (deciding M v t set).after (decided_whole M L h lines s whole w set)
        (decided_same s t whole same w v set) in
        record { seen = ap₂ (λ z later. marking M (M.marks z) later) same.held a.seen; same = a.same }

    pub alike : (calls : List Call) (s t : State M) → Whole M h lines s → Same M s t → AlikeFrom M w v calls s t
    alike [] s t whole same = record { seen = refl; same = same }
    alike (call ∷ calls) s t whole same =
        subst (λ o. AlikeOnce M w v calls (step M w s call) (unless_refused M o t (accepted M v t call)))
        (same_refusal s t whole same call) (alike_call calls (alike calls) s t whole same call (refusal M s call) refl)
