-- Booking a slot in two steps, over the rows: the marked flow has its turn, and then the sender sends.
use Rattle.std.proofs.Common.{◌≡◌, ℕ, ◌+◌, ◌<◌, ◌≤◌, true, eqb, List, length, set, Some, None, Option, refl, sym, ◌∙◌, ap, inl, inr, arith}
use Rattle.std.proofs.lemmas.Bool.{eq-eqb, cases_lt}
use Rattle.std.proofs.lemmas.List.{ext_get_or, get_or_past}
use Rattle.record.specs.Accounts.{repaid_sender, charged_sender}
use Rattle.record.specs.declared.taking.Charge.{Charge}
use Rattle.record.specs.declared.taking.Charge.TheVariants.{Nothing, LeadDown, LagUp, Forfeited}
use Rattle.record.specs.declared.taking.Taking.{Taking}
use Rattle.record.specs.declared.taking.Taking.TheVariants.{Idle, Own, LagRepaid, LeadCharged, Free}
use Rattle.record.specs.Pairs.{sender_of}
use Rattle.table.specs.Lines.{no_line}
use Rattle.cell_rules.specs.declared.row.Row.{Row}
use Rattle.cell_rules.specs.Rules.{at, fresh, most, once, waiting, booked_row, booked}
use Rattle.cell_rules.specs.Facts.{KeptRows}
use Rattle.cell_rules.specs.Bookable.{Bookable}
use Rattle.cell_rules.proofs.Booking.{booked_length, booked_at, moves}
use Rattle.cell_rules.proofs.Rows.{row_same}
use Rattle.cell_rules.proofs.Touched.{two_rows}
use Rattle.cell.specs.LedgerView.{outcome_of, turned_row, sent_row, TakingFits, SendFits}

-- ## The marked flow

-- whichever number it has
names_itself : (f : ℕ) → eqb f f ≡ true
names_itself f = eq-eqb f f refl

marked_row : (m : ℕ) (c : Charge) (r : Row) → booked_row (outcome_of (Some m) Idle c) m r ≡ turned_row c r
marked_row m Nothing r = rw (names_itself m)
marked_row m LeadDown r = rw (names_itself m)
marked_row m LagUp r = rw (names_itself m)
marked_row m Forfeited r = rw (names_itself m)

pub turn_booked :
    (m : ℕ) (c : Charge) (rows : List Row) → m < length rows
    → set rows m (turned_row c (at rows m)) ≡ booked (outcome_of (Some m) Idle c) rows
turn_booked m c rows h =
    ap (set rows m) (sym (marked_row m c (at rows m)))
    ∙ two_rows (outcome_of (Some m) Idle c) rows (λ k e. let s : m ≡ k = cc in omega arith) (λ k e. cc)

pub nobody_marked : (c : Charge) (rows : List Row) → rows ≡ booked (outcome_of None Idle c) rows
nobody_marked c rows = two_rows (outcome_of None Idle c) rows (λ k e. cc) (λ k e. cc)

-- ## The sender

sender_row : (t : Taking) (f : ℕ) (r : Row) → sender_of t ≡ Some f → booked_row (outcome_of None t Nothing) f r ≡ sent_row t r
sender_row t f r e = rw e

pub sending_booked :
    (t : Taking) (f : ℕ) (rows : List Row) → sender_of t ≡ Some f → f < length rows
    → set rows f (sent_row t (at rows f)) ≡ booked (outcome_of None t Nothing) rows
sending_booked t f rows e h =
    ap (set rows f) (sym (sender_row t f (at rows f) e))
    ∙ (let two = two_rows (outcome_of None t Nothing) rows (λ k e. cc) (λ k d. let s : f ≡ k = cc in omega arith) in rw e at two)

pub nobody_sends : (t : Taking) (rows : List Row) → sender_of t ≡ None → rows ≡ booked (outcome_of None t Nothing) rows
nobody_sends t rows e =
    let two = two_rows (outcome_of None t Nothing) rows (λ k e. cc) (λ k d. cc) in rw e at two

-- ## Both

module _ (rows : List Row) (m : Option ℕ) (t : Taking) (c : Charge) (h : Bookable rows (outcome_of m t c)) (k : ℕ) where
  both_row :
      booked_row (outcome_of None t Nothing) k (booked_row (outcome_of m Idle c) k (at rows k))
      ≡ booked_row (outcome_of m t c) k (at rows k)
  both_row =
      let r : Row = at rows k in
      let pays = (moves rows k m t c h).pays in
      row_same _ (booked_row (outcome_of m t c) k r) refl (omega arith) (omega arith) (omega arith) (omega arith) (omega arith)
      (omega arith) refl refl refl

module _ (rows : List Row) (m : Option ℕ) (t : Taking) (c : Charge) (h : Bookable rows (outcome_of m t c)) where
  pub both_booked :
      booked (outcome_of None t Nothing) (booked (outcome_of m Idle c) rows) ≡ booked (outcome_of m t c) rows
  both_booked =
      let turned : List Row = booked (outcome_of m Idle c) rows in
      let one : length turned ≡ length rows = booked_length (outcome_of m Idle c) rows in
      let two : length (booked (outcome_of None t Nothing) turned) ≡ length turned = booked_length (outcome_of None t Nothing) turned in
      ext_get_or (fresh no_line) (booked (outcome_of None t Nothing) turned) (booked (outcome_of m t c) rows)
      (two ∙ one ∙ sym (booked_length (outcome_of m t c) rows))
      (λ k l.
      let inside : k < length rows = omega (arith, one, two) in
      booked_at (outcome_of None t Nothing) turned k (omega (arith, one))
      ∙ ap (booked_row (outcome_of None t Nothing) k) (booked_at (outcome_of m Idle c) rows k inside)
      ∙ both_row rows m t c h k
      ∙ sym (booked_at (outcome_of m t c) rows k inside))

-- ## The sender's row

module _ (rows : List Row) (m : Option ℕ) (t : Taking) (c : Charge) (h : Bookable rows (outcome_of m t c)) where
  named_once : (g f : ℕ) → Some g ≡ Some f → once (Some g) f ≡ 1
  named_once g f e = let same : g ≡ f = cc in rw (eq-eqb g f same)

  sender_once : (f : ℕ) → sender_of t ≡ Some f → once (sender_of t) f ≡ 1
  sender_once f e = rw e (named_once f f refl)

  -- it is one of the flows
  pub sender_inside : (f : ℕ) → sender_of t ≡ Some f → f < length rows
  sender_inside f e =
      elim (cases_lt f (length rows)) [
        | inl l ↦ l
        | inr l ↦
            let none : waiting (at rows f) ≡ 0 = ap waiting (get_or_past rows f (fresh no_line) l) in
            absurd (omega (arith, sender_once f e, (moves rows f m t c h).waits))
      ]

  -- and its row, once the marked flow has had its turn, leaves room for what it sends
  taking_fits :
      (u : Taking) (f : ℕ) (r : Row) → sender_of u ≡ Some f
      → once (repaid_sender u) f ≤ r.lag → r.lead + once (charged_sender u) f ≤ r.lead_limit
      → TakingFits u r
  taking_fits Idle f r e lag lead = cc
  taking_fits (Own g) f r e lag lead = tt
  taking_fits (LagRepaid g) f r e lag lead = omega (arith, named_once g f e)
  taking_fits (LeadCharged g) f r e lag lead = omega (arith, named_once g f e)
  taking_fits (Free g) f r e lag lead = tt

  pub send_fits :
      (slots : ℕ) → slots < most → KeptRows slots rows
      → (f : ℕ) → sender_of t ≡ Some f → SendFits t (at (booked (outcome_of m Idle c) rows) f)
  send_fits slots early kept f e =
      let inside = sender_inside f e in
      let facts = kept.facts f inside in
      let bounded = kept.bounded f inside in
      let moves = moves rows f m t c h in
      let once = sender_once f e in
      rw (booked_at (outcome_of m Idle c) rows f inside)
      (record {
        sent = omega arith;
        free = omega arith;
        taking = taking_fits t f (booked_row (outcome_of m Idle c) f (at rows f)) e (omega arith) (omega (arith, moves.leads facts.lead_within_limit));
      })
