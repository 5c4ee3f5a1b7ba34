-- Booking a slot into a ledger, whose array changes twice.
use Rattle.std.proofs.Common.{◌≡◌, ℕ, ◌+◌, ◌<◌, List, length, take, set, Some, None, Option, sym, ◌∙◌, ap, arith}
use Rattle.record.specs.declared.taking.Charge.{Charge}
use Rattle.record.specs.declared.taking.Charge.TheVariants.{Nothing}
use Rattle.record.specs.declared.taking.Taking.{Taking}
use Rattle.record.specs.declared.taking.Taking.TheVariants.{Idle}
use Rattle.record.specs.Pairs.{sender_of}
use Rattle.cell_rules.specs.declared.row.Row.{Row}
use Rattle.cell_rules.specs.Rules.{at, most, booked}
use Rattle.cell_rules.specs.Facts.{KeptRows}
use Rattle.cell_rules.specs.Bookable.{Bookable}
use Rattle.cell_rules.proofs.Booking.{booked_length, rows_booked}
use Rattle.cell.proofs.LedgerFront.{front_row, front_set}
use Rattle.cell.proofs.LedgerSteps.{turn_booked, nobody_marked, sending_booked, nobody_sends, both_booked, sender_inside, send_fits}
use Rattle.cell.specs.declared.ledger.Ledger.{Ledger}
use Rattle.cell.specs.LedgerView.{ledger_rows, outcome_of, turned_row, sent_row, SendFits}

-- Its array is ys once the marked flow has had its turn, and zs at the end.

module _ (l : Ledger) (m : Option ℕ) (t : Taking) (c : Charge) (h : Bookable (ledger_rows l) (outcome_of m t c)) where
  marked_inside : (f : ℕ) → m ≡ Some f → f < length (ledger_rows l)
  marked_inside f e = let named : Bookable (ledger_rows l) (outcome_of (Some f) t c) = rw e at h in named.0

  abbrev pub Turned : List Row → Type 0
  Turned ys = take l.count ys ≡ booked (outcome_of m Idle c) (ledger_rows l)

  abbrev pub Sent : List Row → Type 0
  Sent zs = take l.count zs ≡ booked (outcome_of m t c) (ledger_rows l)

  pub turned_one :
      (ys : List Row) {p : ℕ} {r : Row} (f : ℕ) → m ≡ Some f → p ≡ f → r ≡ turned_row c (at l.rows p) → ys ≡ set l.rows p r
      → Turned ys
  turned_one ys f named place row stored =
      let inside = marked_inside f named in
      rw (stored, row, place, named)
      (front_set l.count l.rows f inside (turned_row c) ∙ turn_booked f c (ledger_rows l) inside)

  pub turned_none : (ys : List Row) → m ≡ None → ys ≡ l.rows → Turned ys
  turned_none ys named same = rw (same, named) (nobody_marked c (ledger_rows l))

  module _ (ys : List Row) (turned : Turned ys) where
    inside : (f : ℕ) → Some f ≡ sender_of t → f < length (take l.count ys)
    inside f named =
        omega (
          arith,
          ap length turned,
          booked_length (outcome_of m Idle c) (ledger_rows l),
          sender_inside (ledger_rows l) m t c h f (sym named),
        )

    pub sender_fits : {p : ℕ} (f : ℕ) → l.slots < most → Some f ≡ sender_of t → p ≡ f → SendFits t (at ys p)
    sender_fits f early named place =
        rw (place, ← front_row l.count ys f (inside f named), turned)
        (send_fits (ledger_rows l) m t c h l.slots early l.kept f (sym named))

    both : (zs : List Row) → take l.count zs ≡ booked (outcome_of None t Nothing) (take l.count ys) → Sent zs
    both zs e = e ∙ ap (booked (outcome_of None t Nothing)) turned ∙ both_booked (ledger_rows l) m t c h

    pub sent_one :
        (zs : List Row) {p : ℕ} {r : Row} (f : ℕ) → Some f ≡ sender_of t → p ≡ f → r ≡ sent_row t (at ys p) → zs ≡ set ys p r
        → Sent zs
    sent_one zs f named place row stored =
        both zs
        (rw (stored, row, place)
        (front_set l.count ys f (inside f named) (sent_row t)
        ∙ sending_booked t f (take l.count ys) (sym named) (inside f named)))

    pub sent_none : (zs : List Row) → None ≡ sender_of t → zs ≡ ys → Sent zs
    sent_none zs named same = both zs (rw same (nobody_sends t (take l.count ys) (sym named)))

  pub slot_kept : (zs : List Row) → Sent zs → KeptRows (l.slots + 1) (take l.count zs)
  slot_kept zs sent = rw sent (rows_booked l.slots (ledger_rows l) (outcome_of m t c) h l.kept)
