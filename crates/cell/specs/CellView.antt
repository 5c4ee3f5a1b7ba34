-- What a cell of the code holds, and what its calls answer, each by the rules and as a call in a past.
use Rattle.std.specs.Prelude.{◌≡◌, ℕ, List, length, Some, None, Ok, Err, Result}
use Rattle.fault.specs.Faults.{creation_told, arrival_number, opening_number, decision_number}
use Rattle.fault.specs.declared.ArrivalFault.{ArrivalFault}
use Rattle.fault.specs.declared.CreationFault.{CreationFault}
use Rattle.fault.specs.declared.DecisionFault.{DecisionFault}
use Rattle.fault.specs.declared.OpeningFault.{OpeningFault}
use Rattle.record.specs.declared.Record.{Record}
use Rattle.reference.specs.Meaning.{Meaning}
use Rattle.reference.specs.declared.Reference.{Ghosts}
use Rattle.table.specs.Layout.{flow_lines}
use Rattle.table.specs.Refusals.{TableRead}
use Rattle.table.specs.declared.Table.{Table}
use Rattle.cell_rules.specs.Rules.{State, Outcome, created, arrived, opened, outcome, decided, flags_clean, arrival_refusal, opening_refusal, decision_refusal}
use Rattle.fairness.specs.Past.{Answer, Decision}
use Rattle.fairness.specs.Past.Answer.{done, handed, settled, refused}
use Rattle.cell.specs.Creation.{creation_refusal}
use Rattle.cell.specs.ReportSetView.{reports_held}
use Rattle.cell.specs.StateView.{state_held}
use Rattle.cell.specs.declared.Cell.{Cell}
use Rattle.cell.specs.declared.refused.Refused.{Refused}
use Rattle.cell.specs.declared.report_set.ReportSet.{ReportSet}

-- what a record says of its slot
abbrev pub said_by : Record → Outcome
said_by r = record { marked = r.marked; taking = r.taking; charge = r.charge }

-- over references of type X, of which g says what they mean
module _ {X : Type 0} {g : Ghosts X} where
  abbrev pub cell_held : Cell X g → State g.meaning
  cell_held c = state_held g.meaning (g.held c.reference) c.ledger c.ring

  -- creating a cell of the table's bytes b over a reference: the beginning of the rules, or the refusal, with the
  -- reference
  abbrev pub Created : List ℕ → X → Result (Cell X g) (Refused CreationFault X) → Type 0
  Created b reference (Ok c) =
      (creation_refusal b (g.meaning.flows (g.held reference)) ≡ None)
      × (t : Table) × TableRead b (Ok t) × (cell_held c ≡ created g.meaning (g.held reference) (flow_lines t))
  Created b reference (Err e) =
      (creation_refusal b (g.meaning.flows (g.held reference)) ≡ Some (creation_told e.fault)) × (e.given ≡ reference)

module _ (M : Meaning) where
  -- n packets arrive for flow f in s, which is then t
  abbrev pub Arrived : State M → ℕ → ℕ → State M → Result Unit ArrivalFault → Type 0
  Arrived s f n t (Ok _) = (arrival_refusal s.rows f n ≡ None) × (t ≡ arrived M s f n)
  Arrived s f n t (Err e) = (arrival_refusal s.rows f n ≡ Some (arrival_number e)) × (t ≡ s)

  abbrev pub arrival_answer : Result Unit ArrivalFault → Answer M
  arrival_answer (Ok _) = done
  arrival_answer (Err e) = refused (arrival_number e)

  -- a control phase is opened in s
  abbrev pub Opened : State M → Result ReportSet OpeningFault → Type 0
  Opened s (Ok set) = (opening_refusal s.slot ≡ None) × (reports_held set ≡ opened s.slot (length s.rows))
  Opened s (Err e) = opening_refusal s.slot ≡ Some (opening_number e)

  abbrev pub opening_answer : Result ReportSet OpeningFault → Answer M
  opening_answer (Ok set) = handed (reports_held set)
  opening_answer (Err e) = refused (opening_number e)

  -- a slot is decided in s on a report set: the record tells what the rules make of it on the flags of that set, and t
  -- is what they leave; or s is unaltered, and the set is given back as it was
  abbrev pub Decided : State M → ReportSet → State M → Result Record (Refused DecisionFault ReportSet) → Type 0
  Decided s set t (Ok r) =
      (decision_refusal s.slot s.rows (reports_held set) ≡ None)
      × (said_by r ≡ outcome M s (flags_clean (reports_held set)))
      × (r.slot ≡ s.slot)
      × (r.flow_count ≡ length s.rows)
      × (t ≡ decided M s (flags_clean (reports_held set)))
  Decided s set t (Err e) =
      (decision_refusal s.slot s.rows (reports_held set) ≡ Some (decision_number e.fault)) × (t ≡ s) × (e.given ≡ set)

  -- the decision that a record tells of, between what the cell held before it and after it
  abbrev pub decision_told : State M → ReportSet → State M → Record → Decision M
  decision_told s set t r = record { before = s; reports = reports_held set; came_to = said_by r; after = t }

  abbrev pub decision_answer : State M → ReportSet → State M → Result Record (Refused DecisionFault ReportSet) → Answer M
  decision_answer s set t (Ok r) = settled (decision_told s set t r)
  decision_answer s set t (Err e) = refused (decision_number e.fault)
