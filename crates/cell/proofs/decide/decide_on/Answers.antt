use Rattle.std.proofs.Common.{◌≡◌, ◌<◌, length, IfSome, ◌∙◌, sym, ap, subst}
use Rattle.cell_rules.specs.Rules.{has, ring_after, ring_finds, slot_of, flags_clean}
use Rattle.cell.specs.FlowsView.{clean_of}
use Rattle.cell.specs.ReportSetView.{reports_held}
use Rattle.cell.specs.RingView.{ring_held}
use Rattle.cell.specs.StateView.{left_if_done}
use Rattle.cell.specs.LedgerView.{ledger_rows}
use Rattle.cell.specs.declared.flow_set.FlowSet.{FlowSet}
use Rattle.cell.proofs.Decisions.{decided_state}
use Rattle.cell.proofs.decide.decide_on.Goals as goal

pub returns-clause-state : goal.returns-clause-state
returns-clause-state g c =
    let rows = c.flows.ensures.rows in
    let clean : clean_of c.flows.result ≡ flags_clean (reports_held c.args.reports.now)
    = ap (λ (s : FlowSet). has s.bits) c.flows.ensures.clean ∙ c.clean.ensures in
    let ring = ring_held c.args.ring.now in
    decided_state g.R.Reference.meaning (g.R.Reference.held c.args.reference.now) _ c.args.ledger.now c.book.new.self c.args.ring.now
    c.settle-taking.new.ring (flags_clean (reports_held c.args.reports.now)) c.turn-marked.result c.settle-taking.result
    c.turn-marked.ensures.mark
    (c.settle-taking.ensures.settled ∙ (λ i. slot_of (rows i) (clean i) ring c.turn-marked.result))
    (c.settle-taking.ensures.moved ∙ (λ i. ring_after c.settle-taking.result.0 ring (ring_finds (rows i) (clean i) ring).1))
    c.book.ensures.rows
    c.book.ensures.slots
    (c.release.ensures ∙ ap (λ h. left_if_done g.R.Reference.meaning h (ledger_rows c.book.new.self) c.turn-marked.result) c.turn-marked.ensures.after)
    (subst (λ m. IfSome m (λ f. f < length (ledger_rows c.args.ledger.now))) (sym c.turn-marked.ensures.mark) c.requires.marks)
