use Rattle.std.proofs.Common.{◌≡◌, ◌∙◌, ap, subst, None}
use Rattle.cell_rules.specs.Rules.{Ring, ring_after, ring_finds, has}
use Rattle.cell.specs.RingView.{ring_held}
use Rattle.cell.proofs.RingStays.{none_found}
use Rattle.cell.proofs.flows.Flows.settle_leading.Goals as goal
use Rattle.cell.proofs.flows.Flows.settle_leading.Goals.{else-is_designated-via-else-is_designated, else-is_designated-via-then-is_designated+in-None-1}

pub returns-2-clause-moved : goal.returns-2-clause-moved
returns-2-clause-moved c =
    let f = c.args.self.now in
    let clean = has f.clean.bits in
    let before = ring_held c.args.ring.now in
    let moves = λ (r : Ring). ring_held c.passed_on.new.ring ≡ ring_after c.passed_on.result r (ring_finds f.rows.now clean r).1 in
    elim c.else-is_designated.branch [
      | else-is_designated-via-else-is_designated w ↦ subst moves (ap ring_held w.ring-is) c.passed_on.ensures.moved
      | else-is_designated-via-then-is_designated+in-None-1 w ↦
          let none : (ring_finds f.rows.now clean before).0 ≡ None = cc in
          subst moves (ap ring_held w.ring-is ∙ (w.find.ensures.moved ∙ none_found f.rows.now clean before none)) c.passed_on.ensures.moved
    ]
