use Rattle.std.proofs.Common.{◌+◌, ◌-◌, Some, None, refl, ap, ◌∙◌}
use Rattle.std.specs.List.{find, range_with_len}
use Rattle.cell_rules.specs.Rules.{repayable, has}
use Rattle.cell.proofs.Upward.{found_around}
use Rattle.cell.proofs.ring.Ring.following.Goals as goal

pub returns-in-Some-clause-found : goal.returns-in-Some-clause-found
returns-in-Some-clause-found c =
    let f = c.args.flows.now in
    let test = repayable f.rows.now (has f.clean.bits) in
    let p = c.args.self.now.pointer in
    found_around test _ p (Some c.in-Some.flow) (find test (range_with_len 0 (p + 1 - 0)))
    (c.in-Some.ensures.found ∙ ap (λ n. find test (range_with_len (p + 1) (n - (p + 1)))) c.count.ensures) refl

pub returns-in-None-clause-found : goal.returns-in-None-clause-found
returns-in-None-clause-found c =
    let f = c.args.flows.now in
    let test = repayable f.rows.now (has f.clean.bits) in
    let p = c.args.self.now.pointer in
    found_around test _ p None c.first_repayable-in-None.result
    (c.in-None.ensures.found ∙ ap (λ n. find test (range_with_len (p + 1) (n - (p + 1)))) c.count.ensures)
    c.first_repayable-in-None.ensures.found
