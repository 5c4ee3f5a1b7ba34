use Rattle.std.proofs.Common.{◌≡◌, refl, sym, ap, ◌∙◌}
use Rattle.std.proofs.lemmas.Option.{none-some}
use Rattle.cell_rules.specs.Rules.{created}
use Rattle.table.specs.Layout.{flow_lines}
use Rattle.table_reference.specs.View.{own, own_held}
use Rattle.runner.proofs.Starts.{cell_started, creation_unrefused}
use Rattle.runner.proofs.events.Events.of.Goals as goal

pub returns-in-Ok : goal.returns-in-Ok
returns-in-Ok c =
    let b = c.args.table.now in
    let t = c.in_ok-read.field-0 in
    let r = c.of-reference.result in
    let read = c.in_ok-read.ensures.exact in
    let made = c.in-Ok.ensures in
    let again = c.in_ok-read.ensures.undoes_writing made.1 made.2.1 in
    let same : t ≡ made.1 = cc in
    (read.0, made.3 ∙ sym (ap (λ x. created own (own_held r) (flow_lines x)) same) ∙ cell_started b t r read c.of-reference.ensures.made, refl)

pub returns-in-Err : goal.returns-in-Err
returns-in-Err c =
    let unrefused = creation_unrefused c.args.table.now c.in_ok-read.field-0 c.of-reference.result c.in_ok-read.ensures.exact c.of-reference.ensures.made in
    absurd (none-some _ (sym unrefused ∙ c.in-Err.ensures.0))
