use Rattle.std.proofs.Common.{rules, ◌≡◌, Bor, ap, ◌∙◌}
use Rattle.std.specs.Option.{option_map}
use Rattle.order.proofs.Placed.{fold_is_least, entries_read}
use Rattle.order.proofs.least.Goals as goal

pub returns : goal.returns
returns g c =
    let before = g.T.TotalOrder.before in
    let ranks = g.met.T.TotalOrder.ranks in
    let read : Bor g.row.T.Denot → g.row.T.Denot = λ y. y.now in
    let run = c.reduce.ensures.runs in
    let p = run.0 in
    let placed = c.enumerate.ensures.runs p p.seen run.1 in
    let q = placed.1.0 in
    let all = (c.iter.ensures.runs q q.seen).4 (placed.1.2.1 ∙ run.2) ∙ (ap (λ s. s.rest.now) placed.1.1 ∙ c.iter.ensures.rest) in
    let read_all = entries_read ranks read p.items q.items c.args.entries.now placed.1.2.0.1 all in
    let told : c.map.result ≡ option_map (λ x. x.0) c.reduce.result = search rules in
    rw (told, ← read_all)
    (fold_is_least ranks read p.items p.len p.at c.reduce.result _ p.long p.reads placed.0 run.3 (λ y x r f k. search rules))
