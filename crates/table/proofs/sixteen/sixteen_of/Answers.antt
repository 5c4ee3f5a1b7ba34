use Rattle.std.proofs.Common.{rules, ◌≤◌, length, ◌+◌, ◌<◌, get_or, arith, length-drop}
use Rattle.std.proofs.lemmas.List.{get_or-drop}
use Rattle.table.proofs.Places.{made_at, zip_from_places}
use Rattle.table.proofs.sixteen.sixteen_of.Goals as goal

pub returns : goal.returns
returns g c =
    let xs = c.args.items.now in
    let ys = c.from_fn.result in
    let long = c.from_fn.ensures.items.long in
    let each =
    made_at _
    (λ i y. (i < length xs → (d : _) → g.T.From.from_gives (get_or xs i d) y) × (length xs ≤ i → g.T.Default.is_default y)) _
    (λ i y q k. (search rules, search rules)) ys 16 c.from_fn.ensures.items in
    record {
      made = zip_from_places g.T.From.from_gives xs ys (omega (arith, long)) (λ i d e k. (each i e (omega arith)).0 k d);
      spare =
          λ k d l.
          rw (get_or-drop (length xs) ys k d)
          ((each (length xs + k) d (omega (arith, length-drop (length xs) ys, long))).1 (omega arith));
    }
