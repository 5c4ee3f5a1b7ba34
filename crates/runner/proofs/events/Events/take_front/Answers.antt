use Rattle.std.proofs.Common.{◌≡◌, ◌<◌, ◌∷◌, [], ◌++◌, ◌-◌, inr, length, take, drop, get_or, arith, subst, sym}
use Rattle.std.proofs.lemmas.List.{length-drop, length-take}
use Rattle.record.specs.Layout.{record_bytes}
use Rattle.runner.specs.EventsView.{bytes_of, events_to_come}
use Rattle.runner.specs.Output.{in_front_of}
use Rattle.runner.proofs.EventSteps.{front_three, one_more_taken}
use Rattle.runner.proofs.events.Events.take_front.Goals as goal

pub loop-first-preserved : goal.loop-first-preserved
loop-first-preserved c =
    let rest = c.loop-first.rest.now in
    let r = c.in-Ok-Some.record in
    let behind = take (length rest - 3) (drop 3 rest) in
    let shorter : length behind < length c.args.bytes.now =
    omega (arith, c.loop-first.invariant.1, c.in-len3-up.len_at_least, length-take (length rest - 3) (drop 3 rest), length-drop 3 rest) in
    let gives =
    subst (λ o. (tail : _) → events_to_come c.loop-first.self (get_or rest 0 0 ∷ get_or rest 1 0 ∷ get_or rest 2 0 ∷ tail) ≡ in_front_of (bytes_of o) (events_to_come c.take_whole.new.self tail))
    c.in-Ok-Some.field-0-is c.in-Ok-Some.ensures.gives in (
      c.in-Ok-Some.ensures.between,
      omega (arith, shorter),
      subst (λ items. (tail : _) → events_to_come c.args.self.now (c.args.bytes.now ++ tail) ≡ in_front_of items (events_to_come c.take_whole.new.self (behind ++ tail)))
          (sym c.add_record.ensures)
          (one_more_taken c.args.self.now c.loop-first.self c.take_whole.new.self c.args.bytes.now rest
          (get_or rest 0 0 ∷ get_or rest 1 0 ∷ get_or rest 2 0 ∷ []) behind c.loop-first.records.items (record_bytes r)
          c.loop-first.invariant.2 (front_three rest c.in-len3-up.len_at_least) gives),
      inr shorter,
    )
