use Rattle.std.proofs.Common.{◌≡◌, ◌<◌, length, get_or, None, Some, sym, ap, ◌∙◌, lit<, append-nil, arith, rules}
use Rattle.std.specs.Option.{option_map}
use Rattle.std.proofs.lemmas.List.{take_all}
use Rattle.reference.proofs.Fronts.{front_length}
use Rattle.tag_rule.specs.Rule.{entries, soonest}
use Rattle.tag_rule.specs.declared.entry.Entry.{Entry}
use Rattle.tags.specs.View.{clock_of}
use Rattle.tags.proofs.Steps.{found_few, found_more, least_is}
use Rattle.tags.proofs.Stored.{shown_delay, entry_shown, none_shown_idle, none_shown_late}
use Rattle.tags.proofs.Tags.pick.Goals as goal
use Rattle.tags.proofs.Tags.pick.Goals.{
  then-stamp+then-stamp-latest,
  else-stamp,
  else-stamp-via-then-stamp+else-stamp-latest,
  else-stamp-via-else-stamp,
}

pub part-requires : goal.part-requires
part-requires c =
    let delay = shown_delay c.args.self.now _ _ c.flows-stamp-items.ensures c.loop-flow-test.true in
    record { at_least_one = delay.0; at_most_sixteen = delay.1 }

pub push-requires : goal.push-requires
push-requires c =
    let t = c.args.self.now in
    let long = front_length t.stamps t.count t.sized t.few in
    let inside
    : c.loop-flow.flow < length (clock_of c.args.self.now).stamps
    = omega (arith, c.loop-flow-test.true, ap length c.flows-stamp-items.ensures) in
    let few = found_few (clock_of t) c.loop-flow.flow _ inside c.loop-flow.invariant in
    let room : length c.loop-flow.found.items < 16 = omega (arith, few, inside, long, t.few) in
    (lit< tt, room)

pub loop-flow-preserved : goal.loop-flow-preserved
loop-flow-preserved c =
    let t = c.args.self.now in
    let same = c.flows-stamp-items.ensures in
    let inside
    : c.loop-flow.flow < length (clock_of c.args.self.now).stamps
    = omega (arith, c.loop-flow-test.true, ap length c.flows-stamp-items.ensures) in
    let more = found_more (clock_of t) c.loop-flow.flow _ inside c.loop-flow.invariant in
    elim c.if-stamp.branch [
      | then-stamp+then-stamp-latest w ↦
          more _ (Some _)
          (entry_shown t _ _ same _ _ c.from.ensures w.part.ensures w.if-stamp.true w.if-stamp-latest.true)
          (ap (λ v. v.items) w.found-is ∙ w.push.ensures.items)
      | else-stamp w ↦
          elim w.else-stamp.branch [
            | else-stamp-via-then-stamp+else-stamp-latest z ↦
                more _ None (none_shown_late t _ _ same _ c.from.ensures z.if-stamp-latest.false)
                (ap (λ v. v.items) w.found-is ∙ sym (append-nil _))
            | else-stamp-via-else-stamp z ↦
                more _ None (none_shown_idle t _ _ same z.if-stamp.false) (ap (λ v. v.items) w.found-is ∙ sym (append-nil _))
          ]
    ]

pub returns : goal.returns
returns c =
    let t = c.args.self.now in
    let all = take_all c.loop-flow.flow (clock_of t).stamps (omega (arith, c.loop-flow-test.false, ap length c.flows-stamp-items.ensures)) in
    let none : Entry = record { finish = 0; flow = 0 } in
    let flow : c.map.result ≡ option_map (λ i. (get_or c.deref.result.now i none).flow) c.least.result = search rules in
    flow
    ∙ (least_is c.deref.result.now c.least.result none c.least.ensures
    ∙ ap soonest (c.deref.ensures.0 ∙ (c.loop-flow.invariant ∙ ap (entries t.time t.lookahead 0) all)))
