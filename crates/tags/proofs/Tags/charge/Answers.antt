use Rattle.std.proofs.Common.{ap, ◌∙◌, arith}
use Rattle.tag_rule.specs.Tags.{weight_of}
use Rattle.tags.proofs.Stored.{pick_below, pick_at, pick_kept, pick_tag, pick_ahead, pick_charged}
use Rattle.tags.proofs.Tags.charge.Goals as goal

pub bounds-self-from : goal.bounds-self-from
bounds-self-from c = omega (arith, c.from.ensures, pick_below c.args.self.now _ _ c.from.ensures c.requires, c.args.self.now.few)

pub part-requires : goal.part-requires
part-requires c =
    let k = pick_kept c.args.self.now _ _ c.from.ensures c.requires in
    record { at_least_one = k.0; at_most_sixteen = k.1 }

pub overflow_add-tag : goal.overflow_add-tag
overflow_add-tag c =
    let t = c.args.self.now in
    omega (arith, pick_tag t _ _ c.from.ensures c.requires, t.looks, t.early)

pub put-requires : goal.put-requires
put-requires c =
    let t = c.args.self.now in
    let from = c.from.ensures in
    let k = pick_kept t _ _ from c.requires in
    let tag = pick_tag t _ _ from c.requires in
    let ahead = pick_ahead t _ _ from c.requires in
    record {
      inside = pick_below t _ _ from c.requires;
      same_weight = ap weight_of (pick_at t _ _ from c.requires);
      kept = (k.0, k.1, k.2, k.3, rw c.part.ensures (omega (arith, tag)));
      ahead = λ d. omega (arith, ahead d);
    }

pub returns : goal.returns
returns c = c.put.ensures ∙ pick_charged c.args.self.now _ _ c.from.ensures c.requires _ c.part.ensures
