use Rattle.std.proofs.Common.{◌<◌, length, None, Some, sym, ap, ◌∙◌, lit<, append-nil, arith}
use Rattle.cell_rules.specs.Rules.{has}
use Rattle.cell.proofs.LeadersFound.{leaders_few, who_more, read_more}
use Rattle.cell.proofs.flows.Flows.leaders.Goals as goal
use Rattle.cell.proofs.flows.Flows.leaders.Goals.{in-Some, in_default}

pub push-requires : goal.push-requires
push-requires c =
    let f = c.args.self.now in
    let few = leaders_few f.rows.now (has f.clean.bits) c.loop-place.place _ c.loop-place.invariant.who in
    let room : length c.loop-place.found.items < 16 = omega (arith, few) in
    (lit< tt, room)

pub loop-place-preserved : goal.loop-place-preserved
loop-place-preserved c =
    let f = c.args.self.now in
    let found = c.loop-place.found.items in
    let more = who_more f.rows.now (has f.clean.bits) c.loop-place.place found c.loop-place.invariant.who in
    elim c.match-leader.branch [
      | in-Some w ↦
          let e = ap (λ v. v.items) w.found-is ∙ w.push.ensures.items in
          record {
            who = more (Some w.in-Some.leader) _ w.in-Some.ensures e;
            read = read_more f.rows.now (has f.clean.bits) c.loop-place.place found (Some w.in-Some.leader) _ w.in-Some.ensures e c.loop-place.invariant.read;
          }
      | in_default w ↦
          let e = ap (λ v. v.items) w.found-is ∙ sym (append-nil _) in
          record {
            who = more None _ w.in_default.ensures e;
            read = read_more f.rows.now (has f.clean.bits) c.loop-place.place found None _ w.in_default.ensures e c.loop-place.invariant.read;
          }
    ]
