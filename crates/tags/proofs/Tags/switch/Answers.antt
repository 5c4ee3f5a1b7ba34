use Rattle.std.proofs.Common.{◌≡◌, max, cond, sym, ◌∙◌, arith}
use Rattle.tag_rule.specs.Rule.{stamp_at}
use Rattle.tag_rule.proofs.Laws.{switched_is, switch_past}
use Rattle.tags.specs.View.{tags_held}
use Rattle.tags.specs.Held.{held_length, held_sound}
use Rattle.tags.proofs.Stored.{switched_kept, switched_holds}
use Rattle.tags.proofs.Tags.switch.Goals as goal
use Rattle.tags.proofs.Tags.switch.Goals.{then-due, else-due}

pub put-requires-clause-kept : goal.put-requires-clause-kept
put-requires-clause-kept c =
    let t = c.args.self.now in
    let tag
    : c.if-due.tag ≡ cond c.args.due (max (stamp_at c.args.self.now.stamps c.from.result).tag c.args.self.now.time) (stamp_at c.args.self.now.stamps c.from.result).tag
    = elim c.if-due.branch [
      | then-due w ↦ rw w.if-due.true (w.tag-is ∙ w.lifted-tag.ensures)
      | else-due w ↦ rw w.if-due.false w.tag-is
    ] in
    switched_kept t c.args.flow _ c.from.ensures c.if-flow-self.true c.args.due _ tag

pub returns-after-due : goal.returns-after-due
returns-after-due c =
    let t = c.args.self.now in
    let tag
    : c.if-due.tag ≡ cond c.args.due (max (stamp_at c.args.self.now.stamps c.from.result).tag c.args.self.now.time) (stamp_at c.args.self.now.stamps c.from.result).tag
    = elim c.if-due.branch [
      | then-due w ↦ rw w.if-due.true (w.tag-is ∙ w.lifted-tag.ensures)
      | else-due w ↦ rw w.if-due.false w.tag-is
    ] in
    c.put.ensures ∙ switched_holds t c.args.flow _ c.from.ensures c.if-flow-self.true c.args.due _ tag

pub returns-else-flow-self : goal.returns-else-flow-self
returns-else-flow-self c =
    let t = c.args.self.now in
    sym
    (switched_is c.args.due (tags_held t) c.args.flow
    ∙ switch_past c.args.due (tags_held t) c.args.flow (held_sound t) (omega (arith, held_length t, c.if-flow-self.false)))
