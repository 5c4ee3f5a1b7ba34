use Rattle.std.proofs.Common.{◌≡◌, ◌-◌, true, ltb, length, ap, ◌∙◌, arith}
use Rattle.std.proofs.lemmas.Bool.{lt-ltb}
use Rattle.reference.specs.Flows.{others}
use Rattle.tag_rule.specs.Rule.{stamp_at}
use Rattle.tag_rule.specs.Tags.{later, weight_of}
use Rattle.tags.specs.View.{tags_held}
use Rattle.tags.specs.Held.{held_length}
use Rattle.tags.proofs.Told.{stamp_found, others_weight}
use Rattle.tags.proofs.calls.TagsReference.allowance.Goals as goal

pub overflow_sub-rest : goal.overflow_sub-rest
overflow_sub-rest c =
    omega
    (arith, c.from.ensures, c.from-weight.ensures, (others_weight c.args.self.now c.args.flow (later c.args.self.now.time c.in_ok-stamp.stamp) c.in_ok-stamp.ensures).0)

pub returns : goal.returns
returns c =
    let found = stamp_found c.args.self.now c.args.flow (later c.args.self.now.time c.in_ok-stamp.stamp) c.in_ok-stamp.ensures in
    let rest = others_weight c.args.self.now c.args.flow (later c.args.self.now.time c.in_ok-stamp.stamp) c.in_ok-stamp.ensures in
    let inside : ltb c.args.flow (length (tags_held c.args.self.now).stamps) ≡ true = lt-ltb _ _ found.0 in
    let w : c.from-weight.result ≡ (stamp_at (tags_held c.args.self.now).stamps c.args.flow).weight
    = c.from-weight.ensures ∙ ap weight_of found.1 in
    let o : c.from.result - c.from-weight.result ≡ others weight_of (tags_held c.args.self.now).stamps c.args.flow
    = omega (arith, c.from.ensures, c.from-weight.ensures, rest.1) in
    let n : c.from-others.result - 1 ≡ length (tags_held c.args.self.now).stamps - 1
    = omega (arith, c.from-others.ensures, held_length c.args.self.now) in
    rw (inside, o, n, w, c.from-2.ensures)
