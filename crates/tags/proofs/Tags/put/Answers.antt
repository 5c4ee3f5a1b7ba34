use Rattle.std.proofs.Common.{sym, refl, ap, subst, ◌∙◌, take, arith}
use Rattle.tag_rule.specs.Tags.{seen}
use Rattle.tags.proofs.Stored.{Counted, put_stays, put_counted, put_holds, base_counted, base_holds}
use Rattle.tags.proofs.Tags.put.Goals as goal

-- past the latest virtual time, where the base moves up
pub invariant_of-self : goal.invariant_of-self
invariant_of-self c =
    let t = c.args.self.now in
    let had
    = put_counted t c.args.flow c.args.stamp _ _ _ c.requires.same_weight c.requires.kept c.requires.ahead c.from.ensures
    c.from-place.ensures c.moved_on-self.ensures in
    let r = subst (λ zs. Counted t zs 0) (sym c.count_from.ensures) (base_counted t _ _ had) in
    record {
      sized = r.sized;
      some = t.some;
      few = t.few;
      looks = t.looks;
      early = omega arith;
      kept = r.kept;
      on_time = r.on_time;
      summed = r.summed;
    }

pub returns-then-self-gt-LATEST : goal.returns-then-self-gt-LATEST
returns-then-self-gt-LATEST c =
    let t = c.args.self.now in
    let had
    = put_counted t c.args.flow c.args.stamp _ _ _ c.requires.same_weight c.requires.kept c.requires.ahead c.from.ensures
    c.from-place.ensures c.moved_on-self.ensures in
    ap (λ zs. seen (record { stamps = take t.count zs; time = 0; lookahead = t.lookahead })) c.count_from.ensures
    ∙ (base_holds t _ _ had
    ∙ put_holds t c.args.flow c.args.stamp _ _ _ c.requires.same_weight c.requires.kept c.requires.ahead c.from.ensures
    c.from-place.ensures c.moved_on-self.ensures)

pub invariant_of-self-else-self-gt-LATEST : goal.invariant_of-self-else-self-gt-LATEST
invariant_of-self-else-self-gt-LATEST c =
    let t = c.args.self.now in
    let r
    = put_counted t c.args.flow c.args.stamp _ _ _ c.requires.same_weight c.requires.kept c.requires.ahead c.from.ensures
    c.from-place.ensures c.moved_on-self.ensures in
    record {
      sized = r.sized;
      some = t.some;
      few = t.few;
      looks = t.looks;
      early = omega arith;
      kept = r.kept;
      on_time = r.on_time;
      summed = r.summed;
    }

pub returns-else-self-gt-LATEST : goal.returns-else-self-gt-LATEST
returns-else-self-gt-LATEST c =
    put_holds c.args.self.now c.args.flow c.args.stamp _ _ _ c.requires.same_weight c.requires.kept c.requires.ahead
    c.from.ensures c.from-place.ensures c.moved_on-self.ensures

-- virtual time stays
pub invariant_of-self-else-not-stays : goal.invariant_of-self-else-not-stays
invariant_of-self-else-not-stays c =
    let t = c.args.self.now in
    let from = c.from-place.ensures in
    let moved
    = put_stays t c.args.flow c.args.stamp _ c.requires.inside c.requires.ahead from (sym c.stays.ensures ∙ c.if-not-stays.false) in
    let r
    = put_counted t c.args.flow c.args.stamp _ _ _ c.requires.same_weight c.requires.kept c.requires.ahead refl from moved in
    record {
      sized = r.sized;
      some = t.some;
      few = t.few;
      looks = t.looks;
      early = t.early;
      kept = r.kept;
      on_time = r.on_time;
      summed = r.summed;
    }

pub returns-else-not-stays : goal.returns-else-not-stays
returns-else-not-stays c =
    let t = c.args.self.now in
    let from = c.from-place.ensures in
    let moved
    = put_stays t c.args.flow c.args.stamp _ c.requires.inside c.requires.ahead from (sym c.stays.ensures ∙ c.if-not-stays.false) in
    put_holds t c.args.flow c.args.stamp _ _ _ c.requires.same_weight c.requires.kept c.requires.ahead refl from moved
