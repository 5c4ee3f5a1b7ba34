use Rattle.std.proofs.Common.{◌∙◌, sym, subst, arith}
use Rattle.std.specs.Io.KnownBytes.{Appends}
use Rattle.std.proofs.lemmas.Bool.Decides.{nat_tests}
use Rattle.runner.proofs.Feeds.{fed_on, fed_to_the_end, fed_to_the_refusal, none_left, where_ok}
use Rattle.runner.proofs.Run.feed.Goals as goal

pub loop-rest-preserved : goal.loop-rest-preserved
loop-rest-preserved g c =
    let contents = g.W.Write.contents in
    let mid = contents c.loop-rest.output in
    let new = contents c.write_all.new.self in
    let grown = subst (Appends mid new) c.deref.ensures.0 (c.in_ok-write_all.ensures).bytes in
    fed_on c.args.self.now c.loop-rest.self c.take-answer.new.self c.args.input.now c.loop-rest.rest.now c.take-answer.result.1.now
    c.take-answer.new.records.items c.take-answer.result.0 (contents c.args.output.now) mid new c.loop-rest.invariant c.take-answer.ensures.taken
    (sym c.is_err.ensures.value ∙ c.if-is_err.false) grown

pub returns-then-is_err : goal.returns-then-is_err
returns-then-is_err g c =
    let contents = g.W.Write.contents in
    let mid = contents c.loop-rest.output in
    let late = contents c.write_all.new.self in
    let grown = subst (Appends mid late) c.deref.ensures.0 (c.in_ok-write_all.ensures).bytes in
    where_ok c.write_refusal.result
    (λ stop. fed_to_the_refusal c.args.self.now c.loop-rest.self c.take-answer.new.self c.args.input.now c.loop-rest.rest.now
    c.take-answer.result.1.now c.take-answer.new.records.items c.take-answer.result.0 (contents c.args.output.now) mid late
    (contents c.write_refusal.new.output) c.loop-rest.invariant c.take-answer.ensures.taken
    (sym c.is_err.ensures.value ∙ c.if-is_err.true) grown stop) c.write_refusal.ensures

pub returns : goal.returns
returns g c =
    let contents = g.W.Write.contents in
    fed_to_the_end c.args.self.now c.loop-rest.self c.args.input.now c.loop-rest.rest.now (contents c.args.output.now) (contents c.loop-rest.output)
    c.loop-rest.invariant
    (none_left c.loop-rest.rest.now (let none = c.loop-rest-test.ensures in grind (arith, nat_tests)))
