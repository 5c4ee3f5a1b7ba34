use Rattle.std.proofs.Common.{◌<◌, length, take, refl, sym, subst, arith}
use Rattle.std.specs.Io.KnownBytes.{ReadConsumes}
use Rattle.std.specs.declared.io.Error.{Error}
use Rattle.runner.proofs.Progress.{Going, after_a_chunk, after_no_read, at_the_end, at_the_start, end_read, once_over, whatever_is_told}
use Rattle.runner.proofs.streams.run.Goals as goal
use Rattle.runner.proofs.streams.run.Goals.{in-Ok+in_ok-feed-in-Ok+in_ok-flush-in-Ok+else-is_over, in-Err}

pub loop-init : goal.loop-init
loop-init g c =
    at_the_start (g.R.Read.remaining c.args.input.now) (g.W.Write.contents c.args.output.now) c.new-run.result c.new-run.ensures

pub returns-in-Ok-eq0 : goal.returns-in-Ok-eq0
returns-in-Ok-eq0 g c =
    let left = g.R.Read.remaining c.loop.input in
    let rest = g.R.Read.remaining c.read.new.self in
    let contents = g.W.Write.contents in
    let room : 0 < length c.read.new.buf = omega arith in
    let read = subst (λ r. ReadConsumes left rest r c.read.new.buf) c.in-Ok-eq0.is c.read.ensures.bytes in
    let end = end_read Error left rest c.in-Ok-eq0.field-0 c.read.new.buf read c.in-Ok-eq0.field-0-test room in
    whatever_is_told c.flush.result
    (at_the_end (g.R.Read.remaining c.args.input.now) left rest (contents c.args.output.now) (contents c.loop.output) (contents c.finish.new.output)
    (contents c.flush.new.self) c.loop.run c.loop.invariant end.0 end.1 c.in_ok-finish-in-Ok-eq0.ensures c.flush.ensures.bytes)

pub returns-then-is_over : goal.returns-then-is_over
returns-then-is_over g c =
    let contents = g.W.Write.contents in
    let all = g.R.Read.remaining c.args.input.now in
    let rest = g.R.Read.remaining c.read.new.self in
    let old = contents c.args.output.now in
    let new = contents c.flush-in-Ok.new.self in
    let going : Going all rest c.feed.new.self old new =
    after_a_chunk all (g.R.Read.remaining c.loop.input) rest old (contents c.loop.output) (contents c.feed.new.output) new c.loop.run c.feed.new.self
    (take c.in-Ok.count c.read.new.buf) c.loop.invariant c.in-Ok.ensures.bytes.0 c.in_ok-feed-in-Ok.ensures c.in_ok-flush-in-Ok.ensures.bytes in
    once_over all rest old new c.feed.new.self going (c.if-is_over.ensures.0 refl)

pub loop-preserved : goal.loop-preserved
loop-preserved g c =
    let contents = g.W.Write.contents in
    let all = g.R.Read.remaining c.args.input.now in
    let left = g.R.Read.remaining c.loop.input in
    let rest = g.R.Read.remaining c.read.new.self in
    let old = contents c.args.output.now in
    elim c.match-read.branch [
      | in-Ok+in_ok-feed-in-Ok+in_ok-flush-in-Ok+else-is_over w ↦
          subst (λ o. Going all rest c.match-read.run old (contents o)) (sym w.output-is)
          (subst (λ r. Going all rest r old (contents w.flush-in-Ok.new.self)) (sym w.run-is)
          (after_a_chunk all left rest old (contents c.loop.output) (contents w.feed.new.output) (contents w.flush-in-Ok.new.self) c.loop.run
          w.feed.new.self (take w.in-Ok.count c.read.new.buf) c.loop.invariant w.in-Ok.ensures.bytes.0 w.in_ok-feed-in-Ok.ensures
          w.in_ok-flush-in-Ok.ensures.bytes))
      | in-Err w ↦
          subst (λ o. Going all rest c.match-read.run old (contents o)) (sym w.output-is)
          (subst (λ r. Going all rest r old (contents c.loop.output)) (sym w.run-is)
          (after_no_read all left rest old (contents c.loop.output) c.loop.run c.loop.invariant w.in-Err.ensures.bytes))
    ]
