use Rattle.std.proofs.Common.{rules, add-one, ◌≡◌, [], length, sym, subst, arith}
use Rattle.std.proofs.lemmas.List.{take_all}
use Rattle.std.specs.List.{AllByRecursion}
use Rattle.reference.specs.Calls.{marks_of, turns_then}
use Rattle.reference.specs.Shares.{HasShare}
use Rattle.reference.proofs.Shares.{gives_shares}
use Rattle.rounds.specs.Rounds.{MarkIsDue}
use Rattle.rounds.proofs.Turns.{marks_more, turns_mark_due, turns_have_share}
use Rattle.rounds.proofs.take_turns.Goals as goal

pub loop-place-preserved : goal.loop-place-preserved
loop-place-preserved g c =
    let i = c.loop-place.place-index in
    let M = g.R.Reference.meaning in
    let h = g.R.Reference.held c.args.reference.now in (
      rw (add-one i) (search rules),
      marks_more M h i c.loop-place.marks _ (omega arith) c.loop-place.invariant.1 (search rules),
    )

pub returns : goal.returns
returns g c =
    let M = g.R.Reference.meaning in
    let L = g.met.R.Reference.lawful in
    let h = g.R.Reference.held c.args.reference.now in
    let sound = g.met.R.Reference.sound c.args.reference.now in
    let n = length c.args.marks.now in
    let all : c.loop-place.place-index ≡ n = omega arith in
    let taken = take_all c.loop-place.place-index c.loop-place.marks (omega arith) in
    let e : c.loop-place.marks ≡ marks_of M h (turns_then n []) = cc in
    record {
      marks = e;
      after = cc;
      marks_due = subst (AllByRecursion (MarkIsDue M h)) (sym e) (turns_mark_due M L h n sound);
      shares = λ f due. subst (HasShare M h f) (sym e) (turns_have_share M L h n f sound due);
      shares_in_any_calls = gives_shares M L h sound;
    }
