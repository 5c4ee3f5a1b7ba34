use Rattle.std.proofs.Common.{◌≡◌, true, sym, subst, arith}
use Rattle.reference.specs.Meaning.{SameNumbers}
use Rattle.rounds.specs.Rounds.{entered_below}
use Rattle.rounds.proofs.Entering.{entered_numbers, entered_due}
use Rattle.rounds.proofs.enter_all.Goals as goal

pub returns : goal.returns
returns g c =
    let M = g.R.Reference.meaning in
    let L = g.met.R.Reference.lawful in
    let h = g.R.Reference.held c.args.reference.now in
    let k = g.R.Reference.held c.loop-flow.reference in
    let sound = g.met.R.Reference.sound c.args.reference.now in
    let all : c.loop-flow.flow ≡ M.flows h = omega arith in
    let e : k ≡ entered_below M h (M.flows h) = cc in
    record {
      after = e;
      due =
          λ f l. subst (λ (z : M.Held). M.due z f ≡ true) (sym e) (entered_due M L h sound (M.flows h) f (omega arith) l);
      numbers = subst (SameNumbers M h) (sym e) (entered_numbers M L h sound (M.flows h));
    }
