use Rattle.std.proofs.Common.{◌≡◌, ◌≤◌, true, MatchOption, arith, sym, subst}
use Rattle.std.proofs.lemmas.Grind.{common_steps}
use Rattle.table.specs.Lines.{line_fits}
use Rattle.table.specs.Layout.{line_of}
use Rattle.table.proofs.Reading.{line_told_fits}
use Rattle.table.proofs.Table.line.Goals as goal

pub returns : goal.returns
returns c =
    let t = c.args.self.now in
    let exact : c.copied.result ≡ line_of t c.args.flow = grind (arith, common_steps) in
    record {
      exact = exact;
      fits =
          subst (λ o. MatchOption o (t.flow_count ≤ c.args.flow) (λ l. line_fits t.kind l ≡ true)) (sym exact)
          (line_told_fits t c.args.flow);
    }
