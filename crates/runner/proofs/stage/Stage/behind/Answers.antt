use Rattle.std.proofs.Common.{◌≡◌, ◌+◌, ◌≤◌, ◌++◌, length, take, Some, ◌∙◌, sym, ap, subst, arith}
use Rattle.std.proofs.lemmas.List.{take_all}
use Rattle.std.proofs.lemmas.Result.{err_from_is_err_and}
use Rattle.std.specs.Option.{option_map}
use Rattle.octets.specs.BigEndian.{told_length}
use Rattle.table.specs.Refusals.{table_refusal}
use Rattle.runner.specs.Output.{outcome_of, table_fault}
use Rattle.runner.specs.ToCome.{StageBehind}
use Rattle.runner.proofs.Tables.{refused_after}
use Rattle.runner.proofs.stage.Stage.behind.Goals as goal

pub returns-in_err-of-clause-behind : goal.returns-in_err-of-clause-behind
returns-in_err-of-clause-behind c =
    let p = err_from_is_err_and c.from_residual.result c.from_residual.ensures.1 in
    let b = c.args.table.items in
    let whole : length b ≡ told_length b + 2 =
    sym c.len.ensures.value ∙ c.if-len-whole.true ∙ c.whole_bytes-whole.ensures ∙ ap (λ xs. told_length xs + 2) c.deref.ensures.0 in
    let refused =
    ap (λ xs. option_map table_fault (table_refusal xs)) (sym c.deref-then-len-whole.ensures.0)
    ∙ c.in_err-of.ensures
    ∙ ap (λ e. Some e) (sym p.2) in
    subst (StageBehind b) (sym p.1) (λ rest. refused_after b rest p.0 whole refused)

pub returns-clause-behind : goal.returns-clause-behind
returns-clause-behind c =
    let b = c.args.table.items in
    let told : c.whole_bytes-whole.result ≡ told_length b + 2 = c.whole_bytes-whole.ensures ∙ ap (λ xs. told_length xs + 2) c.deref.ensures.0 in
    let long = c.if-whole-gt-MOST_BYTES.true in
    let few : length b ≤ 6 = c.requires.short (omega (arith, told, long)) in
    let header : c.in-Some.header.now ≡ b =
    c.in-Some.ensures.cases.same ∙ ap (take 6) c.deref-2.ensures.0 ∙ take_all 6 b few in
    λ rest. ap (λ xs. outcome_of (xs ++ rest)) (sym header) ∙ c.after.ensures rest
