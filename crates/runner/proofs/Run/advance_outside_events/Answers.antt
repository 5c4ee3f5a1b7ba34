use Rattle.std.proofs.Common.{◌∷◌, [], ◌++◌, Ok, Err, ◌∙◌, sym, ap, subst}
use Rattle.std.proofs.lemmas.Result.{err_from_is_err_and}
use Rattle.runner.specs.EventsView.{Gives, events_to_come}
use Rattle.runner.specs.ToCome.{StageBehind, to_come, stage_to_come}
use Rattle.runner.proofs.Advances.{long_table_refused, table_goes_on, table_refused}
use Rattle.runner.proofs.Run.advance_outside_events.Goals as goal

pub returns-in_err-self-in-Table-clause-gives : goal.returns-in_err-self-in-Table-clause-gives
returns-in_err-self-in-Table-clause-gives c =
    let p = err_from_is_err_and c.from_residual.result c.from_residual.ensures.1 in
    let e = c.in_err-self-in-Table.field-0.0 in
    let behind = subst (λ t. StageBehind (t.bytes.items ++ c.args.byte ∷ []) (Err e)) c.take.ensures.value c.in_err-self-in-Table.ensures.behind in
    subst (Gives (λ rest. to_come c.args.self.now (c.args.byte ∷ rest)) _) (sym p.1)
    (table_refused c.args.self.now c.args.byte e p.0 p.2 c.in-Table.table c.in-Table.is behind)

pub returns-in_err-pass-in-LongTable-clause-gives : goal.returns-in_err-pass-in-LongTable-clause-gives
returns-in_err-pass-in-LongTable-clause-gives c =
    let p = err_from_is_err_and c.from_residual-in_err-pass-in-LongTable.result c.from_residual-in_err-pass-in-LongTable.ensures.1 in
    subst (Gives (λ rest. to_come c.args.self.now (c.args.byte ∷ rest)) _) (sym p.1)
    (long_table_refused c.args.self.now c.args.byte c.in_err-pass-in-LongTable.field-0.0 p.0 p.2 c.in-LongTable.table c.pass.new.self c.in-LongTable.is
    c.in_err-pass-in-LongTable.ensures.passed)

pub returns-in_ok-pass-in-LongTable-clause-gives : goal.returns-in_ok-pass-in-LongTable-clause-gives
returns-in_ok-pass-in-LongTable-clause-gives c =
    λ rest.
    ap (λ s. stage_to_come s (c.args.byte ∷ rest)) c.in-LongTable.is ∙ c.in_ok-pass-in-LongTable.ensures.passed c.args.byte rest

pub returns-in_ok-self-in-Table-clause-gives : goal.returns-in_ok-self-in-Table-clause-gives
returns-in_ok-self-in-Table-clause-gives c =
    let s = c.in_ok-self-in-Table.field-0 in
    let behind = subst (λ t. StageBehind (t.bytes.items ++ c.args.byte ∷ []) (Ok s)) c.take.ensures.value c.in_ok-self-in-Table.ensures.behind in
    table_goes_on c.args.self.now c.args.byte c.in-Table.table s c.in-Table.is behind

pub returns-in-Events-clause-gives : goal.returns-in-Events-clause-gives
returns-in-Events-clause-gives c =
    subst (λ s. Gives (λ rest. stage_to_come s (c.args.byte ∷ rest)) (events_to_come c.push.new.self) c.push.result) (sym c.in-Events.is) c.push.ensures

pub returns-in-Over-clause-gives : goal.returns-in-Over-clause-gives
returns-in-Over-clause-gives c =
    λ rest. ap (λ s. stage_to_come s (c.args.byte ∷ rest)) c.in-Over.is ∙ sym (ap (λ s. stage_to_come s rest) c.in-Over.is)
