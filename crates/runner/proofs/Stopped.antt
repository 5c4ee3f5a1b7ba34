-- A run has stopped if nothing can come of it any more.
use Rattle.std.proofs.Common.{◌≡◌, ℕ, Bool, true, false, cond, List, [], ◌∷◌, ◌++◌, Ok, refl, sym, ap, ◌∙◌, nat_lt}
use Rattle.std.proofs.lemmas.List.{append-nil}
use Rattle.cell_rules.specs.Rules.{State}
use Rattle.fault.specs.declared.CreationFault.TheVariants.{Table as OfTable}
use Rattle.fault.specs.declared.RunFault.{RunFault}
use Rattle.fault.specs.declared.RunFault.TheVariants.{Creation}
use Rattle.table_reference.specs.View.{own}
use Rattle.runner.specs.EventsView.{held}
use Rattle.runner.specs.Output.{cut_event, cut_table, events, nothing_more, outcome_of, refused_by, unknown_event}
use Rattle.runner.specs.Parsing.{begun_bytes}
use Rattle.runner.specs.ToCome.{stage_to_come}
use Rattle.runner.specs.declared.begun.Begun.{Begun}
use Rattle.runner.specs.declared.begun.Begun.TheVariants.{Nothing, Arrival, ArrivalFor, Phase, PhaseWith}
use Rattle.runner.specs.declared.stage.Stage.{Stage}
use Rattle.runner.specs.declared.stage.Stage.TheVariants.{Table, LongTable, Events, Over}
use Rattle.runner.proofs.Tables.{cut_table_refused}

pub some_refusal : (e : RunFault) → refused_by e ≡ nothing_more → ⊥
some_refusal e h = let w = ap (λ x. x.written) h in cc

some_refusal_or_other : (w : Bool) (d e : RunFault) → cond w (refused_by d) (refused_by e) ≡ nothing_more → ⊥
some_refusal_or_other true d e h = some_refusal d h
some_refusal_or_other false d e h = some_refusal e h

-- an event may be cut short, or be none
some_event_refused :
    (s : State own) (b : Begun) → ((rest : List ℕ) → events own (Ok s) (begun_bytes b ++ rest) ≡ nothing_more) → ⊥
some_event_refused s Nothing h = some_refusal unknown_event (h (0 ∷ []))
some_event_refused s Arrival h = some_refusal cut_event (h [])
some_event_refused s (ArrivalFor f) h = some_refusal cut_event (h [])
some_event_refused s Phase h = some_refusal cut_event (h [])
some_event_refused s (PhaseWith m) h = some_refusal cut_event (h [])

pub stopped_if_nothing_comes : (s : Stage) → ((rest : List ℕ) → stage_to_come s rest ≡ nothing_more) → s ≡ Over
stopped_if_nothing_comes (Table t) h =
    absurd
    (some_refusal cut_table
    (sym (cut_table_refused t.bytes.items t.cut) ∙ ap outcome_of (sym (append-nil t.bytes.items)) ∙ h []))
stopped_if_nothing_comes (LongTable t) h =
    absurd (some_refusal_or_other (nat_lt 0 t.left) cut_table (Creation (OfTable t.fault)) (h []))
stopped_if_nothing_comes (Events e) h = absurd (some_event_refused (held e) e.begun h)
stopped_if_nothing_comes Over h = refl
