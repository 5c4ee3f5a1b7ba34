-- What is left of the slots of an input: the end may still give one answer, the last.
use Rattle.std.proofs.Common.{◌≡◌, ℕ, ◌<◌, List, [], ◌∷◌, ◌++◌, length, Some, Ok, Err, Result, refl, sym, ap, ◌∙◌, arith}
use Rattle.std.specs.Iterator.{Drains}
use Rattle.fault.specs.Faults.{run_number}
use Rattle.fault.specs.declared.RunFault.{RunFault}
use Rattle.record.specs.Layout.{record_bytes}
use Rattle.record.specs.declared.Record.{Record}
use Rattle.runner.specs.Output.{in_front_of, refusal_bytes, refused_by}
use Rattle.runner.specs.Slots.{NextSlot, answers_outcome, most_left, slots_to_come, stage_left}
use Rattle.runner.specs.ToCome.{IsDone, stage_to_come}
use Rattle.runner.specs.declared.slots.Slots.{Slots}
use Rattle.runner.specs.declared.stage.Stage.{Stage}
use Rattle.runner.specs.declared.stage.Stage.TheVariants.{Table, LongTable, Events, Over}
use Rattle.runner.proofs.Stopped.{some_refusal, stopped_if_nothing_comes}

-- a run that may still be refused has not stopped
still_going : (s : Stage) (rest : List ℕ) (e : RunFault) → stage_to_come s rest ≡ refused_by e → stage_left s ≡ 1
still_going (Table t) rest e h = refl
still_going (LongTable t) rest e h = refl
still_going (Events t) rest e h = refl
still_going Over rest e h = absurd (some_refusal e (sym h))

pub fewer_at_the_end :
    (old new : Slots) (e : RunFault)
    → slots_to_come old ≡ refused_by e
    → IsDone new.run
    → length new.rest.now < 1
    → most_left new < most_left old
fewer_at_the_end old new e refused done none =
    let going : stage_left old.run.stage ≡ 1 = still_going old.run.stage old.rest.now e refused in
    let over : stage_left new.run.stage ≡ 0 = ap stage_left (stopped_if_nothing_comes new.run.stage done) in
    omega arith

-- all that the slots give is all that is to come of them
pub all_slots :
    (answers : List (Result Record RunFault)) (s : Slots)
    → Drains NextSlot s answers
    → answers_outcome answers ≡ slots_to_come s
all_slots [] s h = sym (ap slots_to_come h.1.1 ∙ h.1.2.0)
all_slots (Ok r ∷ more) s h =
    let step = h.1.1 in
    ap (in_front_of (record_bytes r)) (all_slots more step.0 (h.0, (h.1.0, step.2, h.1.2))) ∙ sym step.1
all_slots (Err e ∷ more) s h =
    let step = h.1.1 in
    let rest = all_slots more step.0 (h.0, (h.1.0, step.2, h.1.2)) ∙ step.1.1 in
    ap (λ x. record { written = refusal_bytes (run_number e) ++ x.written; refused = Some e }) rest ∙ sym step.1.0
