use Rattle.std.proofs.Common.{◌≡◌, [], take}
use Rattle.reference.specs.Calls.{marks_of, turns_then}
use Rattle.rounds.specs.Rounds.{after_turns}
use Rattle.rounds.proofs.take_turns.Given as goal

abbrev pub invariant-loop-place : goal.invariant-loop-place
invariant-loop-place g l =
    (g.R.Reference.held l.reference
    ≡ after_turns g.R.Reference.meaning (g.R.Reference.held l.initial.reference) l.place-index)
    × (take l.place-index l.marks
    ≡ marks_of g.R.Reference.meaning (g.R.Reference.held l.initial.reference) (turns_then l.place-index []))
