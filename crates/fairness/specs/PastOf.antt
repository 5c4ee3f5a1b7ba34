-- The pasts that lead to a cell, and what one more call makes of them.
use Rattle.std.specs.Prelude.{◌≡◌, List, [], ◌∷◌, ◌++◌, length}
use Rattle.reference.specs.Meaning.{Meaning}
use Rattle.table.specs.declared.line.Line.{Line}
use Rattle.cell_rules.specs.Rules.{State, created}
use Rattle.fairness.specs.Past.{Call, Answer, after, answers}
use Rattle.fairness.specs.Past.Which.{cell}
use Rattle.fairness.specs.Fairness.{Fair}

module _ (M : Meaning) where
  -- a past of a cell that holds s: what its reference held before creation, the lines of its table, and the calls since
  pub record PastOf (s : State M) : Type 0 where
    pub before : M.Held
    pub lines : List Line
    pub calls : List Call
    pub sound : M.Sound before
    pub as_many_flows : length lines ≡ M.flows before
    pub leads_here : after M cell (created M before lines) calls ≡ s

  -- there is such a past
  abbrev pub HasPast : State M → Type 0
  HasPast s = ∥ PastOf s ∥₁

  -- a past of s with one more call: it leads to t, that call is answered so, and the claim holds of it
  pub record FairlyContinued (s : State M) (past : PastOf s) (call : Call) (t : State M) (answer : Answer M) : Type 0 where
    pub leads_on : after M cell (created M past.before past.lines) (past.calls ++ call ∷ []) ≡ t
    pub answered :
        answers M cell (created M past.before past.lines) (past.calls ++ call ∷ [])
        ≡ answers M cell (created M past.before past.lines) past.calls ++ answer ∷ []
    pub fair : Fair M past.before past.lines (past.calls ++ call ∷ [])

  -- whichever past it was
  abbrev pub FairFromEveryPast : State M → Call → State M → Answer M → Type 0
  FairFromEveryPast s call t answer = (past : PastOf s) → FairlyContinued s past call t answer
