-- A past goes on: with one more call it leads to what that call leaves, and is fair.
use Rattle.std.proofs.Common.{sym, subst, ℕ, ◌<◌, Some, None, Option, IfSome, ◌≡◌, List, [], ◌∷◌, ◌++◌, length, refl, ap, ◌∙◌}
use Rattle.std.proofs.Math.Logic.{∥∥₁_map, ∥∥₁_elim}
use Rattle.std.specs.Coded.{Coded-set, coded_ℕ}
use Rattle.reference.specs.Meaning.{Meaning, Lawful}
use Rattle.table.specs.declared.line.Line.{Line}
use Rattle.cell_rules.specs.Rules.{State, created}
use Rattle.fairness.specs.Past.{Call, Answer, Which, step, after, answers}
use Rattle.fairness.specs.Past.Which.{cell}
use Rattle.fairness.specs.PastOf.{PastOf, HasPast, FairFromEveryPast}
use Rattle.fairness.proofs.Fair.{fair_in_every_past}

module _ (M : Meaning) where
  -- with one more call, it leads to what that call leaves, and its last answer is that call's
  after_one_more :
      (w : Which) (calls : List Call) (call : Call) (s : State M)
      → after M w s (calls ++ call ∷ []) ≡ (step M w (after M w s calls) call).0
  after_one_more w [] call s = refl
  after_one_more w (c ∷ calls) call s = after_one_more w calls call (step M w s c).0

  answers_one_more :
      (w : Which) (calls : List Call) (call : Call) (s : State M)
      → answers M w s (calls ++ call ∷ []) ≡ answers M w s calls ++ (step M w (after M w s calls) call).1 ∷ []
  answers_one_more w [] call s = refl
  answers_one_more w (c ∷ calls) call s = ap (λ rest. (step M w s c).1 ∷ rest) (answers_one_more w calls call (step M w s c).0)

  module _ (L : Lawful M) (s : State M) (call : Call) (t : State M) (answer : Answer M) (is_step : step M cell s call ≡ (t, answer)) where
    leads_on : (p : PastOf M s) → after M cell (created M p.before p.lines) (p.calls ++ call ∷ []) ≡ t
    leads_on p =
        after_one_more cell p.calls call (created M p.before p.lines)
        ∙ ap (λ x. (step M cell x call).0) p.leads_here
        ∙ ap (λ x. x.0) is_step

    goes_on : PastOf M s → PastOf M t
    goes_on p =
        record {
          before = p.before;
          lines = p.lines;
          calls = p.calls ++ call ∷ [];
          sound = p.sound;
          as_many_flows = p.as_many_flows;
          leads_here = leads_on p;
        }

    pub has_past_on : HasPast M s → HasPast M t
    has_past_on h = ∥∥₁_map h goes_on

    pub fairly_on : FairFromEveryPast M s call t answer
    fairly_on p =
        record {
          leads_on = leads_on p;
          answered =
              answers_one_more cell p.calls call (created M p.before p.lines)
              ∙ ap (λ x. answers M cell (created M p.before p.lines) p.calls ++ (step M cell x call).1 ∷ []) p.leads_here
              ∙ ap (λ x. answers M cell (created M p.before p.lines) p.calls ++ x.1 ∷ []) is_step;
          fair = fair_in_every_past M L p.before p.lines (p.calls ++ call ∷ []) p.sound p.as_many_flows;
        }

  -- a new cell has the past in which nothing was called
  pub new_has_past : (h : M.Held) (lines : List Line) → M.Sound h → length lines ≡ M.flows h → HasPast M (created M h lines)
  new_has_past h lines sound as_many =
      ∣ record { before = h; lines = lines; calls = []; sound = sound; as_many_flows = as_many; leads_here = refl } ∣₁

-- a cell that has a past has as many flows as its reference, and the reference marks one of them
module _ (M : Meaning) (L : Lawful M) (s : State M) where
  flows_agree_by : PastOf M s → length s.rows ≡ M.flows s.held
  flows_agree_by p =
      let fair = fair_in_every_past M L p.before p.lines p.calls p.sound p.as_many_flows in
      subst (λ x. length x.rows ≡ M.flows x.held) p.leads_here
      (fair.as_many_flows cell ∙ sym (fair.reference_tells_the_same cell).flows)

  flows_agree : HasPast M s → length s.rows ≡ M.flows s.held
  flows_agree h = ∥∥₁_elim h (Coded-set coded_ℕ _ _) flows_agree_by

  mark_inside : (m : Option ℕ) → M.marks s.held ≡ m → HasPast M s → M.Sound s.held → IfSome m (λ f. f < length s.rows)
  mark_inside None e h sound = tt
  mark_inside (Some f) e h sound =
      subst (λ n. f < n) (sym (flows_agree h)) (L.only_flows_are_due s.held f sound (L.marked_is_due s.held f sound e))

  pub marks_a_flow : HasPast M s → M.Sound s.held → IfSome (M.marks s.held) (λ f. f < length s.rows)
  marks_a_flow = mark_inside (M.marks s.held) refl
