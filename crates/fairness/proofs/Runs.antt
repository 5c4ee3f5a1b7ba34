-- Induction over a past: only arrivals and decisions that are not refused change what a cell holds.
use Rattle.std.proofs.Common.{◌≡◌, ℕ, ◌+◌, Bool, cond, List, [], ◌∷◌, length, Some, None, count_by, Option, refl, ap, ◌∙◌, arith}
use Rattle.std.specs.List.{AllByRecursion}
use Rattle.std.proofs.lemmas.List.Sums.{sum_by-cons}
use Rattle.reference.specs.Meaning.{Meaning}
use Rattle.cell_rules.specs.Rules.{State, Reports, arrived}
use Rattle.fairness.specs.Past.{Call, Decision, Which, refusal, deciding, accepted, unless_refused, after, answers, decisions}
use Rattle.fairness.specs.Past.Call.{arrival, opening, flag, decision}

module _ (M : Meaning) (w : Which) where
  abbrev decisions_from : State M → List Call → List (Decision M)
  decisions_from s calls = decisions M (answers M w s calls)

  -- R relates what is held before a past, what is held after it, and its decisions, if it does so call by call.
  record Inductive (R : State M → State M → List (Decision M) → Type 0) : Type 0 where
    at_end : (s : State M) → R s s []
    at_arrival :
        (s t : State M) (ds : List (Decision M)) (f n : ℕ) → refusal M s (arrival f n) ≡ None
        → R (arrived M s f n) t ds → R s t ds
    at_decision :
        (s t : State M) (ds : List (Decision M)) (set : Reports)
        → R (deciding M w s set).after t ds → R s t (deciding M w s set ∷ ds)

  module _ (R : State M → State M → List (Decision M) → Type 0) (inductive : Inductive R) where
    by_call :
        (calls : List Call) → ((s : State M) → R s (after M w s calls) (decisions_from s calls))
        → (s : State M) (call : Call) (o : Option ℕ) → refusal M s call ≡ o
        → let x = unless_refused M o s (accepted M w s call) in
        R s (after M w x.0 calls) (decisions M (x.1 ∷ answers M w x.0 calls))
    by_call calls rest s call (Some n) e = rest s
    by_call calls rest s (arrival f n) None e = inductive.at_arrival s _ _ f n e (rest (arrived M s f n))
    by_call calls rest s opening None e = rest s
    by_call calls rest s (flag set f clean) None e = rest s
    by_call calls rest s (decision set) None e = inductive.at_decision s _ _ set (rest (deciding M w s set).after)

    by_calls : (calls : List Call) (s : State M) → R s (after M w s calls) (decisions_from s calls)
    by_calls [] s = inductive.at_end s
    by_calls (call ∷ calls) s = by_call calls (by_calls calls) s call (refusal M s call) refl

  pub slots_counted : (calls : List Call) (s : State M) → (after M w s calls).slot ≡ s.slot + length (decisions_from s calls)
  slots_counted =
      by_calls (λ s t ds. t.slot ≡ s.slot + length ds)
      (record {
        at_end = λ s. omega arith;
        at_arrival = λ s t ds f n e rest. rest;
        at_decision = λ s t ds set rest. omega arith;
      })

  -- I is kept by an arrival, and by a decision of which P holds
  pub record Keeps (I : State M → Type 0) (P : Decision M → Type 0) : Type 0 where
    pub at_arrival : (s : State M) (f n : ℕ) → refusal M s (arrival f n) ≡ None → I s → I (arrived M s f n)
    pub at_decision : (s : State M) (set : Reports) → P (deciding M w s set) → I s → I (deciding M w s set).after

  pub kept :
      (I : State M → Type 0) (P : Decision M → Type 0) → Keeps I P
      → (calls : List Call) (s : State M) → I s → AllByRecursion P (decisions_from s calls) → I (after M w s calls)
  kept I P keeps =
      by_calls (λ s t ds. I s → AllByRecursion P ds → I t)
      (record {
        at_end = λ s i a. i;
        at_arrival = λ s t ds f n e rest i a. rest (keeps.at_arrival s f n e i) a;
        at_decision = λ s t ds set rest i a. rest (keeps.at_decision s set a.0 i) a.1;
      })

  -- ## What is kept whatever is decided

  abbrev pub Always : (State M → Type 0) → Type 0
  Always I = Keeps I (λ d. Unit {0})

  module _ (I : State M → Type 0) (keeps : Always I) where
    pub always : (calls : List Call) (s : State M) → I s → I (after M w s calls)
    always =
        by_calls (λ s t ds. I s → I t)
        (record {
          at_end = λ s i. i;
          at_arrival = λ s t ds f n e rest i. rest (keeps.at_arrival s f n e i);
          at_decision = λ s t ds set rest i. rest (keeps.at_decision s set tt i);
        })

    -- what it gives of a decision, holds of each
    pub each_decision :
        (Q : Decision M → Type 0) → ((s : State M) (set : Reports) → I s → Q (deciding M w s set))
        → (calls : List Call) (s : State M) → I s → AllByRecursion Q (decisions_from s calls)
    each_decision Q gives =
        by_calls (λ s t ds. I s → AllByRecursion Q ds)
        (record {
          at_end = λ s i. tt;
          at_arrival = λ s t ds f n e rest i. rest (keeps.at_arrival s f n e i);
          at_decision = λ s t ds set rest i. (gives s set i, rest (keeps.at_decision s set tt i));
        })

    -- a count that arrivals leave, and that a decision of which p holds raises by 1
    pub counted :
        (count : State M → ℕ) (p : Decision M → Bool)
        → ((s : State M) (f n : ℕ) → refusal M s (arrival f n) ≡ None → count (arrived M s f n) ≡ count s)
        → ((s : State M) (set : Reports) → I s
        → count (deciding M w s set).after ≡ count s + cond (p (deciding M w s set)) 1 0)
        → (calls : List Call) (s : State M) → I s
        → count (after M w s calls) ≡ count s + count_by p (decisions_from s calls)
    counted count p stays grows =
        by_calls (λ s t ds. I s → count t ≡ count s + count_by p ds)
        (record {
          at_end = λ s i. omega arith;
          at_arrival = λ s t ds f n e rest i. rest (keeps.at_arrival s f n e i) ∙ ap (λ c. c + count_by p ds) (stays s f n e);
          at_decision =
              λ s t ds set rest i.
              let later = rest (keeps.at_decision s set tt i) in
              let one = grows s set i in
              let all = sum_by-cons (λ d. cond (p d) 1 0) (deciding M w s set) ds in
              omega arith;
        })
