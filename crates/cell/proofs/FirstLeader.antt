-- The first of the leaders is the least of their flows.
use Rattle.std.proofs.Common.{◌≡◌, ℕ, suc, Bool, true, false, cond, List, [], ◌∷◌, map, length, get_or, All, Some, None, Option, sym, refl, ap, ◌∙◌, arith}
use Rattle.std.specs.List.{best_of}
use Rattle.std.specs.Option.{option_map}
use Rattle.std.proofs.lemmas.List.{get_or_default, nil_from_length}
use Rattle.std.proofs.lemmas.List.MinMax.{IsFirstBest-from_best_of, IsFirstBest-unique}
use Rattle.order.specs.Least.{LeastAt}
use Rattle.cell_rules.specs.declared.row.Row.{Row}
use Rattle.cell_rules.specs.Rules.{least, leads_less}
use Rattle.cell.specs.declared.leader.Leader.{Leader}
use Rattle.cell.specs.Leaders.{flow_of, HasItsRow, sooner}
use Rattle.cell.specs.Ranks.{sooner_ranks}

module _ (rows : List Row) (clean : ℕ → Bool) where
  sooner_is_less : (x y : Leader) → HasItsRow rows x → HasItsRow rows y → sooner x y ≡ leads_less rows clean (flow_of x) (flow_of y)
  sooner_is_less x y p q = rw (p.0, p.1, q.0, q.1)

  -- the flow of the best leader is the best of the flows
  best_flow :
      (x : Leader) (xs : List Leader) → HasItsRow rows x → All (HasItsRow rows) xs
      → flow_of (best_of sooner x xs) ≡ best_of (leads_less rows clean) (flow_of x) (map flow_of xs)
  best_flow x [] p all = refl
  best_flow x (y ∷ ys) p all = by (sooner y x) refl (best_flow y ys q rest) (best_flow x ys p rest)
    where
      q : HasItsRow rows y
      q = all 0 y (omega arith)

      rest : All (HasItsRow rows) ys
      rest = λ k d l. all (suc k) d (omega arith)

      joined :
          (b : Bool) → sooner y x ≡ b → leads_less rows clean (flow_of y) (flow_of x) ≡ b
          → flow_of (best_of sooner (cond b y x) ys)
          ≡ best_of (leads_less rows clean) (cond b (flow_of y) (flow_of x)) (map flow_of ys)
          → flow_of (best_of sooner x (y ∷ ys)) ≡ best_of (leads_less rows clean) (flow_of x) (map flow_of (y ∷ ys))
      joined b t u e =
          ap (λ a. flow_of (best_of sooner (cond a y x) ys)) t
          ∙ (e ∙ ap (λ a. best_of (leads_less rows clean) (cond a (flow_of y) (flow_of x)) (map flow_of ys)) (sym u))

      by :
          (b : Bool) → sooner y x ≡ b
          → flow_of (best_of sooner y ys) ≡ best_of (leads_less rows clean) (flow_of y) (map flow_of ys)
          → flow_of (best_of sooner x ys) ≡ best_of (leads_less rows clean) (flow_of x) (map flow_of ys)
          → flow_of (best_of sooner x (y ∷ ys)) ≡ best_of (leads_less rows clean) (flow_of x) (map flow_of (y ∷ ys))
      by true t takes keeps =
          let u : leads_less rows clean (flow_of y) (flow_of x) ≡ true = sym (sooner_is_less y x q p) ∙ t in
          joined true t u takes
      by false t takes keeps =
          let u : leads_less rows clean (flow_of y) (flow_of x) ≡ false = sym (sooner_is_less y x q p) ∙ t in
          joined false t u keeps

  pub first_is :
      (xs : List Leader) (place : Option ℕ) (d : Leader) → All (HasItsRow rows) xs → LeastAt sooner xs place
      → option_map (λ i. (get_or xs i d).flow) place ≡ least (leads_less rows clean) (map flow_of xs)
  first_is xs None d all e = sym (ap (λ ls. least (leads_less rows clean) (map flow_of ls)) (nil_from_length xs e))
  first_is [] (Some i) d all b = absurd (omega (arith, b.0))
  first_is (x ∷ xs) (Some i) d all b =
      let m = IsFirstBest-from_best_of sooner_ranks x xs in
      let q : i ≡ m.0 = IsFirstBest-unique sooner_ranks (x ∷ xs) (length (x ∷ xs)) i m.0 x b m.1 in
      let best = best_flow x xs (all 0 x (omega arith)) (λ k d l. all (suc k) d (omega arith)) in
      ap (λ l. Some (flow_of l)) (get_or_default (x ∷ xs) i d x b.0 ∙ (ap (λ k. get_or (x ∷ xs) k x) q ∙ m.2)) ∙ ap (λ f. Some f) best
