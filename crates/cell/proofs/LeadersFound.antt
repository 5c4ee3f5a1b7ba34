-- The leaders that are found among the flows, one flow after another.
use Rattle.std.proofs.Common.{◌≡◌, ℕ, ◌+◌, ◌≤◌, Bool, cond, List, [], ◌∷◌, ◌++◌, map, length, All, Some, None, Option, ap, arith}
use Rattle.std.specs.List.{filter, range_with_len}
use Rattle.std.specs.Option.{option_to_list}
use Rattle.std.proofs.lemmas.Grind.{common_steps}
use Rattle.std.proofs.lemmas.List.{length-map, map-id, map-append}
use Rattle.std.proofs.lemmas.List.Elements.{All-append}
use Rattle.std.proofs.lemmas.List.FromFn.{length-range_with_len, filter_of_map_range_with_len_more}
use Rattle.cell_rules.specs.declared.row.Row.{Row}
use Rattle.cell_rules.specs.Rules.{can_lead_more}
use Rattle.cell.specs.declared.leader.Leader.{Leader}
use Rattle.cell.specs.Leaders.{flow_of, HasItsRow, LeaderOf}

filter_few : (p : ℕ → Bool) (xs : List ℕ) → length (filter p xs) ≤ length xs
filter_few p [] = omega arith
filter_few p (x ∷ xs) = let more = filter_few p xs in grind (arith, common_steps)

filter_next :
    (p : ℕ → Bool) (n : ℕ)
    → filter p (range_with_len 0 (n + 1)) ≡ filter p (range_with_len 0 n) ++ cond (p n) (n ∷ []) []
filter_next p n =
    let more = filter_of_map_range_with_len_more p (λ x. x) 0 n n (omega arith) in
    let e = map-id (range_with_len 0 (n + 1)) in
    let f = map-id (range_with_len 0 n) in
    cc

module _ (rows : List Row) (clean : ℕ → Bool) (n : ℕ) (ls : List Leader) (who : map flow_of ls ≡ filter (can_lead_more rows clean) (range_with_len 0 n)) where
  pub leaders_few : length ls ≤ n
  leaders_few =
      omega
      (arith, length-map ls flow_of, ap length who, filter_few (can_lead_more rows clean) (range_with_len 0 n), length-range_with_len 0 n)

  pub who_more :
      (o : Option Leader) (ks : List Leader) → LeaderOf rows clean n o → ks ≡ ls ++ option_to_list o
      → map flow_of ks ≡ filter (can_lead_more rows clean) (range_with_len 0 (n + 1))
  who_more None ks h e =
      let next = filter_next (can_lead_more rows clean) n in
      let split = map-append flow_of ls [] in
      let k = ap (map flow_of) e in
      let c : cond (can_lead_more rows clean n) (n ∷ []) [] ≡ [] = rw h in
      cc
  who_more (Some l) ks h e =
      let next = filter_next (can_lead_more rows clean) n in
      let split = map-append flow_of ls (l ∷ []) in
      let k = ap (map flow_of) e in
      let same : flow_of l ≡ n = h.1 in
      let c : cond (can_lead_more rows clean n) (n ∷ []) [] ≡ n ∷ [] = let t = h.0 in rw t in
      cc

pub read_more :
    (rows : List Row) (clean : ℕ → Bool) (n : ℕ) (ls : List Leader) (o : Option Leader) (ks : List Leader)
    → LeaderOf rows clean n o → ks ≡ ls ++ option_to_list o → All (HasItsRow rows) ls → All (HasItsRow rows) ks
read_more rows clean n ls o ks h e all =
    rw e (All-append (HasItsRow rows) ls (option_to_list o) all (one o h))
  where
    one : (o : Option Leader) → LeaderOf rows clean n o → All (HasItsRow rows) (option_to_list o)
    one None h = λ k d l. absurd (omega arith)
    one (Some l) h = λ k d l. let z : k ≡ 0 = omega arith in rw z h.2
