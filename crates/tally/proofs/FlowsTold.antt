-- What the counts hold of a flow is what is told of it: a record is of 16 flows at most.
use Rattle.std.proofs.Common.{◌≡◌, ℕ, ◌<◌, ◌≤◌, Bool, true, false, cond, refl, rules, length, List, [], ◌∷◌, map, max, Some, None, Option, nat_lt, slice_get, ap, ◌∙◌, arith}
use Rattle.std.specs.List.{fold, range_with_len}
use Rattle.std.proofs.lemmas.Option.{slice_get-get_or}
use Rattle.std.proofs.lemmas.List.FromFn.{get_or-map-range_with_len, length-map-range_with_len}
use Rattle.record.specs.declared.Record.{Record}
use Rattle.tally.specs.declared.FlowTally.{FlowTally}
use Rattle.tally.specs.Counting.{Counts, flow_tally, most_flows, counts_of, nothing_counted, held_of_flow, flow_told}

few_from : (n : ℕ) (records : List Record) → n ≤ 16 → fold (λ m r. max m r.flow_count) n records ≤ 16
few_from n [] h = h
few_from n (r ∷ records) h =
    let few : r.flow_count ≤ 16 = r.few in few_from (max n r.flow_count) records (omega arith)

held_at :
    (counts : ℕ → FlowTally) (n f : ℕ) → f < n → slice_get (map counts (range_with_len 0 n)) f ≡ Some (counts f)
held_at counts n f inside =
    let all : f < length (map counts (range_with_len 0 n)) = rw (length-map-range_with_len counts 0 n) inside in
    slice_get-get_or (map counts (range_with_len 0 n)) f nothing_counted all
    ∙ ap Some (get_or-map-range_with_len counts 0 n f f nothing_counted inside (omega arith))

same_if : (b : Bool) (x y : Option FlowTally) → (b ≡ true → x ≡ y) → cond b x None ≡ cond b y None
same_if true x y same = same refl
same_if false x y same = refl

below : (f n : ℕ) → nat_lt f n ≡ true → f < n
below f n e = search rules

told_at :
    (counts : ℕ → FlowTally) (n f : ℕ) → n ≤ 16
    → cond (nat_lt f n) (slice_get (map counts (range_with_len 0 16)) f) None ≡ cond (nat_lt f n) (Some (counts f)) None
told_at counts n f few =
    same_if (nat_lt f n) (slice_get (map counts (range_with_len 0 16)) f) (Some (counts f))
    (λ e. let inside : f < n = below f n e in held_at counts 16 f (omega arith))

pub flow_is_told :
    (records : List Record) (c : Counts) (f : ℕ) → c ≡ counts_of records → held_of_flow c f ≡ flow_told records f
flow_is_told records c f so_far =
    ap (λ u. held_of_flow u f) so_far ∙ told_at (flow_tally records) (most_flows records) f (few_from 0 records (omega arith))
