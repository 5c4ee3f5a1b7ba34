-- The start, from a table.
use Rattle.std.specs.Prelude.{◌≡◌, ◌+◌, ◌<◌, List, [], ◌∷◌, map, length, take, slice_index_or, refl}
use Rattle.std.proofs.Common.{sym, ap, subst, ◌∙◌, arith}
use Rattle.std.proofs.lemmas.List.{get_or-take, get_or-map}
use Rattle.table.specs.Lines.{no_line, weights_sum}
use Rattle.table.specs.Layout.{flow_lines}
use Rattle.table.specs.declared.line.Line.{Line}
use Rattle.table.specs.declared.Table.{Table}
use Rattle.table.proofs.InRange.{flow_lines_length, weight_in_range}
use Rattle.reference.specs.Flows.{sum}
use Rattle.round_robin_rule.specs.declared.quota.Quota.{Quota}
use Rattle.round_robin_rule.specs.Rule.{no_quota, quota_at, weight_of, fresh, Kept, KeptBelow}

weights_summed : (ls : List Line) → sum weight_of (map fresh ls) ≡ weights_sum ls
weights_summed [] = refl
weights_summed (l ∷ ls) = ap (λ n. l.weight + n) (weights_summed ls)

module _ (t : Table) (qs : List Quota) (e : take t.flow_count qs ≡ map fresh (flow_lines t)) where
  pub start_kept : KeptBelow qs t.flow_count
  start_kept k h =
      let l : k < length (flow_lines t) = omega (arith, flow_lines_length t) in
      let w = weight_in_range t k l in
      let q : quota_at qs k ≡ fresh (slice_index_or (flow_lines t) k no_line) =
      sym (get_or-take t.flow_count qs k no_quota h)
      ∙ ap (λ ms. quota_at ms k) e
      ∙ get_or-map fresh (flow_lines t) k no_line no_quota l in
      subst Kept (sym q) (w.0, w.1, omega arith)

  pub start_summed : weights_sum (flow_lines t) ≡ sum weight_of (take t.flow_count qs)
  start_summed = sym (ap (sum weight_of) e ∙ weights_summed (flow_lines t))
