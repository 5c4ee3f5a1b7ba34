-- What is made of a table.
use Rattle.std.proofs.Common.{◌≡◌, ℕ, ◌+◌, ◌<◌, List, [], ◌∷◌, map, length, get_or, take, None, sym, refl, ap, ◌∙◌, subst, arith}
use Rattle.std.proofs.lemmas.List.{get_or-map}
use Rattle.reference.specs.Flows.{sum}
use Rattle.table.specs.Layout.{kind_of, lookahead_of, flow_lines}
use Rattle.table.specs.Lines.{no_line, weights_sum}
use Rattle.table.specs.declared.line.Kind.TheVariants.{Tags}
use Rattle.table.specs.declared.line.Line.{Line}
use Rattle.table.specs.declared.Table.{Table}
use Rattle.table.proofs.InRange.{flow_lines_length, weight_in_range, delay_weight_in_range}
use Rattle.tag_rule.specs.declared.stamp.Stamp.{Stamp}
use Rattle.tag_rule.specs.Rule.{no_stamp, stamp_at, fresh, lowest, time_after}
use Rattle.tag_rule.specs.Tags.{with_lookahead, later, seen, weight_of, advance, Kept, KeptBelow}
use Rattle.tags.specs.View.{table_clock}
use Rattle.tag_rule.proofs.Laws.{later_none}
use Rattle.tags.specs.Held.{front_at}

none_due : (ls : List Line) → lowest (map fresh ls) ≡ None
none_due [] = refl
none_due (l ∷ ls) = none_due ls

same_sum : (ls : List Line) → weights_sum ls ≡ sum weight_of (map fresh ls)
same_sum [] = refl
same_sum (l ∷ ls) = ap (λ n. l.weight + n) (same_sum ls)

-- the first n stamps of zs, fresh from the lines of the table t
module _ (t : Table) (n p : ℕ) (zs : List Stamp) (e : n ≡ t.flow_count) (q : p ≡ lookahead_of t)
    (made : take t.flow_count zs ≡ map fresh (flow_lines t)) where
  counted : n ≡ length (flow_lines t)
  counted = e ∙ sym (flow_lines_length t)

  fresh_front : take n zs ≡ map fresh (flow_lines t)
  fresh_front = ap (λ m. take m zs) e ∙ made

  fresh_flow : (k : ℕ) → k < n → stamp_at zs k ≡ fresh (get_or (flow_lines t) k no_line)
  fresh_flow k l =
      sym (front_at zs n k l)
      ∙ ap (λ ss. stamp_at ss k) fresh_front
      ∙ get_or-map fresh (flow_lines t) k no_line no_stamp (omega (arith, counted))

  pub fresh_kept : kind_of t ≡ Tags → KeptBelow p zs n
  fresh_kept kind k l =
      let w = weight_in_range t k (omega (arith, counted)) in
      let d = delay_weight_in_range t kind k (omega (arith, counted)) in
      subst (Kept p) (sym (fresh_flow k l)) (w.0, w.1, d.0, d.1, omega arith)

  -- the same as they are seen from virtual time 0
  pub fresh_seen_kept : kind_of t ≡ Tags → KeptBelow p (map (later 0) zs) n
  fresh_seen_kept kind = subst (λ ss. KeptBelow p ss n) (sym (later_none zs)) (fresh_kept kind)

  pub fresh_on_time : advance (take n zs) ≡ 0
  fresh_on_time = ap advance fresh_front ∙ ap (time_after 0) (none_due (flow_lines t))

  pub fresh_summed : weights_sum (flow_lines t) ≡ sum weight_of (take n zs)
  fresh_summed = same_sum (flow_lines t) ∙ ap (sum weight_of) (sym fresh_front)

  pub fresh_held : with_lookahead p (take n zs) ≡ seen (table_clock t)
  fresh_held =
      ap (with_lookahead p) (fresh_front ∙ sym (later_none (map fresh (flow_lines t))))
      ∙ ap (λ m. with_lookahead m (seen (table_clock t)).stamps) q

  pub fresh_seen_held : with_lookahead p (map (later 0) (take n zs)) ≡ seen (table_clock t)
  fresh_seen_held = ap (with_lookahead p) (later_none (take n zs)) ∙ fresh_held
