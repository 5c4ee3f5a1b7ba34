-- The rows in their array, of which the first n are those of flows.
use Rattle.std.proofs.Common.{◌≡◌, ℕ, ◌<◌, List, length, take, set, sym, ◌∙◌, ap, length-take, arith}
use Rattle.std.proofs.Math.Seq.{take-set-lt}
use Rattle.std.proofs.lemmas.List.{get_or-take}
use Rattle.table.specs.Lines.{no_line}
use Rattle.cell_rules.specs.declared.row.Row.{Row}
use Rattle.cell_rules.specs.Rules.{at, fresh}

module _ (n : ℕ) (rows : List Row) (f : ℕ) (h : f < length (take n rows)) where
  below : f < n
  below = omega (arith, length-take n rows)

  pub front_row : at (take n rows) f ≡ at rows f
  front_row = get_or-take n rows f (fresh no_line) below

  -- a row that is made of the one before
  pub front_set : (g : Row → Row) → take n (set rows f (g (at rows f))) ≡ set (take n rows) f (g (at (take n rows) f))
  front_set g = take-set-lt n rows f (g (at rows f)) below ∙ ap (λ r. set (take n rows) f (g r)) (sym front_row)
