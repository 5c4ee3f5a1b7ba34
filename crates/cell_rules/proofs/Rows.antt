-- The rows of flows: two with the same counts and limits are the same, and one of which nothing has been counted keeps
-- the facts of a flow.
use Rattle.std.proofs.Common.{◌≡◌, ℕ, zero, suc, List, [], ◌∷◌, map, get_or, sym, refl, subst, arith}
use Rattle.table.specs.Lines.{no_line}
use Rattle.table.specs.declared.line.Line.{Line}
use Rattle.cell_rules.specs.declared.row.Row.{Row}
use Rattle.cell_rules.specs.Rules.{at, fresh}
use Rattle.cell_rules.specs.Facts.{Facts, Bounded, KeptRows}

pub row_same :
    (r s : Row)
    → r.arrived ≡ s.arrived → r.marked ≡ s.marked → r.sent ≡ s.sent → r.free ≡ s.free → r.forfeited ≡ s.forfeited
    → r.lead ≡ s.lead → r.lag ≡ s.lag → r.giving ≡ s.giving
    → r.lag_limit ≡ s.lag_limit → r.lead_limit ≡ s.lead_limit
    → r ≡ s
row_same r s arrived marked sent free forfeited lead lag giving lag_limit lead_limit =
    λ i.
    record {
      arrived = arrived i;
      marked = marked i;
      sent = sent i;
      free = free i;
      forfeited = forfeited i;
      lead = lead i;
      lag = lag i;
      giving = giving i;
      lag_limit = lag_limit i;
      lead_limit = lead_limit i;
    }

-- ## Nothing has been counted

pub fresh_at : (lines : List Line) (k : ℕ) → at (map fresh lines) k ≡ fresh (get_or lines k no_line)
fresh_at [] k = refl
fresh_at (l ∷ ls) zero = refl
fresh_at (l ∷ ls) (suc k) = fresh_at ls k

pub fresh_facts : (l : Line) → Facts (fresh l)
fresh_facts l = omega arith

fresh_bounded : (l : Line) → Bounded 0 (fresh l)
fresh_bounded l = omega arith

pub fresh_kept : (lines : List Line) → KeptRows 0 (map fresh lines)
fresh_kept lines =
    record {
      facts = λ f _. subst Facts (sym (fresh_at lines f)) (fresh_facts (get_or lines f no_line));
      bounded = λ f _. subst (Bounded 0) (sym (fresh_at lines f)) (fresh_bounded (get_or lines f no_line));
    }
