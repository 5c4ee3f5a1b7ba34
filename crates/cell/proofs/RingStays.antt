-- A ring that finds no flow stays as it is.
use Rattle.std.proofs.Common.{◌≡◌, ℕ, ◌-◌, Bool, true, false, cond, List, length, Some, None, Option, refl}
use Rattle.std.specs.List.{find}
use Rattle.cell_rules.specs.declared.row.Row.{Row}
use Rattle.cell_rules.specs.Rules.{Ring, ring_finds, finds_again, moved_to, repayable, flows_around}

module _ (rows : List Row) (clean : ℕ → Bool) (ring : Ring) where
  by :
      (again : Bool) (next : Option ℕ) (x : Option ℕ × Ring)
      → x ≡ cond again (Some ring.pointer, record { pointer = ring.pointer; remainder = ring.remainder - 1 }) (moved_to rows clean ring next)
      → x.0 ≡ None → x.1 ≡ ring
  by true next x e h = cc
  by false None x e h = cc
  by false (Some f) x e h = cc

  pub none_found : (ring_finds rows clean ring).0 ≡ None → (ring_finds rows clean ring).1 ≡ ring
  none_found =
      by (finds_again rows clean ring) (find (repayable rows clean) (flows_around (length rows) ring.pointer))
      (ring_finds rows clean ring) refl
