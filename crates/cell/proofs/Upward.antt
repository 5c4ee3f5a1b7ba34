-- A search of the flows from one of them upward.
use Rattle.std.proofs.Common.{◌≡◌, ℕ, zero, suc, ◌≤◌, min, List, length, None, inl, inr, refl, ◌+◌, ◌-◌, ◌<◌, Bool, true, false, ◌∷◌, Some, Option, sym, ap, ◌∙◌, arith}
use Rattle.std.proofs.lemmas.Bool.{cases_lt}
use Rattle.std.proofs.lemmas.List.{get_or_past}
use Rattle.std.proofs.lemmas.List.Folds.{find-append}
use Rattle.std.specs.List.{find, range_with_len}
use Rattle.std.specs.Option.{option_or}
use Rattle.table.specs.Lines.{no_line}
use Rattle.cell_rules.specs.Rules.{flows_around, fresh, repayable}
use Rattle.cell_rules.specs.declared.row.Row.{Row}

-- the flows from i to n are flow i and those above it
flows_from : (i n : ℕ) → i < n → range_with_len i (n - i) ≡ i ∷ range_with_len (i + 1) (n - (i + 1))
flows_from i n h = let e : n - i ≡ suc (n - (i + 1)) = omega arith in rw e

module _ (test : ℕ → Bool) (i n : ℕ) where
  pub found_here : i < n → test i ≡ true → find test (range_with_len i (n - i)) ≡ Some i
  found_here h t = rw (flows_from i n h, t)

  pub not_here : i < n → test i ≡ false → find test (range_with_len i (n - i)) ≡ find test (range_with_len (i + 1) (n - (i + 1)))
  not_here h t = rw (flows_from i n h, t)

-- A search of n flows from the one that follows flow p, around, ending at p: above p, and else from flow 0 up to p.
module _ (test : ℕ → Bool) (n p : ℕ) where
  pub found_around :
      (x y : Option ℕ)
      → x ≡ find test (range_with_len (p + 1) (n - (p + 1)))
      → y ≡ find test (range_with_len 0 (p + 1 - 0))
      → option_or x y ≡ find test (flows_around n p)
  found_around x y h k =
      let e : p + 1 - 0 ≡ p + 1 = omega arith in
      (λ i. option_or (h i) ((k ∙ ap (λ m. find test (range_with_len 0 m)) e) i))
      ∙ sym (find-append test (range_with_len (p + 1) (n - (p + 1))) (range_with_len 0 (p + 1)))

-- no flow past the last one is lagging and able
module _ (rows : List Row) (clean : ℕ → Bool) where
  none_past_last : (i m : ℕ) → length rows ≤ i → find (repayable rows clean) (range_with_len i m) ≡ None
  none_past_last i zero h = refl
  none_past_last i (suc m) h =
      let more = none_past_last (i + 1) m (omega (arith, h)) in
      rw (get_or_past rows i (fresh no_line) h) more

  pub none_left_of : (i n : ℕ) → min n (length rows) ≤ i → find (repayable rows clean) (range_with_len i (n - i)) ≡ None
  none_left_of i n h =
      elim (cases_lt i n) [
        | inl l ↦ none_past_last i (n - i) (omega (arith, h, l))
        | inr l ↦ let e : n - i ≡ 0 = omega (arith, l) in rw e refl
      ]
