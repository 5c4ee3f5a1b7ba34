-- What a question finds of a flow.
use Rattle.std.specs.Prelude.{◌≡◌, ℕ, ◌-◌, ◌<◌, ◌≤◌, length, Some, None}
use Rattle.std.proofs.Common.{ap, arith}
use Rattle.std.proofs.lemmas.Bool.Decides.{nat_tests}
use Rattle.reference.specs.Flows.{others}
use Rattle.reference.proofs.Totals.{sum_split}
use Rattle.tag_rule.specs.declared.stamp.Stamp.{Stamp}
use Rattle.tags.specs.declared.Tags.{Tags}
use Rattle.tag_rule.specs.Rule.{no_stamp, stamp_at}
use Rattle.tag_rule.specs.Tags.{stamp_of, weight_of}
use Rattle.tags.specs.View.{tags_held}
use Rattle.tags.specs.Held.{held_total}

module _ (t : Tags) (f : ℕ) where
  pub stamp_found :
      (s : Stamp) → Some s ≡ stamp_of (tags_held t) f
      → (f < length (tags_held t).stamps) × (s ≡ stamp_at (tags_held t).stamps f)
  stamp_found s e = grind (arith, nat_tests)

  pub none_outside : None ≡ stamp_of (tags_held t) f → length (tags_held t).stamps ≤ f
  none_outside e = grind (arith, nat_tests)

  -- the weight of the others
  pub others_weight :
      (s : Stamp) → Some s ≡ stamp_of (tags_held t) f
      → (s.weight ≤ t.total) × (t.total - s.weight ≡ others weight_of (tags_held t).stamps f)
  others_weight s e =
      let found = stamp_found s e in
      let w : s.weight ≡ (stamp_at (tags_held t).stamps f).weight = ap weight_of found.1 in
      let sums = sum_split weight_of no_stamp (tags_held t).stamps f found.0 in
      let total = held_total t in
      (omega (arith, total, w, sums), omega (arith, total, w, sums))
