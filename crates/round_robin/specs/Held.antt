-- Proofs, for the laws: what a round robin holds is a state that the reference can be in.
use Rattle.std.specs.Prelude.{◌≡◌, ℕ, ◌<◌, length, take}
use Rattle.std.proofs.Common.{arith}
use Rattle.std.proofs.lemmas.List.{get_or-take}
use Rattle.reference.proofs.Fronts.{front_length, front_all}
use Rattle.round_robin.specs.declared.RoundRobin.{RoundRobin}
use Rattle.round_robin_rule.specs.Rule.{no_quota, quota_at, Kept, Sound}
use Rattle.round_robin.specs.View.{robin_held}

-- What is held, from what the struct keeps.

module _ (r : RoundRobin) where
  pub held_length : length (take r.count r.quotas) ≡ r.count
  held_length = front_length r.quotas r.count r.sized r.few

  pub held_sound : Sound (robin_held r)
  held_sound =
      record {
        some_flows = omega (arith, held_length, r.some);
        few_flows = omega (arith, held_length, r.few);
        points = omega (arith, held_length, r.points);
        kept = front_all r.quotas r.count r.sized r.few Kept no_quota r.kept;
      }

  pub held_at : (f : ℕ) → f < r.count → quota_at (take r.count r.quotas) f ≡ quota_at r.quotas f
  held_at f h = get_or-take r.count r.quotas f no_quota h
