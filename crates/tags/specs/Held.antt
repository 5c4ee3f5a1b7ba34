-- Proofs, for the laws: what tags hold is a state that the reference can be in.
use Rattle.std.specs.Prelude.{◌≡◌, ℕ, ◌<◌, List, length, map, take}
use Rattle.std.proofs.Common.{sym, subst, ◌∙◌, arith}
use Rattle.std.specs.List.{AllByRecursion}
use Rattle.std.proofs.lemmas.List.{get_or-take, length-map, take-map}
use Rattle.reference.specs.Flows.{sum}
use Rattle.reference.proofs.Fronts.{front_length, front_all}
use Rattle.reference.proofs.Totals.{sum_map}
use Rattle.tag_rule.specs.declared.stamp.Stamp.{Stamp}
use Rattle.tags.specs.declared.Tags.{Tags}
use Rattle.tag_rule.specs.Rule.{no_stamp, stamp_at}
use Rattle.tag_rule.specs.Tags.{Kept, Sound, later, weight_of}
use Rattle.tag_rule.proofs.VirtualTime.{seen_on_time}
use Rattle.tags.specs.View.{clock_of, tags_held}

-- what the array holds of a flow, its front does
pub front_at : (ss : List Stamp) (n k : ℕ) → k < n → stamp_at (take n ss) k ≡ stamp_at ss k
front_at ss n k h = get_or-take n ss k no_stamp h

-- the array as it is seen from virtual time
abbrev pub seen_stamps : Tags → List Stamp
seen_stamps t = map (later t.time) t.stamps

pub seen_sized : (t : Tags) → length (seen_stamps t) ≡ 16
seen_sized t = length-map t.stamps (later t.time) ∙ t.sized

pub held_front : (t : Tags) → take t.count (seen_stamps t) ≡ (tags_held t).stamps
held_front t = take-map (later t.time) t.count t.stamps

pub held_length : (t : Tags) → length (tags_held t).stamps ≡ t.count
held_length t = length-map (clock_of t).stamps (later t.time) ∙ front_length t.stamps t.count t.sized t.few

pub held_total : (t : Tags) → t.total ≡ sum weight_of (tags_held t).stamps
held_total t = t.summed ∙ sym (sum_map weight_of no_stamp (later t.time) (clock_of t).stamps)

pub held_sound : (t : Tags) → Sound (tags_held t)
held_sound t =
    let e = held_length t in
    record {
      some_flows = omega (arith, e, t.some);
      few_flows = omega (arith, e, t.few);
      looks = t.looks;
      kept =
          subst (AllByRecursion (Kept t.lookahead)) (held_front t)
          (front_all (seen_stamps t) t.count (seen_sized t) t.few (Kept t.lookahead) no_stamp t.kept);
      on_time = seen_on_time t.time (clock_of t).stamps t.on_time;
    }
