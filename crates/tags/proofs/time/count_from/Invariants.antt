use Rattle.std.proofs.Common.{◌≡◌, ◌++◌, map, length, take, drop}
use Rattle.tag_rule.specs.Tags.{later}
use Rattle.tags.proofs.time.count_from.Given as goal

-- so many stamps are counted from there
abbrev pub invariant-loop-stamp : goal.invariant-loop-stamp
invariant-loop-stamp l =
    (length l.stamp-items ≡ length l.fn.stamps)
    × (l.stamp-items ≡ map (later l.time) (take l.stamp-index l.fn.stamps) ++ drop l.stamp-index l.fn.stamps)
