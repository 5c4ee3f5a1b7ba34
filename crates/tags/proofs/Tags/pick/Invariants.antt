use Rattle.std.proofs.Common.{◌≡◌, take}
use Rattle.tag_rule.specs.Rule.{entries}
use Rattle.tags.specs.View.{clock_of}
use Rattle.tags.proofs.Tags.pick.Given as goal

-- the entries of the flows so far are found
abbrev pub invariant-loop-flow : goal.invariant-loop-flow
invariant-loop-flow l = l.found.items ≡ entries l.self.time l.self.lookahead 0 (take l.flow (clock_of l.self).stamps)
