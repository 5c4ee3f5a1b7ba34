-- What a round robin of the code holds.
use Rattle.std.specs.Prelude.{take}
use Rattle.round_robin.specs.declared.RoundRobin.{RoundRobin}
use Rattle.round_robin_rule.specs.Rule.{Robin, pointing_at}

-- the quotas of the flows that there are, and the pointer
abbrev pub robin_held : RoundRobin → Robin
robin_held r = pointing_at r.pointer (take r.count r.quotas)
