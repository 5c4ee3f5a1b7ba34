-- The base that the numbers of the code are counted from, and virtual time.
use Rattle.std.specs.Prelude.{ℕ, Bool, cond, ◌&&◌, List, nat_lt, nat_eq}
use Rattle.tag_rule.specs.declared.stamp.Stamp.{Stamp}
use Rattle.tag_rule.specs.Rule.{Clock, lowest, time_after}

-- the latest virtual time, counted from the base
abbrev pub latest : ℕ
latest = 1000000000

-- A test by which virtual time v surely stays while a flow's stamp s becomes y, whatever the other flows' stamps are: if
-- the flow was due, another one is at v if this one was past it; if it was not, it is itself at v then.
abbrev pub stays : ℕ → Stamp → Stamp → Bool
stays v s y = cond s.due (nat_lt v s.tag) (y.due && nat_eq y.tag v)

-- other stamps on a clock, whose virtual time moves on to the smallest start tag of the due flows, if there are any
abbrev pub moved_on : Clock → List Stamp → Clock
moved_on c ss = record { stamps = ss; time = time_after c.time (lowest ss); lookahead = c.lookahead }
