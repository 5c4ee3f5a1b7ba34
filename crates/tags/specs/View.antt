-- What a value of the code holds, and what is made of a table.
use Rattle.std.specs.Prelude.{◌≡◌, ℕ, cond, take, Some, None, Option}
use Rattle.table.specs.Layout.{kind_of, lookahead_of, flow_lines}
use Rattle.table.specs.declared.line.Kind.TheVariants.{RoundRobin, Tags as OfTags}
use Rattle.table.specs.declared.Table.{Table}
use Rattle.tags.specs.declared.Tags.{Tags}
use Rattle.tag_rule.specs.declared.entry.Entry.{Entry}
use Rattle.tag_rule.specs.Rule.{Clock, stamp_at, start, eligible, finish_tag}
use Rattle.tag_rule.specs.Tags.{Tagged, seen, Follows}

-- the start tags and the virtual time of a value, counted from its base
abbrev pub clock_of : Tags → Clock
clock_of t = record { stamps = take t.count t.stamps; time = t.time; lookahead = t.lookahead }

-- what a value holds: its start tags less virtual time, wherever its base is
abbrev pub tags_held : Tags → Tagged
tags_held t = seen (clock_of t)

-- the entry of a flow, if it is eligible
abbrev pub entry_of : Clock → ℕ → Option Entry
entry_of c f =
    cond (eligible c.time c.lookahead (stamp_at c.stamps f)) (Some (record { finish = finish_tag (stamp_at c.stamps f); flow = f })) None

-- the clock that a table starts
abbrev pub table_clock : Table → Clock
table_clock t = start (lookahead_of t) (flow_lines t)

-- exactly a table that asks for tags has delay weights; what is made of it holds the start, and follows the rule
abbrev pub Made : Table → Option Tags → Type 0
Made t None = kind_of t ≡ RoundRobin
Made t (Some r) =
    (kind_of t ≡ OfTags) × (tags_held r ≡ seen (table_clock t)) × Follows (table_clock t) (tags_held r)
