-- What a table's own reference means, and what is made of a table.
use Rattle.std.specs.Prelude.{◌≡◌, ◌⊎◌, Some}
use Rattle.std.proofs.Common.{inl, inr}
use Rattle.reference.specs.Meaning.{Meaning}
use Rattle.round_robin_rule.specs.Rule.{Robin, round_robin, start}
use Rattle.round_robin.specs.View.{robin_held}
use Rattle.table.specs.Layout.{kind_of, flow_lines}
use Rattle.table.specs.declared.line.Kind.TheVariants.{RoundRobin as OfRoundRobin}
use Rattle.table.specs.declared.Table.{Table}
use Rattle.tag_rule.specs.Tags.{Tagged, tags}
use Rattle.tags.specs.View.{tags_held, Made as MadeTags}
use Rattle.table_reference.specs.Either.{either}
use Rattle.table_reference.specs.declared.TableReference.{TableReference}
use Rattle.table_reference.specs.declared.TableReference.TheVariants.{RoundRobin, Tags}

abbrev pub own : Meaning
own = either round_robin tags

abbrev pub own_held : TableReference → Robin ⊎ Tagged
own_held (RoundRobin r) = inl (robin_held r)
own_held (Tags t) = inr (tags_held t)

-- of the kind that the table asks for, and at its start; tags follow their rule
abbrev pub Made : Table → TableReference → Type 0
Made t (RoundRobin r) = (kind_of t ≡ OfRoundRobin) × (robin_held r ≡ start (flow_lines t))
Made t (Tags r) = MadeTags t (Some r)
