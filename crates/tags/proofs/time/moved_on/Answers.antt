use Rattle.std.proofs.Common.{sym, ◌∙◌, rules, tests}
use Rattle.std.proofs.lemmas.Iterator.{YieldsList-from_slice, YieldsList-from_map}
use Rattle.std.proofs.lemmas.Iterator.Consumers.{YieldsList-from_filter, YieldsList-at, min_from_yields_List}
use Rattle.std.proofs.lemmas.Iterator.Adapters.{option_map_id}
use Rattle.tag_rule.specs.Tags.{is_due}
use Rattle.tags.proofs.Steps.{tag_of, lowest_is, time_is}
use Rattle.tags.proofs.time.moved_on.Goals as goal

pub returns : goal.returns
returns c =
    c.unwrap_or.ensures
    ∙ time_is c.args.time _ _
    (sym (option_map_id c.min.result)
    ∙ (min_from_yields_List _ c.min.result c.min.ensures.ran
    (YieldsList-from_map _ tag_of
    (YieldsList-at c.map.ensures.source
    (YieldsList-from_filter _ is_due (YieldsList-from_slice c.args.stamps.now cc) c.filter.ensures.closure (λ x r q k. search (rules, tests))))
    c.map.ensures.closure (λ x r q k. search rules))
    ∙ lowest_is c.args.stamps.now))
