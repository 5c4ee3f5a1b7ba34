use Rattle.std.proofs.Common.{◌≡◌, max, is_none, rules, ap, ◌∙◌, arith}
use Rattle.record.specs.Pairs.{sender_of}
use Rattle.tally.specs.Counting.{Added, Counts, once_more, nothing_counted}
use Rattle.tally.specs.View.{tally_held}
use Rattle.tally.proofs.Steps.{counts_once_more, one_more_record, sixteen_flows}
use Rattle.tally.proofs.Tally.add.Goals as goal
use Rattle.tally.proofs.Tally.add.Goals.{After-max}

-- the counts that are left
abbrev left : After-max → Counts
left c =
    record {
      slots = c.once_more.result;
      idle = c.once_more-2.result;
      unmarked = c.once_more-3.result;
      flow_count = c.max.result;
      flows = c.add_to_each.new.flows;
    }

added : (c : After-max) → Added (tally_held c.args.self.now) c.args.latest.now (left c)
added c =
    let idle : c.is_none.result ≡ is_none (sender_of c.args.latest.now.taking) = search rules in
    let unmarked : c.is_none-2.result ≡ is_none c.args.latest.now.marked = search rules in
    record {
      slots = c.once_more.ensures;
      idle = c.once_more-2.ensures ∙ ap (once_more c.args.self.now.idle) idle;
      unmarked = c.once_more-3.ensures ∙ ap (once_more c.args.self.now.unmarked) unmarked;
      flow_count = c.max.ensures ∙ ap (max c.args.self.now.flow_count) c.flow_count.ensures;
      flows =
          λ f h.
          let sixteen = sixteen_flows (tally_held c.args.self.now) c.args.self.now.of_records in
          c.add_to_each.ensures f nothing_counted (omega arith);
    }

pub invariant_of-self : goal.invariant_of-self
invariant_of-self c =
    let here = (goal.at.invariant_of-self c).After-max in
    record {
      of_records =
          one_more_record (tally_held c.args.self.now) c.args.self.now.of_records (left here) c.args.latest.now
          c.add_to_each.auto.flows (added here);
    }

pub returns-clause-of_all : goal.returns-clause-of_all
returns-clause-of_all c =
    let here = (goal.at.returns-clause-of_all c).After-max in
    λ records so_far.
    counts_once_more records c.args.latest.now (tally_held c.args.self.now) (left here) so_far c.add_to_each.auto.flows
    (added here)
