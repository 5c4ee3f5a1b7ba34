-- What a tally of the code holds.
use Rattle.tally.specs.Counting.{Counts}
use Rattle.tally.specs.declared.Tally.{Tally}

abbrev pub tally_held : Tally → Counts
tally_held t =
    record {
      slots = t.slots;
      idle = t.idle;
      unmarked = t.unmarked;
      flow_count = t.flow_count;
      flows = t.flows;
    }
