-- What is counted over a list of records.
use Rattle.std.specs.Prelude.{◌≡◌, ℕ, ◌+◌, ◌<◌, Bool, true, cond, List, map, length, Some, None, Option, min, max, count_by, is_none, nat_lt, slice_get, slice_index_or}
use Rattle.std.specs.List.{fold, range_with_len}
use Rattle.record.specs.Accounts.{names, free_sender, forfeited_by}
use Rattle.record.specs.Pairs.{sender_of}
use Rattle.record.specs.declared.Record.{Record}
use Rattle.tally.specs.declared.FlowTally.{FlowTally}

-- 2 ^ 64 - 1, at which a count stays
abbrev pub most_counted : ℕ
most_counted = 18446744073709551615

-- in how many of the records something holds
abbrev pub counted : (Record → Bool) → List Record → ℕ
counted holds records = min (count_by holds records) most_counted

-- a count once one more record is added
abbrev pub once_more : ℕ → Bool → ℕ
once_more count holds = min (count + cond holds 1 0) most_counted

-- the counts of a flow
abbrev pub flow_tally : List Record → ℕ → FlowTally
flow_tally records f =
    record {
      marked = counted (λ r. names r.marked f) records;
      sent = counted (λ r. names (sender_of r.taking) f) records;
      free = counted (λ r. names (free_sender r.taking) f) records;
      forfeited = counted (λ r. names (forfeited_by r.charge r.marked) f) records;
    }

-- and once one more record is added
abbrev pub flow_once_more : FlowTally → ℕ → Record → FlowTally
flow_once_more t f r =
    record {
      marked = once_more t.marked (names r.marked f);
      sent = once_more t.sent (names (sender_of r.taking) f);
      free = once_more t.free (names (free_sender r.taking) f);
      forfeited = once_more t.forfeited (names (forfeited_by r.charge r.marked) f);
    }

-- the most flows that a record is of
abbrev pub most_flows : List Record → ℕ
most_flows records = fold (λ n r. max n r.flow_count) 0 records

-- nothing has been counted of a flow
abbrev pub nothing_counted : FlowTally
nothing_counted = record { marked = 0; sent = 0; free = 0; forfeited = 0 }

-- all counts: of the slots, of those in which nobody sends, of those that mark nobody, and of each of sixteen flows;
-- and the most flows that a record is of
pub record Counts : Type 0 where
  pub slots : ℕ
  pub idle : ℕ
  pub unmarked : ℕ
  pub flow_count : ℕ
  pub flows : List FlowTally

abbrev pub counts_of : List Record → Counts
counts_of records =
    record {
      slots = min (length records) most_counted;
      idle = counted (λ r. is_none (sender_of r.taking)) records;
      unmarked = counted (λ r. is_none r.marked) records;
      flow_count = most_flows records;
      flows = map (flow_tally records) (range_with_len 0 16);
    }

-- records of which these are the counts; and that there are such records
pub record CountsOf (c : Counts) : Type 0 where
  pub records : List Record
  pub are_theirs : c ≡ counts_of records

abbrev pub CountRecords : Counts → Type 0
CountRecords c = ∥ CountsOf c ∥₁

-- One more record is added: each count is one more if the record counts there, and else as it was.
pub record Added (old : Counts) (r : Record) (new : Counts) : Type 0 where
  pub slots : new.slots ≡ once_more old.slots true
  pub idle : new.idle ≡ once_more old.idle (is_none (sender_of r.taking))
  pub unmarked : new.unmarked ≡ once_more old.unmarked (is_none r.marked)
  pub flow_count : new.flow_count ≡ max old.flow_count r.flow_count
  pub flows :
      (f : ℕ) → f < 16
      → slice_index_or new.flows f nothing_counted ≡ flow_once_more (slice_index_or old.flows f nothing_counted) f r

-- the counts of flow f, if a record is of so many flows
abbrev pub held_of_flow : Counts → ℕ → Option FlowTally
held_of_flow c f = cond (nat_lt f c.flow_count) (slice_get c.flows f) None

-- what is told of flow f, of these records
abbrev pub flow_told : List Record → ℕ → Option FlowTally
flow_told records f = cond (nat_lt f (most_flows records)) (Some (flow_tally records f)) None
