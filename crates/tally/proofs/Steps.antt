-- What one more record does to the counts.
use Rattle.std.proofs.Common.{◌≡◌, ℕ, ◌+◌, ◌<◌, Bool, true, cond, List, [], ◌∷◌, ◌++◌, map, length, min, max, count_by, is_none, slice_index_or, ap, sym, ◌∙◌, arith, length-append}
use Rattle.std.specs.List.{range_with_len}
use Rattle.std.proofs.Math.Logic.{∥∥₁_map, ∥∥₁_elim}
use Rattle.std.specs.Coded.{Coded-set, coded_ℕ}
use Rattle.std.proofs.lemmas.List.Sums.{sum_by_push, fold_push}
use Rattle.std.proofs.lemmas.List.FromFn.{fill_by_all, get_or-map-range_with_len}
use Rattle.record.specs.Accounts.{names, free_sender, forfeited_by}
use Rattle.record.specs.declared.Record.{Record}
use Rattle.record.specs.Pairs.{sender_of}
use Rattle.tally.specs.declared.FlowTally.{FlowTally}
use Rattle.tally.specs.Counting.{Added, Counts, CountRecords, counted, once_more, flow_once_more, flow_tally, most_counted, counts_of, nothing_counted}

held_once_more : (n b : ℕ) → min (n + b) most_counted ≡ min (min n most_counted + b) most_counted
held_once_more n b = omega arith

counted_once_more :
    (holds : Record → Bool) (records : List Record) (r : Record)
    → once_more (counted holds records) (holds r) ≡ counted holds (records ++ r ∷ [])
counted_once_more holds records r =
    sym
    (ap (λ n. min n most_counted) (sum_by_push (λ x. cond (holds x) 1 0) records r)
    ∙ held_once_more (count_by holds records) (cond (holds r) 1 0))

length_once_more :
    (records : List Record) (r : Record)
    → once_more (min (length records) most_counted) true ≡ min (length (records ++ r ∷ [])) most_counted
length_once_more records r = omega (arith, length-append records (r ∷ []))

module _ (records : List Record) (r : Record) where
  flow_tally_once_more : (f : ℕ) → flow_once_more (flow_tally records f) f r ≡ flow_tally (records ++ r ∷ []) f
  flow_tally_once_more f =
      λ i.
      record {
        marked = counted_once_more (λ x. names x.marked f) records r i;
        sent = counted_once_more (λ x. names (sender_of x.taking) f) records r i;
        free = counted_once_more (λ x. names (free_sender x.taking) f) records r i;
        forfeited = counted_once_more (λ x. names (forfeited_by x.charge x.marked) f) records r i;
      }

  flows_once_more :
      (old new : List FlowTally) → old ≡ map (flow_tally records) (range_with_len 0 16) → length new ≡ 16
      → ((f : ℕ) → f < 16 → slice_index_or new f nothing_counted ≡ flow_once_more (slice_index_or old f nothing_counted) f r)
      → new ≡ map (flow_tally (records ++ r ∷ [])) (range_with_len 0 16)
  flows_once_more old new so_far sized each =
      fill_by_all (flow_tally (records ++ r ∷ [])) new 16 nothing_counted sized
      (λ f h.
      each f h
      ∙ ap (λ t. flow_once_more t f r)
      (ap (λ flows. slice_index_or flows f nothing_counted) so_far
      ∙ get_or-map-range_with_len (flow_tally records) 0 16 f f nothing_counted h (omega arith))
      ∙ flow_tally_once_more f)

  -- what held the counts so far holds then those of all
  pub counts_once_more :
      (old new : Counts) → old ≡ counts_of records → length new.flows ≡ length old.flows → Added old r new
      → new ≡ counts_of (records ++ r ∷ [])
  counts_once_more old new so_far sized added =
      λ i.
      record {
        slots = (added.slots ∙ ap (λ c. once_more c.slots true) so_far ∙ length_once_more records r) i;
        idle =
            (added.idle
            ∙ ap (λ c. once_more c.idle (is_none (sender_of r.taking))) so_far
            ∙ counted_once_more (λ x. is_none (sender_of x.taking)) records r)
            i;
        unmarked =
            (added.unmarked
            ∙ ap (λ c. once_more c.unmarked (is_none r.marked)) so_far
            ∙ counted_once_more (λ x. is_none x.marked) records r)
            i;
        flow_count =
            (added.flow_count
            ∙ ap (λ c. max c.flow_count r.flow_count) so_far
            ∙ sym (fold_push (λ n x. max n x.flow_count) 0 records r))
            i;
        flows =
            flows_once_more old.flows new.flows (ap (λ c. c.flows) so_far) (sized ∙ ap (λ c. length c.flows) so_far) added.flows
            i;
      }

-- counts that are of some records have sixteen flows, and with one more record are of some still
module _ (old : Counts) (h : CountRecords old) where
  pub sixteen_flows : length old.flows ≡ 16
  sixteen_flows = ∥∥₁_elim h (Coded-set coded_ℕ _ _) (λ p. ap (λ c. length c.flows) p.are_theirs)

  pub one_more_record :
      (new : Counts) (r : Record) → length new.flows ≡ length old.flows → Added old r new → CountRecords new
  one_more_record new r sized added =
      ∥∥₁_map h
      (λ p.
      record { records = p.records ++ r ∷ []; are_theirs = counts_once_more p.records r old new p.are_theirs sized added })
