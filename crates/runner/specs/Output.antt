-- The outcome of a whole run, for a whole input: the bytes that it writes, and the fault that
-- refuses it, if one does.
use Rattle.std.specs.Prelude.{ℕ, ◌+◌, Bool, cond, ◌&&◌, ◌||◌, ◌⊎◌, List, [], ◌∷◌, ◌++◌, length, take, drop, Some, None, Ok, Err, Option, Result, ◌==◌, nat_lt, if◌then◌else◌}
use Rattle.std.specs.Option.{option_map}
use Rattle.std.proofs.Common.{inl, inr}
use Rattle.cell_rules.specs.Rules.{Outcome, State, arrival_refusal, arrived, created, decided, has, opening_refusal, outcome}
use Rattle.fault.specs.Faults.{arrival_fault, line_fault, run_number}
use Rattle.fault.specs.declared.CreationFault.{CreationFault}
use Rattle.fault.specs.declared.CreationFault.TheVariants.{Table as OfTable}
use Rattle.fault.specs.declared.EventFault.TheVariants.{CutShort, Unknown}
use Rattle.fault.specs.declared.FrameFault.TheVariants.{Length as OtherLength}
use Rattle.fault.specs.declared.HeaderFault.TheVariants.{Frame as OfFrame}
use Rattle.fault.specs.declared.LineFault.TheVariants.{Header as OfHeader}
use Rattle.fault.specs.declared.OpeningFault.TheVariants.{AllDecided}
use Rattle.fault.specs.declared.Refusal.{Refusal}
use Rattle.fault.specs.declared.RunFault.{RunFault}
use Rattle.fault.specs.declared.RunFault.TheVariants.{Arrival, Creation, Event, Opening}
use Rattle.octets.specs.BigEndian.{be_number, byte_at, framed, told_length}
use Rattle.record.specs.Layout.{slot_bytes}
use Rattle.reference.specs.Meaning.{Meaning}
use Rattle.round_robin_rule.specs.Rule.{Robin}
use Rattle.round_robin_rule.specs.Rule.{start as robin_start}
use Rattle.table.specs.Refusals.{table_refusal}
use Rattle.table.specs.declared.line.Line.{Line}
use Rattle.table_reference.specs.View.{own}
use Rattle.tag_rule.specs.Rule.{start as tags_start}
use Rattle.tag_rule.specs.Tags.{Tagged, seen}

-- ## The outcome of a run

-- the bytes that are written, and the fault that refuses the run, if one does
pub record RunOutcome : Type 0 where
  pub written : List ℕ
  pub refused : Option RunFault

-- nothing more is written, and nothing is refused
abbrev pub nothing_more : RunOutcome
nothing_more = record { written = []; refused = None }

-- a refusal: version 1 and its number, after their length
abbrev pub refusal_bytes : ℕ → List ℕ
refusal_bytes n = framed (1 ∷ n ∷ [])

-- a fault refuses the run, which writes the number of the fault
abbrev pub refused_by : RunFault → RunOutcome
refused_by e = record { written = refusal_bytes (run_number e); refused = Some e }

-- bytes that are written in front of what x writes
abbrev pub in_front_of : List ℕ → RunOutcome → RunOutcome
in_front_of bytes x = record { written = bytes ++ x.written; refused = x.refused }

-- ## The table

-- the first length + 2 bytes of the input, or all of a shorter input; and what stands after them
abbrev pub table_part : List ℕ → List ℕ
table_part input = take (told_length input + 2) input

abbrev pub events_part : List ℕ → List ℕ
events_part input = drop (told_length input + 2) input

-- the lines that stand in a table, four bytes each
abbrev pub lines_in : List ℕ → List Line
lines_in [] = []
lines_in (w ∷ []) = []
lines_in (w ∷ d ∷ []) = []
lines_in (w ∷ d ∷ lag ∷ []) = []
lines_in (w ∷ d ∷ lag ∷ lead ∷ rest) =
    record { weight = w; delay_weight = d; lag_limit = lag; lead_limit = lead } ∷ lines_in rest

abbrev pub lines_of : List ℕ → List Line
lines_of table = lines_in (drop 6 table)

-- the start of the reference that a table asks for: kind 1 is round robin, and the other kind is tags
abbrev pub start_of : List ℕ → Robin ⊎ Tagged
start_of table =
    cond (byte_at table 3 == 1) (inl (robin_start (lines_of table))) (inr (seen (tags_start (byte_at table 4) (lines_of table))))

-- ## An event

-- what an event writes, and the cell after it, or the fault that refuses the run
pub record Done (M : Meaning) : Type 0 where
  pub written : List ℕ
  pub after : Result (State M) RunFault

-- an input that ends within its table is refused as a table whose length is not that of its bytes
abbrev pub cut_table : RunFault
cut_table = Creation (OfTable (OfHeader (OfFrame OtherLength)))

-- and one that ends within an event
abbrev pub cut_event : RunFault
cut_event = Event CutShort

-- 41 begins an arrival and 53 a control phase, both hexadecimal; any other byte begins no event
abbrev pub unknown_event : RunFault
unknown_event = Event Unknown

-- the fault of an event that is not whole when the input ends, by its first byte
abbrev pub partial_event_fault : ℕ → RunFault
partial_event_fault e = if e == 0x41 || e == 0x53 then cut_event else unknown_event

-- bit i of the mask is set for flow i of n; other bits are ignored
abbrev pub clean_by : ℕ → ℕ → ℕ → Bool
clean_by n mask f = nat_lt f n && has mask f

-- the record of what a slot came to, in a cell of n flows
abbrev pub outcome_bytes : Outcome → ℕ → ℕ → List ℕ
outcome_bytes x n slot = slot_bytes x.marked x.taking x.charge n slot

module _ (M : Meaning) where
  -- a refusal is written, and the run stops
  abbrev pub stopped : RunFault → Done M
  stopped e = record { written = refusal_bytes (run_number e); after = Err e }

  -- what is done, unless it is refused
  abbrev pub or_stopped : Option RunFault → Done M → Done M
  or_stopped None d = d
  or_stopped (Some e) d = stopped e

  -- why packets do not arrive, and why no control phase is opened
  abbrev pub arrival_stop : State M → ℕ → ℕ → Option RunFault
  arrival_stop s f n =
      option_map (λ number. Arrival (arrival_fault number)) (arrival_refusal s.rows f n)

  abbrev pub opening_stop : State M → Option RunFault
  opening_stop s = option_map (λ number. Opening AllDecided) (opening_refusal s.slot)

  -- n packets arrive for flow f
  abbrev pub arrival_done : State M → ℕ → ℕ → Done M
  arrival_done s f n =
      or_stopped (arrival_stop s f n) (record { written = []; after = Ok (arrived M s f n) })

  -- a slot is decided, for which these flows are clean
  abbrev pub slot_done : State M → (ℕ → Bool) → Done M
  slot_done s clean =
      record {
        written = outcome_bytes (outcome M s clean) (length s.rows) s.slot;
        after = Ok (decided M s clean);
      }

  -- every flow flags as the mask says, and then the slot is decided
  abbrev pub phase_done : State M → ℕ → Done M
  phase_done s mask = or_stopped (opening_stop s) (slot_done s (clean_by (length s.rows) mask))

  -- the event of these three bytes
  abbrev pub event_done : State M → ℕ → ℕ → ℕ → Done M
  event_done s e a b =
      if e == 0x41
      then arrival_done s a b
      else (if e == 0x53 then phase_done s (be_number (a ∷ b ∷ [])) else stopped unknown_event)

  -- One event after the other, until the run stops: nothing is read after a refusal. An event that
  -- the end of the input cuts short is refused.
  abbrev pub events : Result (State M) RunFault → List ℕ → RunOutcome
  events (Err e) input = record { written = []; refused = Some e }
  events (Ok s) [] = nothing_more
  events (Ok s) (e ∷ []) = refused_by (partial_event_fault e)
  events (Ok s) (e ∷ a ∷ []) = refused_by (partial_event_fault e)
  events (Ok s) (e ∷ a ∷ b ∷ rest) =
      in_front_of (event_done s e a b).written (events (event_done s e a b).after rest)

-- ## A run

-- a cell over the reference of the table's kind, both at their start
abbrev pub cell_of : List ℕ → State own
cell_of table = created own (start_of table) (lines_of table)

-- why no cell is created, by the refusal of its table
abbrev pub table_fault : Refusal → CreationFault
table_fault r = OfTable (line_fault r)

-- the outcome of a table and the events after it
abbrev pub outcome_by : Option Refusal → List ℕ → List ℕ → RunOutcome
outcome_by (Some r) table input = refused_by (Creation (table_fault r))
outcome_by None table input = events own (Ok (cell_of table)) input

-- the outcome of a whole input
abbrev pub outcome_of : List ℕ → RunOutcome
outcome_of input =
    outcome_by (table_refusal (table_part input)) (table_part input) (events_part input)

-- the bytes that are written for it
abbrev pub output_of : List ℕ → List ℕ
output_of input = (outcome_of input).written
