-- The rules of a cell, in the order in which docs/RULES.md says them in prose. What happens follows from what the
-- reference holds, the rows of the flows, the ring, the number of the slot, and which flows are clean.
use Rattle.std.specs.Prelude.{ℕ, zero, suc, ◌+◌, ◌-◌, ◌*◌, ◌/◌, ◌^◌, Bool, cond, not, ◌&&◌, List, [], ◌∷◌, ◌++◌, map, length, Some, None, Option, ◌==◌, nat_le, nat_lt, slice_index_or, slice_set}
use Rattle.std.specs.Int.{bit_at}
use Rattle.std.specs.Int.RustNames.{bit_or}
use Rattle.std.specs.List.{best_of, filter, find, range_with_len}
use Rattle.std.specs.Option.{option_map_or, option_or}
use Rattle.octets.specs.Conditions.{first_of}
use Rattle.record.specs.Accounts.{names, repaid_sender, charged_sender, free_sender, lead_down_of, lag_up_of, forfeited_by}
use Rattle.record.specs.declared.taking.Charge.{Charge}
use Rattle.record.specs.declared.taking.Charge.TheVariants.{Nothing, LeadDown, LagUp, Forfeited}
use Rattle.record.specs.declared.taking.Taking.{Taking}
use Rattle.record.specs.declared.taking.Taking.TheVariants.{Idle, Own, LagRepaid, LeadCharged, Free}
use Rattle.record.specs.Pairs.{sender_of}
use Rattle.reference.specs.Meaning.{Meaning}
use Rattle.table.specs.declared.line.Line.{Line}
use Rattle.table.specs.Lines.{no_line}
use Rattle.cell_rules.specs.declared.row.Row.{Row}

-- ## A flow

-- a flow of the table, of which nothing has been counted
abbrev pub fresh : Line → Row
fresh l =
    record {
      arrived = 0;
      marked = 0;
      sent = 0;
      free = 0;
      forfeited = 0;
      lead = 0;
      lag = 0;
      giving = 0;
      lag_limit = l.lag_limit;
      lead_limit = l.lead_limit;
    }

-- the row of flow f; past the last flow, one with nothing in it
abbrev pub at : List Row → ℕ → Row
at rows f = slice_index_or rows f (fresh no_line)

-- the flows, from 0 up
abbrev pub flows : List Row → List ℕ
flows rows = range_with_len 0 (length rows)

-- the packets that are waiting, and the turns that are still to come for what arrived
abbrev pub waiting : Row → ℕ
waiting r = r.arrived - r.sent

abbrev pub due : Row → ℕ
due r = r.arrived - r.marked

abbrev pub leads : Row → Bool
leads r = nat_lt 0 r.lead

abbrev pub lags : Row → Bool
lags r = nat_lt 0 r.lag

abbrev pub in_sync : Row → Bool
in_sync r = r.lead == 0 && r.lag == 0

-- At its mark, a leading flow's lead is added to giving. If that is then at least the lead limit, the slot is
-- designated, that is, meant for a lagging flow, and the limit is subtracted.
abbrev pub given : Row → ℕ
given r = r.giving + r.lead

abbrev pub designated : Row → Bool
designated r = nat_le r.lead_limit (given r)

abbrev pub giving_after : Row → ℕ
giving_after r = cond (leads r) (cond (designated r) (given r - r.lead_limit) (given r)) r.giving

-- ## The ring

-- it points at the flow that it found last, and has so many more slots for it
pub record Ring : Type 0 where
  pub pointer : ℕ
  pub remainder : ℕ

-- at first it points at the last of n flows
abbrev pub first_ring : ℕ → Ring
first_ring n = record { pointer = n - 1; remainder = 0 }

-- all n flows, from the one that follows flow p, around, ending at p
abbrev pub flows_around : ℕ → ℕ → List ℕ
flows_around n p = range_with_len (p + 1) (n - (p + 1)) ++ range_with_len 0 (p + 1)

-- ## Who can send, by the rows as they are before the slot, and by which flows are clean in it

-- the first of a list that no other one precedes
abbrev pub least : (ℕ → ℕ → Bool) → List ℕ → Option ℕ
least precedes [] = None
least precedes (f ∷ fs) = Some (best_of precedes f fs)

module _ (rows : List Row) (clean : ℕ → Bool) where
  -- waiting and clean
  abbrev pub able : ℕ → Bool
  able f = nat_lt 0 (waiting (at rows f)) && clean f

  abbrev pub lowest_able : Option ℕ
  lowest_able = find able (flows rows)

  -- lagging and able
  abbrev pub repayable : ℕ → Bool
  repayable f = lags (at rows f) && able f

  -- the first such flow, from the one that follows flow p around
  abbrev pub next_around : ℕ → Option ℕ
  next_around p = find repayable (flows_around (length rows) p)

  -- the flow that the ring looked for, and the ring there, with a quarter of its lag before this slot; or none, and the
  -- ring as it was
  abbrev pub moved_to : Ring → Option ℕ → Option ℕ × Ring
  moved_to ring None = (None, ring)
  moved_to ring (Some f) = (Some f, record { pointer = f; remainder = (at rows f).lag / 4 })

  -- the pointed flow is lagging and able, and has slots left
  abbrev pub finds_again : Ring → Bool
  finds_again ring = repayable ring.pointer && nat_lt 0 ring.remainder

  -- the flow that the ring finds, and the ring once that flow sends
  abbrev pub ring_finds : Ring → Option ℕ × Ring
  ring_finds ring =
      cond (finds_again ring)
      (Some ring.pointer, record { pointer = ring.pointer; remainder = ring.remainder - 1 })
      (moved_to ring (next_around ring.pointer))

  -- able, leading and below its lead limit
  abbrev pub can_lead_more : ℕ → Bool
  can_lead_more f = able f && (leads (at rows f) && nat_lt (at rows f).lead (at rows f).lead_limit)

  -- lead ÷ limit of flow f is smaller than that of flow g, exactly
  abbrev pub leads_less : ℕ → ℕ → Bool
  leads_less f g = nat_lt ((at rows f).lead * (at rows g).lead_limit) ((at rows g).lead * (at rows f).lead_limit)

  -- able, in sync, and allowed to lead
  abbrev pub can_start_to_lead : ℕ → Bool
  can_start_to_lead f = able f && (in_sync (at rows f) && nat_lt 0 (at rows f).lead_limit)

  -- of the flows that can lead more, the one with the smallest lead ÷ limit, the lowest on a tie
  abbrev pub leaders : List ℕ
  leaders = filter can_lead_more (flows rows)

  abbrev pub first_leader : Option ℕ
  first_leader = least leads_less leaders

  abbrev pub first_in_sync : Option ℕ
  first_in_sync = find can_start_to_lead (flows rows)

  abbrev pub chargeable : Option ℕ
  chargeable = option_or first_leader first_in_sync

-- ## A slot: who sends, and what the marked flow is charged

module _ (rows : List Row) (clean : ℕ → Bool) where
  -- the lowest able flow sends free, and else nobody
  abbrev pub lowest_able_or_idle : Taking
  lowest_able_or_idle = option_map_or Free (lowest_able rows clean) Idle

  -- a chargeable flow sends, and else another
  abbrev pub chargeable_or : Taking → Taking
  chargeable_or other = option_map_or LeadCharged (chargeable rows clean) other

  module _ (ring : Ring) where
    -- the ring's flow sends, and else another
    abbrev pub ring_or : Taking → Taking
    ring_or other = option_map_or LagRepaid (ring_finds rows clean ring).0 other

    -- a slot that no marked flow uses: the ring's flow, else the lowest able flow; and one in which a chargeable flow
    -- comes between these
    abbrev pub repaid_or_free : Taking
    repaid_or_free = ring_or lowest_able_or_idle

    abbrev pub passed_on : Taking
    passed_on = ring_or (chargeable_or lowest_able_or_idle)

    abbrev pub unmarked_slot : Taking × Charge
    unmarked_slot = (repaid_or_free, Nothing)

    -- the marked flow m leads
    abbrev pub leading_slot : ℕ → Taking × Charge
    leading_slot m =
        option_map_or (λ f. (LagRepaid f, LeadDown)) (cond (designated (at rows m)) (ring_finds rows clean ring).0 None)
        (cond (able rows clean m) (Own m, Nothing) (passed_on, LeadDown))

    -- it does not lead, has a packet waiting and is dirty, and its lag is below its limit
    abbrev pub owing_slot : Taking × Charge
    owing_slot =
        option_map_or (λ f. (LagRepaid f, LagUp)) (ring_finds rows clean ring).0
        (option_map_or (λ f. (LeadCharged f, LagUp)) (chargeable rows clean) (lowest_able_or_idle, Forfeited))

    -- it does not lead, and has nothing waiting, or is dirty with its lag at the limit
    abbrev pub forfeited_slot : Taking × Charge
    forfeited_slot = (repaid_or_free, Forfeited)

    abbrev pub marked_slot : ℕ → Taking × Charge
    marked_slot m =
        cond (leads (at rows m)) (leading_slot m)
        (cond (able rows clean m) (Own m, Nothing)
        (cond (nat_lt 0 (waiting (at rows m)) && nat_lt (at rows m).lag (at rows m).lag_limit) owing_slot forfeited_slot))

    abbrev pub slot_of : Option ℕ → Taking × Charge
    slot_of None = unmarked_slot
    slot_of (Some m) = marked_slot m

-- ## What a slot does to the rows and to the ring

-- what a slot came to
pub record Outcome : Type 0 where
  pub marked : Option ℕ
  pub taking : Taking
  pub charge : Charge

-- 1 if a flow is the one that is named, and 0 if not
abbrev pub once : Option ℕ → ℕ → ℕ
once named f = cond (names named f) 1 0

-- the row of flow f after the slot
abbrev pub booked_row : Outcome → ℕ → Row → Row
booked_row x f r =
    record {
      arrived = r.arrived;
      marked = r.marked + once x.marked f;
      sent = r.sent + once (sender_of x.taking) f;
      free = r.free + once (free_sender x.taking) f;
      forfeited = r.forfeited + once (forfeited_by x.charge x.marked) f;
      lead = r.lead + once (charged_sender x.taking) f - once (lead_down_of x.charge x.marked) f;
      lag = r.lag + once (lag_up_of x.charge x.marked) f - once (repaid_sender x.taking) f;
      giving = cond (names x.marked f) (giving_after r) r.giving;
      lag_limit = r.lag_limit;
      lead_limit = r.lead_limit;
    }

-- what g makes of each row, of flows that count on from f
abbrev pub each : (ℕ → Row → Row) → ℕ → List Row → List Row
each g f [] = []
each g f (r ∷ rows) = g f r ∷ each g (suc f) rows

abbrev pub booked : Outcome → List Row → List Row
booked x rows = each (booked_row x) 0 rows

-- the ring moves when the flow that it found sends
abbrev pub ring_after : Taking → Ring → Ring → Ring
ring_after Idle ring moved = ring
ring_after (Own f) ring moved = ring
ring_after (LagRepaid f) ring moved = moved
ring_after (LeadCharged f) ring moved = ring
ring_after (Free f) ring moved = ring

-- ## Report sets

-- for which slot and how many flows, who flagged, and who of them flagged clean: a bit for each flow, bit 0 the lowest
pub record Reports : Type 0 where
  pub slot : ℕ
  pub flow_count : ℕ
  pub flagged : ℕ
  pub clean : ℕ

-- whether bit f of a mask is set
abbrev pub has : ℕ → ℕ → Bool
has mask f = bit_at mask f == 1

-- a flow without a flag counts as dirty
abbrev pub flags_clean : Reports → ℕ → Bool
flags_clean set f = has set.flagged f && has set.clean f

-- the set of a new control phase, for a slot of n flows
abbrev pub opened : ℕ → ℕ → Reports
opened slot n = record { slot = slot; flow_count = n; flagged = 0; clean = 0 }

-- flow f flags, clean or dirty
abbrev pub with_flag : Reports → ℕ → Bool → Reports
with_flag set f clean =
    record set {
      flagged = bit_or set.flagged (2 ^ f);
      clean = cond clean (bit_or set.clean (2 ^ f)) set.clean;
    }

-- ## A cell

-- what a cell holds; the slot is the number of slots that it has decided
pub record State (M : Meaning) : Type 0 where
  pub held : M.Held
  pub rows : List Row
  pub ring : Ring
  pub slot : ℕ

-- the first n flows leave, from 0 up
abbrev pub all_leave : (M : Meaning) → M.Held → ℕ → M.Held
all_leave M h zero = h
all_leave M h (suc n) = M.left (all_leave M h n) n

-- a cell at its creation, of what its reference held before and of its table's lines
abbrev pub created : (M : Meaning) → M.Held → List Line → State M
created M h lines =
    record {
      held = all_leave M h (length lines);
      rows = map fresh lines;
      ring = first_ring (length lines);
      slot = 0;
    }

-- a row with n arrived
abbrev pub with_arrived : ℕ → Row → Row
with_arrived n r = record r { arrived = n }

-- n more packets arrive for flow f
abbrev pub more_arrived : List Row → ℕ → ℕ → List Row
more_arrived rows f n = slice_set rows f (with_arrived ((at rows f).arrived + n) (at rows f))

-- whether a flow's due rises from 0 when n packets arrive for it
abbrev pub enters : Row → ℕ → Bool
enters r n = due r == 0 && nat_lt 0 n

-- whether a flow's due is 0 once it is marked again
abbrev pub leaves : Row → Bool
leaves r = r.arrived - (r.marked + 1) == 0

module _ (M : Meaning) where
  -- n packets arrive for flow f, which enters if its due rises from 0
  abbrev pub arrived : State M → ℕ → ℕ → State M
  arrived s f n =
      record {
        held = cond (enters (at s.rows f) n) (M.entered s.held f) s.held;
        rows = more_arrived s.rows f n;
        ring = s.ring;
        slot = s.slot;
      }

  -- the marked flow leaves if its due is 0 now
  abbrev pub released : M.Held → List Row → Option ℕ → M.Held
  released held rows None = held
  released held rows (Some m) = cond (leaves (at rows m)) (M.left held m) held

  -- a decision asks for one turn, and settles the slot by it
  abbrev pub outcome : State M → (ℕ → Bool) → Outcome
  outcome s clean =
      let x : Taking × Charge = slot_of s.rows clean s.ring (M.marks s.held) in
      record { marked = M.marks s.held; taking = x.0; charge = x.1 }

  abbrev pub decided : State M → (ℕ → Bool) → State M
  decided s clean =
      let x : Outcome = outcome s clean in
      record {
        held = released (M.turned s.held) s.rows x.marked;
        rows = booked x s.rows;
        ring = ring_after x.taking s.ring (ring_finds s.rows clean s.ring).1;
        slot = s.slot + 1;
      }

-- ## Refusals: the number of the first condition that holds

-- the most packets of a flow that arrive, and the most slots that are decided
abbrev pub most : ℕ
most = 1000000000

-- no such flow; arrived would pass its most
abbrev pub arrival_refusal : List Row → ℕ → ℕ → Option ℕ
arrival_refusal rows f n = first_of ((nat_le (length rows) f, 6) ∷ (nat_lt most ((at rows f).arrived + n), 7) ∷ [])

-- all slots are decided
abbrev pub opening_refusal : ℕ → Option ℕ
opening_refusal slot = first_of ((nat_le most slot, 8) ∷ [])

-- no such flow; it has flagged already
abbrev pub flag_refusal : Reports → ℕ → Option ℕ
flag_refusal set f = first_of ((nat_le set.flow_count f, 9) ∷ (has set.flagged f, 10) ∷ [])

-- the set is for another slot or for another number of flows
abbrev pub decision_refusal : ℕ → List Row → Reports → Option ℕ
decision_refusal slot rows set = first_of ((not (set.slot == slot && set.flow_count == length rows), 11) ∷ [])
