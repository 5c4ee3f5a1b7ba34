-- The rule of tags: of the due flows that are not too far ahead, the one that would finish first. Start tags and
-- virtual time count from 0 and only grow.
use Rattle.std.specs.Prelude.{◌≡◌, ℕ, ◌+◌, ◌*◌, ◌/◌, ◌<◌, ◌≤◌, min, max, Bool, true, false, cond, ◌&&◌, ◌||◌, ◌⊎◌, List, [], ◌∷◌, map, Some, None, Option, ◌==◌, nat_le, nat_lt, slice_index_or, slice_set}
use Rattle.std.specs.List.{best_of}
use Rattle.reference.specs.Calls.{Call}
use Rattle.reference.specs.Calls.Call.{turning, entering, leaving}
use Rattle.reference.specs.Meaning.{whole}
use Rattle.table.specs.declared.line.Line.{Line}
use Rattle.tag_rule.specs.declared.stamp.Stamp.{Stamp}
use Rattle.tag_rule.specs.declared.entry.Entry.{Entry}

-- a stamp for each flow, with its start tag, and the virtual time
pub record Clock : Type 0 where
  pub stamps : List Stamp
  pub time : ℕ
  pub lookahead : ℕ

-- the stamp that stands where there is none
abbrev pub no_stamp : Stamp
no_stamp = record { weight = 0; delay_weight = 0; tag = 0; due = false }

abbrev pub stamp_at : List Stamp → ℕ → Stamp
stamp_at ss f = slice_index_or ss f no_stamp

-- the start: no flow is due, and start tags and virtual time are 0
abbrev pub fresh : Line → Stamp
fresh l = record { weight = l.weight; delay_weight = l.delay_weight; tag = 0; due = false }

abbrev pub start : ℕ → List Line → Clock
start p ls = record { stamps = map fresh ls; time = 0; lookahead = p }

-- A turn. A flow is eligible if it is due and its start tag is at most virtual time + lookahead × 720,720.
abbrev pub eligible : ℕ → ℕ → Stamp → Bool
eligible v p s = s.due && nat_le s.tag (v + p * whole)

-- its finish tag is its start tag + 720,720 ÷ delay weight
abbrev pub finish_tag : Stamp → ℕ
finish_tag s = s.tag + whole / s.delay_weight

-- the eligible of flows that count on from i
abbrev pub entries : ℕ → ℕ → ℕ → List Stamp → List Entry
entries v p i [] = []
entries v p i (s ∷ ss) =
    cond (eligible v p s) (record { finish = finish_tag s; flow = i } ∷ entries v p (i + 1) ss) (entries v p (i + 1) ss)

-- the smaller finish tag first, and the lower flow on a tie
abbrev pub sooner : Entry → Entry → Bool
sooner x y = nat_lt x.finish y.finish || (x.finish == y.finish && nat_lt x.flow y.flow)

abbrev pub soonest : List Entry → Option ℕ
soonest [] = None
soonest (e ∷ es) = Some (best_of sooner e es).flow

-- the flow that a turn marks
abbrev pub marked : Clock → Option ℕ
marked c = soonest (entries c.time c.lookahead 0 c.stamps)

-- What that says: no flow is marked only if none is eligible. A marked flow is eligible, and every eligible flow has a
-- larger finish tag, or the same one and no lower number.
abbrev pub FirstToFinish : Clock → Option ℕ → Type 0
FirstToFinish c None = (g : ℕ) → eligible c.time c.lookahead (stamp_at c.stamps g) ≡ false
FirstToFinish c (Some f) =
    (eligible c.time c.lookahead (stamp_at c.stamps f) ≡ true)
    × ((g : ℕ)
    → eligible c.time c.lookahead (stamp_at c.stamps g) ≡ true
    → (finish_tag (stamp_at c.stamps f) < finish_tag (stamp_at c.stamps g))
    ⊎ ((finish_tag (stamp_at c.stamps f) ≡ finish_tag (stamp_at c.stamps g)) × (f ≤ g)))

-- a turn adds 720,720 ÷ weight to the start tag of the flow that it marks
abbrev pub charged : Stamp → Stamp
charged s =
    record { weight = s.weight; delay_weight = s.delay_weight; tag = s.tag + whole / s.weight; due = s.due }

abbrev pub charge : List Stamp → Option ℕ → List Stamp
charge ss None = ss
charge ss (Some f) = slice_set ss f (charged (stamp_at ss f))

-- an entering flow's start tag becomes the larger of itself and virtual time
abbrev pub entered_at : ℕ → Stamp → Stamp
entered_at v s = record { weight = s.weight; delay_weight = s.delay_weight; tag = max s.tag v; due = true }

abbrev pub departed : Stamp → Stamp
departed s = record { weight = s.weight; delay_weight = s.delay_weight; tag = s.tag; due = false }

-- the stamps that a call leaves
abbrev pub stamps_after : Clock → Call → List Stamp
stamps_after c turning = charge c.stamps (marked c)
stamps_after c (entering f) = slice_set c.stamps f (entered_at c.time (stamp_at c.stamps f))
stamps_after c (leaving f) = slice_set c.stamps f (departed (stamp_at c.stamps f))

-- the smallest start tag of the due flows, if there are any
abbrev pub lower : ℕ → Option ℕ → ℕ
lower t None = t
lower t (Some u) = min t u

abbrev pub lowest : List Stamp → Option ℕ
lowest [] = None
lowest (s ∷ ss) = cond s.due (Some (lower s.tag (lowest ss))) (lowest ss)

-- after each call, virtual time becomes the smallest start tag of the due flows, if there are any
abbrev pub time_after : ℕ → Option ℕ → ℕ
time_after v None = v
time_after v (Some t) = t

abbrev pub clock_after : Clock → Call → Clock
clock_after c x =
    record {
      stamps = stamps_after c x;
      time = time_after c.time (lowest (stamps_after c x));
      lookahead = c.lookahead;
    }

-- what is left after any number of calls, and what each turn among them marks
abbrev pub clock_after_all : Clock → List Call → Clock
clock_after_all c [] = c
clock_after_all c (x ∷ xs) = clock_after_all (clock_after c x) xs

abbrev pub rule_marks : Clock → List Call → List (Option ℕ)
rule_marks c [] = []
rule_marks c (turning ∷ xs) = marked c ∷ rule_marks (clock_after c turning) xs
rule_marks c (entering f ∷ xs) = rule_marks (clock_after c (entering f)) xs
rule_marks c (leaving f ∷ xs) = rule_marks (clock_after c (leaving f)) xs
