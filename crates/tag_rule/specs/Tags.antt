-- What tags hold, and what they mean. Only start tags less virtual time matter (0 for one below it): so just these are
-- held, and they stay bounded.
use Rattle.std.specs.Prelude.{◌≡◌, ℕ, ◌+◌, ◌-◌, ◌*◌, ◌/◌, ◌<◌, ◌≤◌, Bool, true, cond, List, map, length, Some, None, Option, nat_lt}
use Rattle.std.specs.List.{AllByRecursion}
use Rattle.reference.specs.Calls.{Call, marks_of}
use Rattle.reference.specs.Calls.Call.{turning, entering, leaving}
use Rattle.reference.specs.Flows.{sum, others}
use Rattle.reference.specs.Meaning.{Meaning, whole}
use Rattle.tag_rule.specs.declared.stamp.Stamp.{Stamp}
use Rattle.tag_rule.specs.Rule.{Clock, stamp_at, marked, FirstToFinish, lowest, time_after, clock_after, clock_after_all, rule_marks}

-- the stamps hold start tags less virtual time
pub record Tagged : Type 0 where
  pub stamps : List Stamp
  pub lookahead : ℕ

abbrev pub with_lookahead : ℕ → List Stamp → Tagged
with_lookahead p ss = record { stamps = ss; lookahead = p }

-- a clock that goes on from there, with virtual time 0
abbrev pub clock : Tagged → Clock
clock h = record { stamps = h.stamps; time = 0; lookahead = h.lookahead }

-- a stamp as it is seen from virtual time d
abbrev pub later : ℕ → Stamp → Stamp
later d s = record { weight = s.weight; delay_weight = s.delay_weight; tag = s.tag - d; due = s.due }

-- a due flow's start tag is not behind virtual time
abbrev pub Ahead : ℕ → Stamp → Type 0
Ahead v s = s.due ≡ true → v ≤ s.tag

-- what is held of a clock
abbrev pub seen : Clock → Tagged
seen c = record { stamps = map (later c.time) c.stamps; lookahead = c.lookahead }

-- a call, by the rule
abbrev pub held_after : Tagged → Call → Tagged
held_after h x = seen (clock_after (clock h) x)

-- how far virtual time moves on from 0, and the stamps as they are seen then
abbrev pub advance : List Stamp → ℕ
advance ss = time_after 0 (lowest ss)

abbrev pub settled : List Stamp → List Stamp
settled ss = map (later (advance ss)) ss

-- a flow enters, or leaves
abbrev pub switching : Bool → ℕ → Call
switching b f = cond b (entering f) (leaving f)

-- what is held of a flow, if there is such a flow
abbrev pub stamp_of : Tagged → ℕ → Option Stamp
stamp_of h f = cond (nat_lt f (length h.stamps)) (Some (stamp_at h.stamps f)) None

abbrev pub weight_of : Stamp → ℕ
weight_of s = s.weight

abbrev pub is_due : Stamp → Bool
is_due s = s.due

-- a start tag, times the flow's weight
abbrev pub owed : Stamp → ℕ
owed s = s.weight * s.tag

-- arrears of f: r × (what the others owe) + (the others' weight) × ((P × r + 1) wholes − what f owes)
abbrev pub arrears : ℕ → List Stamp → ℕ → ℕ
arrears p ss f =
    (stamp_at ss f).weight * others owed ss f
    + others weight_of ss f * (whole * (p * (stamp_at ss f).weight + 1) - owed (stamp_at ss f))

-- 2 × P × r × (W − r) + r × (n − 1) + (W − r)
abbrev pub allowance : ℕ → List Stamp → ℕ → ℕ
allowance p ss f =
    2 * p * (stamp_at ss f).weight * others weight_of ss f
    + (stamp_at ss f).weight * (length ss - 1)
    + others weight_of ss f

-- what each flow keeps: weights of 1 to 16, and a tag that no eligible flow's turn passes
abbrev pub Kept : ℕ → Stamp → Type 0
Kept p s =
    (1 ≤ s.weight)
    × (s.weight ≤ 16)
    × (1 ≤ s.delay_weight)
    × (s.delay_weight ≤ 16)
    × (s.tag ≤ p * whole + whole / s.weight)

abbrev pub KeptBelow : ℕ → List Stamp → ℕ → Type 0
KeptBelow p ss n = (k : ℕ) → k < n → Kept p (stamp_at ss k)

pub record Sound (h : Tagged) : Type 0 where
  pub some_flows : 1 ≤ length h.stamps
  pub few_flows : length h.stamps ≤ 16
  pub looks : h.lookahead ≤ 16
  pub kept : AllByRecursion (Kept h.lookahead) h.stamps
  -- the smallest start tag of the due flows is virtual time
  pub on_time : advance h.stamps ≡ 0

abbrev pub tags : Meaning
tags =
    record {
      Held = Tagged;
      Sound = Sound;
      flows = λ h. length h.stamps;
      weight = λ h f. (stamp_at h.stamps f).weight;
      allowance = λ h f. allowance h.lookahead h.stamps f;
      total = λ h. sum weight_of h.stamps;
      due = λ h f. (stamp_at h.stamps f).due;
      arrears = λ h f. arrears h.lookahead h.stamps f;
      entered = λ h f. held_after h (entering f);
      left = λ h f. held_after h (leaving f);
      marks = λ h. marked (clock h);
      turned = λ h. held_after h turning;
    }

-- What holds h follows the rule from the clock c on, whatever calls are made.
pub record Follows (c : Clock) (h : Tagged) : Type 0 where
  -- it marks the same flows, for ever
  pub same_marks : (calls : List Call) → marks_of tags h calls ≡ rule_marks c calls
  -- and each time that is the flow that would finish first
  pub marks_first_to_finish :
      (calls : List Call) → FirstToFinish (clock_after_all c calls) (marked (clock_after_all c calls))
  -- virtual time and start tags of the rule only grow
  pub time_grows :
      (calls : List Call) (x : Call) → (clock_after_all c calls).time ≤ (clock_after (clock_after_all c calls) x).time
  pub tags_grow :
      (calls : List Call) (x : Call) (f : ℕ)
      → (stamp_at (clock_after_all c calls).stamps f).tag ≤ (stamp_at (clock_after (clock_after_all c calls) x).stamps f).tag
