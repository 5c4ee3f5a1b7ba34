-- Round robin: one flow after another, each as often in a round as its weight says.
use Rattle.std.specs.Prelude.{◌≡◌, ℕ, ◌+◌, ◌-◌, ◌*◌, ◌%◌, ◌<◌, ◌≤◌, Bool, true, false, cond, not, ◌&&◌, List, map, length, Some, None, Option, nat_lt, slice_index_or, slice_set}
use Rattle.std.specs.List.{AllByRecursion}
use Rattle.table.specs.declared.line.Line.{Line}
use Rattle.reference.specs.Flows.{sum, others, some, around, away}
use Rattle.reference.specs.Meaning.{Meaning, whole}
use Rattle.round_robin_rule.specs.declared.quota.Quota.{Quota}

-- what it holds: a quota of each flow, flow 0 first, and the flow that the next turn looks at first
pub record Robin : Type 0 where
  pub quotas : List Quota
  pub pointer : ℕ

-- one whose pointer stands at p
abbrev pub pointing_at : ℕ → List Quota → Robin
pointing_at p qs = record { quotas = qs; pointer = p }

-- what stands where there is no flow
abbrev pub no_quota : Quota
no_quota = record { weight = 0; used = 0; due = false }

-- the quota of flow f
abbrev pub quota_at : List Quota → ℕ → Quota
quota_at qs f = slice_index_or qs f no_quota

-- the quota of flow f, if there is such a flow
abbrev pub quota_of : Robin → ℕ → Option Quota
quota_of h f = cond (nat_lt f (length h.quotas)) (Some (quota_at h.quotas f)) None

-- the parts of a quota
abbrev pub weight_of : Quota → ℕ
weight_of q = q.weight

abbrev pub used_of : Quota → ℕ
used_of q = q.used

abbrev pub is_due : Quota → Bool
is_due q = q.due

-- whether a turn may mark the flow: it is due and has used below its weight
abbrev pub ready : Quota → Bool
ready q = q.due && nat_lt q.used q.weight

-- the quota of a flow of the table before its first turn
abbrev pub fresh : Line → Quota
fresh l = record { weight = l.weight; used = 0; due = false }

-- what is held before the first turn
abbrev pub start : List Line → Robin
start ls = pointing_at 0 (map fresh ls)

-- a quota after the flow is marked
abbrev pub spent : Quota → Quota
spent q = record { weight = q.weight; used = q.used + 1; due = q.due }

-- a quota at the beginning of a round
abbrev pub unused : Quota → Quota
unused q = record { weight = q.weight; used = 0; due = q.due }

-- a quota after the flow enters or leaves
abbrev pub switched : Bool → Quota → Quota
switched b q = record { weight = q.weight; used = q.used; due = b }

-- if flows are due and none of them has used below its weight, a round begins: all used counts become 0
abbrev pub renewed : List Quota → List Quota
renewed qs = cond (some is_due qs && not (some ready qs)) (map unused qs) qs

-- the flow that a turn marks: the first that is ready, looking upward from the pointer and around
abbrev pub chosen : Robin → Option ℕ
chosen h = around ready h.pointer (renewed h.quotas)

-- What that says: no flow is marked only if none is ready. A marked flow is ready, and no flow that stands nearer to
-- the pointer, looking upward and around, is.
abbrev pub FirstInTurn : Robin → Option ℕ → Type 0
FirstInTurn h None = (g : ℕ) → ready (quota_at (renewed h.quotas) g) ≡ false
FirstInTurn h (Some f) =
    (ready (quota_at (renewed h.quotas) f) ≡ true)
    × ((g : ℕ)
    → g < length h.quotas
    → away (length h.quotas) h.pointer g < away (length h.quotas) h.pointer f
    → ready (quota_at (renewed h.quotas) g) ≡ false)

-- what a mark leaves: 1 more used, and the pointer at the following flow, around
abbrev pub after_mark : List Quota → ℕ → Option ℕ → Robin
after_mark qs p None = pointing_at p qs
after_mark qs p (Some f) = pointing_at ((f + 1) % length qs) (slice_set qs f (spent (quota_at qs f)))

-- what a turn leaves
abbrev pub after_turn : Robin → Robin
after_turn h = after_mark (renewed h.quotas) h.pointer (chosen h)

-- what is held after flow f enters or leaves; its used count stays
abbrev pub switch : Bool → Robin → ℕ → Robin
switch b h f = pointing_at h.pointer (slice_set h.quotas f (switched b (quota_at h.quotas f)))

-- the arrears of flow f in parts: weight × (used by the others) + (weight of the others) × (weight − used) wholes
abbrev pub arrears : List Quota → ℕ → ℕ
arrears qs f =
    whole
    * ((quota_at qs f).weight * others used_of qs f + others weight_of qs f * ((quota_at qs f).weight - (quota_at qs f).used))

-- what every quota keeps
abbrev pub Kept : Quota → Type 0
Kept q = (1 ≤ q.weight) × (q.weight ≤ 16) × (q.used ≤ q.weight)

-- the first n quotas keep it
abbrev pub KeptBelow : List Quota → ℕ → Type 0
KeptBelow qs n = (k : ℕ) → k < n → Kept (quota_at qs k)

-- the states that a round robin can be in
pub record Sound (h : Robin) : Type 0 where
  pub some_flows : 1 ≤ length h.quotas
  pub few_flows : length h.quotas ≤ 16
  pub points : h.pointer < length h.quotas
  pub kept : AllByRecursion Kept h.quotas

-- every turn marks the flow that is first in turn
abbrev pub MarksInTurn : Type 0
MarksInTurn = (h : Robin) → Sound h → FirstInTurn h (chosen h)

-- round robin as a reference; a flow's allowance is 2 × weight × (weight of the others)
abbrev pub round_robin : Meaning
round_robin =
    record {
      Held = Robin;
      Sound = Sound;
      flows = λ h. length h.quotas;
      weight = λ h f. (quota_at h.quotas f).weight;
      allowance = λ h f. 2 * (quota_at h.quotas f).weight * others weight_of h.quotas f;
      total = λ h. sum weight_of h.quotas;
      due = λ h f. (quota_at h.quotas f).due;
      arrears = λ h f. arrears h.quotas f;
      entered = switch true;
      left = switch false;
      marks = chosen;
      turned = after_turn;
    }
