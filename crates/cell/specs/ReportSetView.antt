-- What a report set of the code holds, and what flagging answers.
use Rattle.std.specs.Prelude.{◌≡◌, ◌≢◌, ℕ, ◌<◌, Bool, true, false, cond, ◌&&◌, nat_lt, Some, None, Ok, Err, Result}
use Rattle.fault.specs.Faults.{flag_number}
use Rattle.fault.specs.declared.FlagFault.{FlagFault}
use Rattle.cell_rules.specs.Rules.{Reports, flag_refusal, flags_clean, has, with_flag}
use Rattle.cell.specs.declared.report_set.ReportSet.{ReportSet}

-- its slot, its number of flows, and the bits of both sets
abbrev pub reports_held : ReportSet → Reports
reports_held r =
    record {
      slot = r.slot;
      flow_count = r.flow_count;
      flagged = r.flagged.bits;
      clean = r.clean.bits;
    }

-- flow f asks to flag, clean or dirty, in the set s, which is then the set t
abbrev pub Flagged : Reports → ℕ → Bool → Reports → Result Unit FlagFault → Type 0
Flagged s f clean t (Ok _) = (flag_refusal s f ≡ None) × (t ≡ with_flag s f clean)
Flagged s f clean t (Err e) = (flag_refusal s f ≡ Some (flag_number e)) × (t ≡ s)

-- t is s with the flag of flow f, clean or dirty, and nothing else
pub record OneMore (s : Reports) (f : ℕ) (clean : Bool) (t : Reports) : Type 0 where
  pub of_the_cell : f < s.flow_count
  pub first : has s.flagged f ≡ false
  pub now : has t.flagged f ≡ true
  pub as_flagged : flags_clean t f ≡ clean
  pub other_flags : (g : ℕ) → g ≢ f → has t.flagged g ≡ has s.flagged g
  pub other_reports : (g : ℕ) → g ≢ f → flags_clean t g ≡ flags_clean s g
  pub slot : t.slot ≡ s.slot
  pub flow_count : t.flow_count ≡ s.flow_count

-- t is s with a flag of every flow that has none there, clean if its bit of the mask is set; nothing else differs
pub record RestFlagged (s : Reports) (mask : ℕ) (t : Reports) : Type 0 where
  pub slot : t.slot ≡ s.slot
  pub flow_count : t.flow_count ≡ s.flow_count
  pub flagged : (f : ℕ) → has t.flagged f ≡ nat_lt f s.flow_count
  pub clean : (f : ℕ) → flags_clean t f ≡ cond (has s.flagged f) (flags_clean s f) (nat_lt f s.flow_count && has mask f)
