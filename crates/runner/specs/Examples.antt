-- Worked runs: what runs write, beside what was worked out by hand.
use Rattle.std.specs.Prelude.{◌≡◌, ℕ, List, [], ◌∷◌, ◌++◌, Some, None, replicate, take}
use Rattle.std.specs.List.{flat_map, range_with_len}
use Rattle.fault.specs.declared.ArrivalFault.TheVariants.{NoSuchFlow}
use Rattle.fault.specs.declared.CreationFault.TheVariants.{Table}
use Rattle.fault.specs.declared.HeaderFault.TheVariants.{FlowCount, Frame, Kind, Lookahead}
use Rattle.fault.specs.declared.FrameFault.TheVariants.{Length, Version}
use Rattle.fault.specs.declared.LineFault.{LineFault}
use Rattle.fault.specs.declared.LineFault.TheVariants.{DelayWeight, Header, Weight}
use Rattle.fault.specs.declared.RunFault.{RunFault}
use Rattle.fault.specs.declared.RunFault.TheVariants.{Arrival, Creation}
use Rattle.runner.specs.Output.{cut_event, outcome_of, output_of, unknown_event}

-- two flows of weight 1 under round robin, with limits of 2
abbrev pub two_flows : List ℕ
two_flows = 0x00 ∷ 0x0c ∷ 1 ∷ 1 ∷ 0 ∷ 2 ∷ 1 ∷ 0 ∷ 2 ∷ 2 ∷ 1 ∷ 0 ∷ 2 ∷ 2 ∷ []

-- n packets arrive for flow f; and a control phase with this mask, whose high byte is 0
abbrev pub arrival : ℕ → ℕ → List ℕ
arrival f n = 0x41 ∷ f ∷ n ∷ []

abbrev pub phase : ℕ → List ℕ
phase mask = 0x53 ∷ 0 ∷ mask ∷ []

-- the record of a slot, numbered below 256, of a cell of two flows, by marked flow, sender, taking, charge and slot
abbrev pub slot : ℕ → ℕ → ℕ → ℕ → ℕ → List ℕ
slot marked sender taking charge n =
    0x00 ∷ 0x0a ∷ 1 ∷ marked ∷ sender ∷ taking ∷ charge ∷ 2 ∷ 0 ∷ 0 ∷ 0 ∷ n ∷ []

-- the same under tags, with weights and delay weights of 2 and 1
abbrev pub two_flows_of_tags : List ℕ
two_flows_of_tags = 0x00 ∷ 0x0c ∷ 1 ∷ 2 ∷ 0 ∷ 2 ∷ 2 ∷ 2 ∷ 2 ∷ 2 ∷ 1 ∷ 1 ∷ 2 ∷ 2 ∷ []

-- sixteen flows of weight 1 under round robin, which may neither lag nor lead
abbrev pub sixteen_flows : List ℕ
sixteen_flows = 0x00 ∷ 0x44 ∷ 1 ∷ 1 ∷ 0 ∷ 16 ∷ flat_map (λ f. 1 ∷ 0 ∷ 0 ∷ 0 ∷ []) (range_with_len 0 16)

-- n bytes of 0
abbrev pub zeros : ℕ → List ℕ
zeros n = replicate n 0

abbrev pub refusal : ℕ → List ℕ
refusal n = 0x00 ∷ 0x02 ∷ 1 ∷ n ∷ []

-- a table is refused
abbrev pub of_table : LineFault → RunFault
of_table e = Creation (Table e)

-- The faults that refuse runs, beside what was worked out by hand.
pub record WorkedFaults : Type 0 where
  pub nothing_refused : (outcome_of (two_flows ++ phase 3)).refused ≡ None
  pub nothing : (outcome_of []).refused ≡ Some (of_table (Header (Frame Length)))
  -- a length below 4 is none of a table, whatever follows
  pub no_room_for_a_header :
      (outcome_of (0 ∷ 3 ∷ 1 ∷ 1 ∷ 0 ∷ phase 0)).refused ≡ Some (of_table (Header (Frame Length)))
  pub other_version :
      (outcome_of (0 ∷ 4 ∷ 2 ∷ 1 ∷ 0 ∷ 0 ∷ [])).refused ≡ Some (of_table (Header (Frame Version)))
  pub other_kind :
      (outcome_of (0 ∷ 4 ∷ 1 ∷ 3 ∷ 0 ∷ 0 ∷ [])).refused ≡ Some (of_table (Header Kind))
  pub other_lookahead :
      (outcome_of (0 ∷ 4 ∷ 1 ∷ 1 ∷ 1 ∷ 0 ∷ [])).refused ≡ Some (of_table (Header Lookahead))
  pub no_flow :
      (outcome_of (0 ∷ 4 ∷ 1 ∷ 1 ∷ 0 ∷ 0 ∷ [])).refused ≡ Some (of_table (Header FlowCount))
  -- the second of two flows has no weight, or a delay weight under round robin
  pub no_weight :
      (outcome_of (take 10 two_flows ++ (0 ∷ 0 ∷ 2 ∷ 2 ∷ []))).refused ≡ Some (of_table (Weight 1))
  pub some_delay_weight :
      (outcome_of (take 10 two_flows ++ (1 ∷ 1 ∷ 2 ∷ 2 ∷ []))).refused
      ≡ Some (of_table (DelayWeight 1))
  -- a long table is refused by what it says, and one that is cut short by its length
  pub long_table :
      (outcome_of (0 ∷ 69 ∷ 1 ∷ 1 ∷ 0 ∷ 16 ∷ zeros 65)).refused ≡ Some (of_table (Header FlowCount))
  pub long_table_of_other_kind :
      (outcome_of (0 ∷ 69 ∷ 1 ∷ 3 ∷ 0 ∷ 0 ∷ zeros 65)).refused ≡ Some (of_table (Header Kind))
  pub long_table_cut :
      (outcome_of (0 ∷ 69 ∷ 1 ∷ 3 ∷ 0 ∷ 0 ∷ zeros 64)).refused
      ≡ Some (of_table (Header (Frame Length)))
  pub no_such_flow : (outcome_of (two_flows ++ arrival 2 1)).refused ≡ Some (Arrival NoSuchFlow)
  -- an event is unknown by its first byte, even if the input ends there; one that is cut short
  -- begins like an event
  pub no_event : (outcome_of (two_flows ++ (0x42 ∷ []))).refused ≡ Some unknown_event
  pub no_event_in_front :
      (outcome_of (two_flows ++ (0x42 ∷ 0 ∷ 0 ∷ 0 ∷ []))).refused ≡ Some unknown_event
  pub cut_arrival : (outcome_of (two_flows ++ (0x41 ∷ 1 ∷ []))).refused ≡ Some cut_event
  pub cut_phase : (outcome_of (two_flows ++ phase 3 ++ (0x53 ∷ []))).refused ≡ Some cut_event

pub record WorkedRuns : Type 0 where
  -- three packets for each flow, and seven slots: flow 0 is dirty in the first, and both are in the fifth
  pub seven_slots :
      output_of
      (two_flows
      ++ arrival 0 3
      ++ arrival 1 3
      ++ phase 2
      ++ phase 3
      ++ phase 3
      ++ phase 3
      ++ phase 0
      ++ phase 3
      ++ phase 3)
      ≡ slot 0 1 3 2 0
      ++ slot 1 1 1 0 1
      ++ slot 0 0 1 0 2
      ++ slot 1 0 2 1 3
      ++ slot 0 0xff 0 3 4
      ++ slot 1 1 1 0 5
      ++ slot 0xff 0 4 0 6
  -- flow 0 has two packets and flow 1 one: tags mark flow 0, flow 1 and flow 0
  pub three_slots_of_tags :
      output_of (two_flows_of_tags ++ arrival 0 2 ++ arrival 1 1 ++ phase 3 ++ phase 3 ++ phase 3)
      ≡ slot 0 0 1 0 0 ++ slot 1 1 1 0 1 ++ slot 0 0 1 0 2
  -- the last of sixteen flows is clean by the highest bit of the mask alone, and then dirty by it alone
  pub last_of_sixteen :
      output_of (sixteen_flows ++ arrival 15 1 ++ (0x53 ∷ 0x80 ∷ 0x00 ∷ []) ++ arrival 15 1 ++ (0x53 ∷ 0x7f ∷ 0xff ∷ []))
      ≡ (0x00 ∷ 0x0a ∷ 1 ∷ 15 ∷ 15 ∷ 1 ∷ 0 ∷ 16 ∷ 0 ∷ 0 ∷ 0 ∷ 0 ∷ [])
      ++ (0x00 ∷ 0x0a ∷ 1 ∷ 15 ∷ 0xff ∷ 0 ∷ 3 ∷ 16 ∷ 0 ∷ 0 ∷ 0 ∷ 1 ∷ [])
  -- no packets arrive
  pub no_packets : output_of (two_flows ++ arrival 1 0 ++ phase 3) ≡ slot 0xff 0xff 0 0 0
  -- the table alone; and no table, for each of the reasons, the last three beside a table that is longer than any
  -- cell's
  pub no_events : output_of two_flows ≡ []
  pub nothing : output_of [] ≡ refusal 1
  pub half_a_length : output_of (0 ∷ []) ≡ refusal 1
  pub no_room_for_a_header : output_of (0 ∷ 0 ∷ phase 0) ≡ refusal 1
  pub other_version : output_of (0 ∷ 4 ∷ 2 ∷ 1 ∷ 0 ∷ 0 ∷ []) ≡ refusal 2
  pub other_kind : output_of (0 ∷ 4 ∷ 1 ∷ 3 ∷ 0 ∷ 0 ∷ []) ≡ refusal 3
  pub no_flow : output_of (0 ∷ 4 ∷ 1 ∷ 1 ∷ 0 ∷ 0 ∷ []) ≡ refusal 4
  pub no_weight : output_of (0 ∷ 8 ∷ 1 ∷ 1 ∷ 0 ∷ 1 ∷ 0 ∷ 0 ∷ 0 ∷ 0 ∷ []) ≡ refusal 5
  pub cut_table : output_of (take 13 two_flows) ≡ refusal 1
  pub long_table_cut : output_of (0 ∷ 69 ∷ 1 ∷ 3 ∷ 0 ∷ 0 ∷ zeros 64) ≡ refusal 1
  pub long_table_of_other_kind : output_of (0 ∷ 69 ∷ 1 ∷ 3 ∷ 0 ∷ 0 ∷ zeros 65) ≡ refusal 3
  pub long_table : output_of (0 ∷ 69 ∷ 1 ∷ 1 ∷ 0 ∷ 16 ∷ zeros 65) ≡ refusal 4
  -- refused events; nothing after them is read
  pub no_such_flow : output_of (two_flows ++ arrival 2 1 ++ phase 3) ≡ refusal 6
  pub no_event : output_of (two_flows ++ (0x42 ∷ [])) ≡ refusal 16
  pub no_event_between_others : output_of (two_flows ++ (0x42 ∷ []) ++ phase 3) ≡ refusal 16
  pub cut_arrival : output_of (two_flows ++ (0x41 ∷ 1 ∷ [])) ≡ refusal 16
  pub cut_phase : output_of (two_flows ++ phase 3 ++ (0x53 ∷ [])) ≡ slot 0xff 0xff 0 0 0 ++ refusal 16
  -- bits of the mask that are no flow's are ignored
  pub other_bits : output_of (two_flows ++ arrival 1 1 ++ (0x53 ∷ 0xff ∷ 0xfe ∷ [])) ≡ slot 1 1 1 0 0
  -- and why runs are refused
  pub faults : WorkedFaults
