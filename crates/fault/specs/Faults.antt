-- What each case of a fault says: its number, and of a table's fault the byte that it names and its layer.
use Rattle.std.specs.Prelude.{ℕ, ◌+◌, ◌-◌, ◌*◌, ◌/◌, ◌%◌, Some, None, Option, ◌==◌, if◌then◌else◌}
use Rattle.fault.specs.declared.Layer.{Layer}
use Rattle.fault.specs.declared.Layer.TheVariants.{Frame, Header, Line}
use Rattle.fault.specs.declared.Refusal.{Refusal}
use Rattle.fault.specs.declared.FrameFault.{FrameFault}
use Rattle.fault.specs.declared.FrameFault.TheVariants.{Length, Version}
use Rattle.fault.specs.declared.HeaderFault.{HeaderFault}
use Rattle.fault.specs.declared.HeaderFault.TheVariants.{Frame as InFrame, Kind, Lookahead, FlowCount}
use Rattle.fault.specs.declared.LineFault.{LineFault}
use Rattle.fault.specs.declared.LineFault.TheVariants.{Header as InHeader, Weight, DelayWeight}
use Rattle.fault.specs.declared.CreationFault.{CreationFault}
use Rattle.fault.specs.declared.CreationFault.TheVariants.{Table as InTable, FlowCount as OtherFlowCount}
use Rattle.fault.specs.declared.RecordFault.{RecordFault}
use Rattle.fault.specs.declared.RecordFault.TheVariants.{Length as RecordLength, Version as RecordVersion, Field}
use Rattle.fault.specs.declared.WriteFault.{WriteFault}
use Rattle.fault.specs.declared.WriteFault.TheVariants.{NoRoom}
use Rattle.fault.specs.declared.ArrivalFault.{ArrivalFault}
use Rattle.fault.specs.declared.ArrivalFault.TheVariants.{NoSuchFlow as NoFlowToArriveFor, TooMany}
use Rattle.fault.specs.declared.OpeningFault.{OpeningFault}
use Rattle.fault.specs.declared.OpeningFault.TheVariants.{AllDecided}
use Rattle.fault.specs.declared.FlagFault.{FlagFault}
use Rattle.fault.specs.declared.FlagFault.TheVariants.{NoSuchFlow as NoFlowToFlag, FlaggedAlready}
use Rattle.fault.specs.declared.DecisionFault.{DecisionFault}
use Rattle.fault.specs.declared.DecisionFault.TheVariants.{NotForThisSlot}
use Rattle.fault.specs.declared.EventFault.{EventFault}
use Rattle.fault.specs.declared.EventFault.TheVariants.{Unknown, CutShort}
use Rattle.fault.specs.declared.RunFault.{RunFault}
use Rattle.fault.specs.declared.RunFault.TheVariants.{Creation, Arrival, Opening, Event}

-- the refusal with this number, at this byte, in this layer
abbrev pub refusal_of : ℕ → ℕ → Layer → Refusal
refusal_of n b l = record { number = n; byte = b; layer = l }

abbrev pub frame_told : FrameFault → Refusal
frame_told Length = refusal_of 1 0 Frame
frame_told Version = refusal_of 2 2 Frame

abbrev pub header_told : HeaderFault → Refusal
header_told (InFrame e) = frame_told e
header_told Kind = refusal_of 3 3 Header
header_told Lookahead = refusal_of 3 4 Header
header_told FlowCount = refusal_of 4 5 Header

-- a flow's line has four bytes, weight and delay weight first; the first line begins at byte 6
abbrev pub line_told : LineFault → Refusal
line_told (InHeader e) = header_told e
line_told (Weight flow) = refusal_of 5 (6 + 4 * flow) Line
line_told (DelayWeight flow) = refusal_of 5 (7 + 4 * flow) Line

-- a flow count that is not the reference's is told as one that no table may have
abbrev pub creation_told : CreationFault → Refusal
creation_told (InTable e) = line_told e
creation_told OtherFlowCount = refusal_of 4 5 Header

abbrev pub record_number : RecordFault → ℕ
record_number RecordLength = 13
record_number RecordVersion = 14
record_number Field = 15

abbrev pub write_number : WriteFault → ℕ
write_number NoRoom = 12

abbrev pub arrival_number : ArrivalFault → ℕ
arrival_number NoFlowToArriveFor = 6
arrival_number TooMany = 7

abbrev pub opening_number : OpeningFault → ℕ
opening_number AllDecided = 8

abbrev pub flag_number : FlagFault → ℕ
flag_number NoFlowToFlag = 9
flag_number FlaggedAlready = 10

abbrev pub decision_number : DecisionFault → ℕ
decision_number NotForThisSlot = 11

abbrev pub event_number : EventFault → ℕ
event_number Unknown = 16
event_number CutShort = 16

abbrev pub run_number : RunFault → ℕ
run_number (Creation e) = (creation_told e).number
run_number (Arrival e) = arrival_number e
run_number (Opening e) = opening_number e
run_number (Event e) = event_number e

-- the refusal of a table, where that is what refuses a run
abbrev pub refusal_of_table : RunFault → Option Refusal
refusal_of_table (Creation e) = Some (creation_told e)
refusal_of_table (Arrival e) = None
refusal_of_table (Opening e) = None
refusal_of_table (Event e) = None

-- ## The other way round: the fault of a refusal

-- the fault of an arrival with this number
abbrev pub arrival_fault : ℕ → ArrivalFault
arrival_fault n = if n == 6 then NoFlowToArriveFor else TooMany

-- the fault of a table with this number, at this byte: the line of flow f begins at byte 6 + 4 * f,
-- with its weight
abbrev pub line_fault : Refusal → LineFault
line_fault r =
    if r.number == 1
    then InHeader (InFrame Length)
    else (if r.number == 2
    then InHeader (InFrame Version)
    else (if r.number == 3
    then InHeader (if r.byte == 3 then Kind else Lookahead)
    else (if r.number == 4
    then InHeader FlowCount
    else (if r.byte % 4 == 2 then Weight (r.byte / 4 - 1) else DelayWeight (r.byte / 4 - 1)))))
