-- What each layer of reading a table answers.
use Rattle.std.specs.Prelude.{◌≡◌, ℕ, ◌+◌, ◌*◌, ◌≤◌, true, cond, List, length, Some, None, Ok, Err, Result}
use Rattle.std.specs.Option.{option_map}
use Rattle.octets.specs.BigEndian.{byte_at, told_length}
use Rattle.fault.specs.Faults.{refusal_of, frame_told, header_told, line_told}
use Rattle.octets.specs.Ranges.{one_to_sixteen}
use Rattle.table.specs.Lines.{kind_numbered, kind_number, lookahead_fits, delay_weight_fits, line_fits}
use Rattle.table.specs.Refusals.{frame_refusal, header_refusal, wrong_byte}
use Rattle.fault.specs.declared.FrameFault.{FrameFault}
use Rattle.fault.specs.declared.HeaderFault.{HeaderFault}
use Rattle.fault.specs.declared.Layer.TheVariants.{Line as InLine}
use Rattle.fault.specs.declared.LineFault.{LineFault}
use Rattle.table.specs.declared.line.Kind.{Kind}
use Rattle.table.specs.declared.line.Line.{Line}
use Rattle.table.specs.declared.header.Header.{Header}

-- what a good frame shows
pub record GoodFrame (b : List ℕ) : Type 0 where
  pub unrefused : frame_refusal b ≡ None
  pub long : length b ≡ 2 + told_length b
  pub least : 6 ≤ length b
  pub version : byte_at b 2 ≡ 1

abbrev pub FrameChecked : List ℕ → Result Unit FrameFault → Type 0
FrameChecked b (Ok _) = GoodFrame b
FrameChecked b (Err e) = frame_refusal b ≡ Some (frame_told e)

-- what a good header shows
pub record GoodHeader (b : List ℕ) (h : Header) : Type 0 where
  pub unrefused : header_refusal b ≡ None
  pub version : byte_at b 2 ≡ 1
  pub named : kind_numbered (byte_at b 3) ≡ Some h.kind
  pub kind : byte_at b 3 ≡ kind_number h.kind
  pub lookahead : byte_at b 4 ≡ h.lookahead
  pub count : byte_at b 5 ≡ h.flow_count
  pub looks : lookahead_fits h.kind h.lookahead ≡ true
  pub some : 1 ≤ h.flow_count
  pub few : h.flow_count ≤ 16
  pub told : told_length b ≡ 4 + 4 * h.flow_count
  pub long : length b ≡ 6 + 4 * h.flow_count

abbrev pub HeaderRead : List ℕ → Result Header HeaderFault → Type 0
HeaderRead b (Ok h) = GoodHeader b h
HeaderRead b (Err e) = header_refusal b ≡ Some (header_told e)

-- checking a flow's line: the first wrong byte of the two that can be
abbrev pub LineChecked : Kind → ℕ → Line → Result Unit LineFault → Type 0
LineChecked k f l (Ok _) = line_fits k l ≡ true
LineChecked k f l (Err e) =
    cond (one_to_sixteen l.weight)
    (cond (delay_weight_fits k l.delay_weight) None (Some (refusal_of 5 (7 + 4 * f) InLine)))
    (Some (refusal_of 5 (6 + 4 * f) InLine))
    ≡ Some (line_told e)

-- checking all lines
abbrev pub LinesChecked : Kind → List ℕ → Result Unit LineFault → Type 0
LinesChecked k b (Ok _) = wrong_byte k 6 b ≡ None
LinesChecked k b (Err e) = option_map (λ i. refusal_of 5 i InLine) (wrong_byte k 6 b) ≡ Some (line_told e)
