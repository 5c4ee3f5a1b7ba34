-- A table's fault is that of its own refusal.
use Rattle.std.proofs.Common.{◌≡◌, ℕ, ◌+◌, ◌-◌, ◌*◌, ◌/◌, ◌%◌, ◌==◌, cond, true, false, refl, ap, ◌∙◌, arith}
use Rattle.std.proofs.lemmas.Bool.Decides.{nat_tests}
use Rattle.fault.specs.Faults.{line_fault, line_told}
use Rattle.fault.specs.declared.FrameFault.TheVariants.{Length, Version}
use Rattle.fault.specs.declared.HeaderFault.TheVariants.{Frame, Kind, Lookahead, FlowCount}
use Rattle.fault.specs.declared.LineFault.{LineFault}
use Rattle.fault.specs.declared.LineFault.TheVariants.{Header, Weight, DelayWeight}

-- the flow of a line that has this byte
flow_at : (f : ℕ) → (6 + 4 * f) / 4 - 1 ≡ f
flow_at f = omega arith

flow_behind : (f : ℕ) → (7 + 4 * f) / 4 - 1 ≡ f
flow_behind f = omega arith

weight_byte : (f : ℕ) → ((6 + 4 * f) % 4 == 2) ≡ true
weight_byte f = let e : (6 + 4 * f) % 4 ≡ 2 = omega arith in grind (arith, nat_tests)

delay_weight_byte : (f : ℕ) → ((7 + 4 * f) % 4 == 2) ≡ false
delay_weight_byte f = let e : (7 + 4 * f) % 4 ≡ 3 = omega arith in grind (arith, nat_tests)

pub line_fault-line_told : (e : LineFault) → line_fault (line_told e) ≡ e
line_fault-line_told (Header (Frame Length)) = refl
line_fault-line_told (Header (Frame Version)) = refl
line_fault-line_told (Header Kind) = refl
line_fault-line_told (Header Lookahead) = refl
line_fault-line_told (Header FlowCount) = refl
line_fault-line_told (Weight f) =
    ap (λ b. cond b (Weight ((6 + 4 * f) / 4 - 1)) (DelayWeight ((6 + 4 * f) / 4 - 1))) (weight_byte f)
    ∙ ap Weight (flow_at f)
line_fault-line_told (DelayWeight f) =
    ap (λ b. cond b (Weight ((7 + 4 * f) / 4 - 1)) (DelayWeight ((7 + 4 * f) / 4 - 1))) (delay_weight_byte f)
    ∙ ap DelayWeight (flow_behind f)
