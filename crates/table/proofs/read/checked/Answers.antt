use Rattle.std.proofs.Common.{◌≡◌, ◌-◌, length, drop, replicate, length-drop, subst, take, ap, ◌∙◌, arith}
use Rattle.std.specs.Option.{option_map}
use Rattle.std.proofs.lemmas.Result.{err_from_is_err_and}
use Rattle.fault.specs.Faults.{refusal_of}
use Rattle.fault.specs.declared.Layer.TheVariants.{Line}
use Rattle.table.specs.Lines.{no_line}
use Rattle.table.proofs.LineBytes.{blank_lines}
use Rattle.table.proofs.Reading.{rows_read, fit_from_none}
use Rattle.table.proofs.read.checked.Goals as goal

pub returns-in_err-check_lines : goal.returns-in_err-check_lines
returns-in_err-check_lines c =
    let p = err_from_is_err_and c.from_residual-in_err-check_lines.result c.from_residual-in_err-check_lines.ensures.1 in
    let read = rows_read c.args.bytes.now c.in_ok-kind.field-0 c.in_ok-kind.ensures c.sixteen_of-lines.result _
    c.as_chunks.ensures.front c.as_chunks.ensures.front_len c.sixteen_of-lines.ensures.made in
    let told = c.in_err-check_lines.ensures in
    rw (p.1, p.2) (read.1.refusal ∙ rw c.from.ensures at told)

pub invariant_of-result : goal.invariant_of-result
invariant_of-result c =
    let h = c.in_ok-kind.field-0 in
    let good = c.in_ok-kind.ensures in
    let ls = c.sixteen_of-lines.result in
    let read = rows_read c.args.bytes.now h good ls _ c.as_chunks.ensures.front c.as_chunks.ensures.front_len
    c.sixteen_of-lines.ensures.made in
    let n = length c.as_chunks.result.0.now in
    let blank = blank_lines (drop n ls) c.sixteen_of-lines.ensures.spare in
    let checked = c.in_ok-check_lines.ensures in
    record {
      some = good.some;
      few = good.few;
      looks = good.looks;
      fit = fit_from_none h.kind 6 (take h.flow_count ls) (rw c.from.ensures at checked);
      whole = omega arith;
      spare =
          subst (λ m. drop m ls ≡ replicate (16 - m) no_line) read.0
          (blank ∙ ap (λ m. replicate m no_line) (omega (arith, length-drop n ls)));
    }

pub returns : goal.returns
returns c =
    let read = rows_read c.args.bytes.now c.in_ok-kind.field-0 c.in_ok-kind.ensures c.sixteen_of-lines.result _
    c.as_chunks.ensures.front c.as_chunks.ensures.front_len c.sixteen_of-lines.ensures.made in
    let checked = c.in_ok-check_lines.ensures in
    let none = rw c.from.ensures at checked in
    (read.1.refusal ∙ ap (option_map (λ i. refusal_of 5 i Line)) none, read.1.whole (λ i. omega (arith, c.type_inv.bytes i)))
