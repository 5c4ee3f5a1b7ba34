use Rattle.std.proofs.Common.{◌≡◌, ◌+◌, ◌*◌, length, take, ap, ◌∙◌, ◌++◌, sym, arith, rules, length-append}
use Rattle.std.specs.List.{flat_map}
use Rattle.std.proofs.lemmas.List.{length-take-le, take_all}
use Rattle.table.specs.Lines.{line_bytes}
use Rattle.table.proofs.LineBytes.{length_lines}
use Rattle.table.proofs.Writing.{front_of, front_and_lines}
use Rattle.table.proofs.Table.bytes.Goals as goal

pub unwrap-requires-in-loop-line : goal.unwrap-requires-in-loop-line
unwrap-requires-in-loop-line c =
    let ls = take c.loop-line.line-index c.lines-line-items.result.now in
    let n : length ls ≡ c.loop-line.line-index = length-take-le c.loop-line.line-index c.lines-line-items.result.now (omega arith) in
    let e : length c.loop-line.bytes.items ≡ 6 + 4 * c.loop-line.line-index =
    ap length c.loop-line.invariant ∙ omega (arith, length-append (front_of c.args.self.now) (flat_map line_bytes ls), length_lines ls) in
    search rules

pub returns : goal.returns
returns c =
    let t = c.args.self.now in
    let ls = c.lines-line-items.result.now in
    let all = take_all c.loop-line.line-index ls (omega arith) in
    c.loop-line.invariant
    ∙ ap (λ xs. front_of t ++ flat_map line_bytes xs) (all ∙ c.lines-line-items.ensures.exact)
    ∙ sym (front_and_lines t)
