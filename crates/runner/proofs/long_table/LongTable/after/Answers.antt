use Rattle.std.proofs.Common.{◌≡◌, ℕ, ◌-◌, List, [], ◌∷◌, cond, length, nat_lt, ap, ◌∙◌, subst, sym, arith}
use Rattle.fault.proofs.Inverses.{line_fault-line_told}
use Rattle.fault.specs.Faults.{line_told}
use Rattle.fault.specs.declared.CreationFault.TheVariants.{Table}
use Rattle.fault.specs.declared.RunFault.TheVariants.{Creation}
use Rattle.octets.specs.BigEndian.{byte_at, told_length}
use Rattle.table.specs.Refusals.{TableRead}
use Rattle.runner.specs.Output.{cut_table, refused_by}
use Rattle.runner.proofs.LongTables.{long_outcome}
use Rattle.runner.proofs.long_table.LongTable.after.Goals as goal

pub returns : goal.returns
returns c =
    λ rest.
    let b = c.args.header in
    let n : length b ≡ 6 = omega arith in
    let six : List ℕ = 0 ∷ 4 ∷ byte_at b 2 ∷ byte_at b 3 ∷ byte_at b 4 ∷ 0 ∷ [] in
    let refused = subst (TableRead six) c.unwrap_err.ensures c.read.ensures.exact in
    let told : told_length b ≡ c.from_bytes.result = sym c.from_bytes.ensures in
    long_outcome b rest (line_told c.unwrap_err.result) n c.requires refused
    ∙ ap
    (λ f. cond (nat_lt (length rest) (told_length b - 4)) (refused_by cut_table) (refused_by (Creation (Table f))))
    (line_fault-line_told c.unwrap_err.result)
    ∙ ap
    (λ t. cond (nat_lt (length rest) (t - 4)) (refused_by cut_table) (refused_by (Creation (Table c.unwrap_err.result))))
    told
