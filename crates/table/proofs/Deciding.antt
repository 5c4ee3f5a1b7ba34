-- The first 65,538 bytes of an input decide what is read of it.
use Rattle.std.proofs.Common.{◌≡◌, ℕ, ◌<◌, ◌≤◌, List, length, take, Some, Ok, Err, Result, sym, ap, ◌∙◌, subst, ⊎_elim, arith}
use Rattle.std.proofs.lemmas.List.{get_or-take, length-take-le, take_all}
use Rattle.std.proofs.lemmas.Bool.{cases_lt}
use Rattle.std.proofs.lemmas.Option.{none-some}
use Rattle.std.proofs.lemmas.Bool.Decides.{nat_tests}
use Rattle.std.specs.Option.{option_or}
use Rattle.octets.specs.BigEndian.{Bytes, byte_at}
use Rattle.fault.specs.Faults.{refusal_of}
use Rattle.table.specs.Lines.{kind_numbered}
use Rattle.table.specs.Refusals.{frame_refusal, fields_refusal, lines_refusal, table_refusal, TableRead}
use Rattle.table.specs.declared.Table.{Table}
use Rattle.fault.specs.declared.Layer.TheVariants.{Frame}
use Rattle.fault.specs.declared.LineFault.{LineFault}

-- more bytes than any length tells
too_long : (b : List ℕ) → byte_at b 0 < 256 → byte_at b 1 < 256 → 65538 ≤ length b → table_refusal b ≡ Some (refusal_of 1 0 Frame)
too_long b h0 h1 l =
    let f : frame_refusal b ≡ Some (refusal_of 1 0 Frame) = grind (arith, nat_tests) in
    ap
    (λ o.
    option_or (option_or o (fields_refusal b (kind_numbered (byte_at b 3)))) (lines_refusal b (kind_numbered (byte_at b 3))))
    f

too_long_alike :
    (b c : List ℕ) (x : Result Table LineFault)
    → table_refusal c ≡ Some (refusal_of 1 0 Frame) → table_refusal b ≡ Some (refusal_of 1 0 Frame)
    → TableRead c x → TableRead b x
too_long_alike b c (Ok t) hc hb h = absurd (none-some _ (sym h.0 ∙ hc))
too_long_alike b c (Err e) hc hb h = hb ∙ sym hc ∙ h

pub front_decides :
    (b : List ℕ) (x : Result Table LineFault)
    → Bytes (take 65538 b) → TableRead (take 65538 b) x → TableRead b x
front_decides b x small h = ⊎_elim long short (cases_lt 65538 (length b))
  where
    short : length b ≤ 65538 → TableRead b x
    short l = subst (λ c. TableRead c x) (take_all 65538 b l) h

    long : 65538 < length b → TableRead b x
    long l =
        let c = take 65538 b in
        let n : length c ≡ 65538 = length-take-le 65538 b (omega arith) in
        let e0 : byte_at c 0 ≡ byte_at b 0 = get_or-take 65538 b 0 0 (omega arith) in
        let e1 : byte_at c 1 ≡ byte_at b 1 = get_or-take 65538 b 1 0 (omega arith) in
        too_long_alike b c x (too_long c (small 0) (small 1) (omega arith))
        (too_long b (omega (arith, small 0)) (omega (arith, small 1)) (omega arith)) h
