-- A table that is longer than any flow count makes it: it is refused as one of no flows is, whatever else it says.
use Rattle.std.proofs.Common.{◌≡◌, ℕ, suc, ◌+◌, ◌-◌, ◌*◌, ◌<◌, ◌≤◌, Bool, true, false, cond, not, ◌||◌, List, [], ◌∷◌, ◌++◌, length, take, Some, None, Option, refl, sym, ap, ◌∙◌, arith, nat_lt, ◌==◌}
use Rattle.std.proofs.lemmas.Bool.Decides.{nat_tests}
use Rattle.std.proofs.Math.ListN.{drop_of_length-le}
use Rattle.std.proofs.lemmas.List.{length-take-le}
use Rattle.std.proofs.lemmas.Bool.{ltb-true, ltb-false}
use Rattle.std.specs.Option.{option_or}
use Rattle.octets.proofs.Fronts.{listed, listed_front}
use Rattle.fault.specs.Faults.{refusal_of}
use Rattle.fault.specs.declared.Layer.TheVariants.{Header}
use Rattle.fault.specs.declared.Refusal.{Refusal}
use Rattle.octets.specs.BigEndian.{be_number, byte_at, told_length}
use Rattle.octets.specs.Ranges.{one_to_sixteen}
use Rattle.table.specs.Lines.{kind_numbered, lookahead_fits}
use Rattle.table.specs.Refusals.{fields_refusal, frame_refusal, lines_refusal, table_refusal}
use Rattle.table.specs.declared.line.Kind.{Kind}
use Rattle.fault.specs.declared.RunFault.TheVariants.{Creation}
use Rattle.runner.specs.Output.{cut_table, events_part, outcome_by, outcome_of, refused_by, table_fault, table_part}
use Rattle.runner.proofs.Tables.{cut_table_refused}

-- what is wrong with the fields of a header whose flow count fits no length
abbrev misfit : Option Kind → ℕ → Refusal
misfit None lookahead = refusal_of 3 3 Header
misfit (Some k) lookahead = cond (lookahead_fits k lookahead) (refusal_of 4 5 Header) (refusal_of 3 4 Header)

no_count_fits : (c told : ℕ) → 68 < told → (not (one_to_sixteen c) || not (told == 4 + 4 * c)) ≡ true
no_count_fits c told h = grind (arith, nat_tests)

fields_misfit :
    (b : List ℕ) (k : Option Kind)
    → (not (one_to_sixteen (byte_at b 5)) || not (told_length b == 4 + 4 * byte_at b 5)) ≡ true
    → fields_refusal b k ≡ Some (misfit k (byte_at b 4))
fields_misfit b None h = refl
fields_misfit b (Some k) h =
    ap (λ w. cond (not (lookahead_fits k (byte_at b 4))) (Some (refusal_of 3 4 Header)) (cond w (Some (refusal_of 4 5 Header)) None)) h
    ∙ by_fit (lookahead_fits k (byte_at b 4))
  where
    by_fit :
        (w : Bool)
        → cond (not w) (Some (refusal_of 3 4 Header)) (Some (refusal_of 4 5 Header))
        ≡ Some (cond w (refusal_of 4 5 Header) (refusal_of 3 4 Header))
    by_fit true = refl
    by_fit false = refl

-- lines are not looked at once the fields are refused
lines_aside :
    (frame : Option Refusal) (r : Refusal) (x y : Option Refusal)
    → option_or (option_or frame (Some r)) x ≡ option_or (option_or frame (Some r)) y
lines_aside None r x y = refl
lines_aside (Some f) r x y = refl

-- a table of these six bytes and others, as long as it says
refused_alike :
    (h l v k p c : ℕ) (xs : List ℕ)
    → 68 < be_number (h ∷ l ∷ [])
    → 6 + length xs ≡ be_number (h ∷ l ∷ []) + 2
    → table_refusal (h ∷ l ∷ v ∷ k ∷ p ∷ c ∷ xs) ≡ table_refusal (0 ∷ 4 ∷ v ∷ k ∷ p ∷ 0 ∷ [])
refused_alike h l v k p c xs long n =
    let b : List ℕ = h ∷ l ∷ v ∷ k ∷ p ∷ c ∷ xs in
    let d : List ℕ = 0 ∷ 4 ∷ v ∷ k ∷ p ∷ 0 ∷ [] in
    let kind = kind_numbered k in
    let frames : frame_refusal b ≡ frame_refusal d = grind (arith, nat_tests) in
    let of_b : fields_refusal b kind ≡ Some (misfit kind p) = fields_misfit b kind (no_count_fits c (be_number (h ∷ l ∷ [])) long) in
    let of_d : fields_refusal d kind ≡ Some (misfit kind p) = fields_misfit d kind refl in
    ap (λ o. option_or (option_or (frame_refusal b) o) (lines_refusal b kind)) of_b
    ∙ ap (λ o. option_or (option_or o (Some (misfit kind p))) (lines_refusal b kind)) frames
    ∙ lines_aside (frame_refusal d) (misfit kind p) (lines_refusal b kind) (lines_refusal d kind)
    ∙ sym (ap (λ o. option_or (option_or (frame_refusal d) o) (lines_refusal d kind)) of_d)

-- an input that begins with these six bytes
long_outcome_of :
    (h l v k p c : ℕ) (rest : List ℕ) (r : Refusal)
    → 68 < be_number (h ∷ l ∷ [])
    → table_refusal (0 ∷ 4 ∷ v ∷ k ∷ p ∷ 0 ∷ []) ≡ Some r
    → outcome_of (h ∷ l ∷ v ∷ k ∷ p ∷ c ∷ rest)
    ≡ cond (nat_lt (length rest) (be_number (h ∷ l ∷ []) - 4)) (refused_by cut_table) (refused_by (Creation (table_fault r)))
long_outcome_of h l v k p c rest r long e = split (nat_lt (length rest) (told - 4)) refl
  where
    told : ℕ
    told = be_number (h ∷ l ∷ [])

    input : List ℕ
    input = h ∷ l ∷ v ∷ k ∷ p ∷ c ∷ rest

    -- all of its table has come
    come : (n : ℕ) → n + 4 ≡ told → n ≤ length rest → outcome_of input ≡ refused_by (Creation (table_fault r))
    come n m le =
        let all : told_length input + 2 ≡ suc (suc (suc (suc (suc (suc n))))) = omega (arith, m) in
        let part : table_part input ≡ h ∷ l ∷ v ∷ k ∷ p ∷ c ∷ take n rest = ap (λ i. take i input) all in
        let size : 6 + length (take n rest) ≡ told + 2 = omega (arith, length-take-le n rest le, m) in
        let refusal = refused_alike h l v k p c (take n rest) long size ∙ e in
        ap (λ b. outcome_by (table_refusal b) b (events_part input)) part
        ∙ ap (λ o. outcome_by o (h ∷ l ∷ v ∷ k ∷ p ∷ c ∷ take n rest) (events_part input)) refusal

    split :
        (w : Bool) → nat_lt (length rest) (told - 4) ≡ w
        → outcome_of input ≡ cond w (refused_by cut_table) (refused_by (Creation (table_fault r)))
    split true s = cut_table_refused input (let lt = ltb-true (length rest) (told - 4) s in omega (arith, lt))
    split false s = come (told - 4) (omega (arith, long)) (ltb-false (length rest) (told - 4) s)

pub long_outcome :
    (b rest : List ℕ) (r : Refusal)
    → length b ≡ 6 → 68 < told_length b
    → table_refusal (0 ∷ 4 ∷ byte_at b 2 ∷ byte_at b 3 ∷ byte_at b 4 ∷ 0 ∷ []) ≡ Some r
    → outcome_of (b ++ rest)
    ≡ cond (nat_lt (length rest) (told_length b - 4)) (refused_by cut_table) (refused_by (Creation (table_fault r)))
long_outcome b rest r n long e =
    let all : b ≡ listed 0 6 b = listed_front 0 6 b (omega (arith, n)) ∙ ap (λ xs. listed 0 6 b ++ xs) (drop_of_length-le b {i = 6} (omega (arith, n))) in
    ap (λ xs. outcome_of (xs ++ rest)) all
    ∙ long_outcome_of (byte_at b 0) (byte_at b 1) (byte_at b 2) (byte_at b 3) (byte_at b 4) (byte_at b 5) rest r long e
