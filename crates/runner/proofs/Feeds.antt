-- What is written piece by piece.
use Rattle.std.proofs.Common.{◌≡◌, ℕ, List, [], ◌∷◌, ◌++◌, ◌<◌, length, arith, Some, None, Ok, Err, Option, Result, OnOk, is_err, true, false, true≢false, refl, sym, subst, ap, ◌∙◌, append_assoc}
use Rattle.std.proofs.lemmas.List.{append-nil}
use Rattle.std.specs.Io.KnownBytes.{Appends}
use Rattle.fault.specs.Faults.{run_number}
use Rattle.fault.specs.declared.RunFault.{RunFault}
use Rattle.runner.specs.Feeding.{Fed, RunTaken, output_to_come, stop_bytes}
use Rattle.runner.specs.Output.{in_front_of, refusal_bytes, refused_by}
use Rattle.runner.specs.ToCome.{to_come}
use Rattle.runner.proofs.EventSteps.{in_front_of-append}
use Rattle.runner.specs.declared.Run.{Run}

pub appends_nothing : (old : Option (List ℕ)) → Appends old old []
appends_nothing None = tt
appends_nothing (Some xs) = sym (append-nil xs)

pub appends_both :
    (old mid new : Option (List ℕ)) (v w : List ℕ) → Appends old mid v → Appends mid new w → Appends old new (v ++ w)
appends_both None mid new v w h k = tt
appends_both (Some xs) None new v w h k = absurd h
appends_both (Some xs) (Some ys) None v w h k = absurd k
appends_both (Some xs) (Some ys) (Some zs) v w h k = k ∙ ap (λ s. s ++ w) h ∙ append_assoc xs v w

-- Bytes were fed, others are left, and the run goes on: the output grew by records.
pub record FedUpTo (before : Run) (bytes : List ℕ) (after : Run) (left : List ℕ) (old new : Option (List ℕ)) : Type 0 where
  pub records : List ℕ
  pub goes_on : (rest : List ℕ) → to_come before (bytes ++ rest) ≡ in_front_of records (to_come after (left ++ rest))
  pub grown : Appends old new records

pub fed_on :
    (a b c : Run) (bytes left behind records : List ℕ) (answer : Result Unit RunFault) (old mid new : Option (List ℕ))
    → FedUpTo a bytes b left old mid
    → RunTaken b left records c behind answer
    → is_err answer ≡ false
    → Appends mid new records
    → FedUpTo a bytes c behind old new
fed_on a b c bytes left behind records (Err e) old mid new f taken ok grown = absurd (true≢false ok)
fed_on a b c bytes left behind records (Ok x) old mid new f taken ok grown =
    record {
      records = f.records ++ records;
      goes_on =
          λ rest.
          f.goes_on rest
          ∙ ap (in_front_of f.records) (taken rest)
          ∙ sym (in_front_of-append f.records records (to_come c (behind ++ rest)));
      grown = appends_both old mid new f.records records f.grown grown;
    }

pub fed_to_the_refusal :
    (a b c : Run) (bytes left behind records : List ℕ) (answer : Result Unit RunFault) (old mid late new : Option (List ℕ))
    → FedUpTo a bytes b left old mid
    → RunTaken b left records c behind answer
    → is_err answer ≡ true
    → Appends mid late records
    → Appends late new (stop_bytes answer)
    → Fed a bytes c old new
fed_to_the_refusal a b c bytes left behind records (Ok x) old mid late new f taken err grown stop = absurd (true≢false (sym err))
fed_to_the_refusal a b c bytes left behind records (Err e) old mid late new f taken err grown stop =
    record {
      records = f.records ++ records;
      answer = Err e;
      taken = (
        λ rest.
            f.goes_on rest
            ∙ ap (in_front_of f.records) (taken.0 rest)
            ∙ sym (in_front_of-append f.records records (refused_by e)),
        taken.1,
      );
      grown =
          appends_both old late new (f.records ++ records) (stop_bytes (Err e))
          (appends_both old mid late f.records records f.grown grown) stop;
    }

pub fed_to_the_end :
    (a b : Run) (bytes left : List ℕ) (old new : Option (List ℕ))
    → FedUpTo a bytes b left old new
    → left ≡ []
    → Fed a bytes b old new
fed_to_the_end a b bytes left old new f none =
    record {
      records = f.records;
      answer = Ok tt;
      taken = λ rest. f.goes_on rest ∙ ap (λ l. in_front_of f.records (to_come b (l ++ rest))) none;
      grown = subst (Appends old new) (sym (append-nil f.records)) f.grown;
    }

pub where_ok : {T E P Q : Type 0} (r : Result T E) → (P → Q) → OnOk r P → OnOk r Q
where_ok (Ok x) f p = f p
where_ok (Err e) f p = tt

-- the bytes that a run wrote for those that it was fed, and those that it still writes
pub fed_output :
    (a b : Run) (bytes rest : List ℕ) (records : List ℕ) (answer : Result Unit RunFault)
    → RunTaken a bytes records b [] answer
    → output_to_come a (bytes ++ rest) ≡ (records ++ stop_bytes answer) ++ output_to_come b rest
fed_output a b bytes rest records (Ok x) taken =
    ap (λ o. o.written) (taken rest) ∙ sym (ap (λ w. w ++ output_to_come b rest) (append-nil records))
fed_output a b bytes rest records (Err e) taken =
    let all = records ++ refusal_bytes (run_number e) in
    ap (λ o. o.written) (taken.0 rest) ∙ sym (append-nil all) ∙ sym (ap (λ o. all ++ o.written) (taken.1 rest))

pub none_left : (xs : List ℕ) → length xs < 1 → xs ≡ []
none_left [] h = refl
none_left (x ∷ xs) h = absurd (omega (arith, h))
