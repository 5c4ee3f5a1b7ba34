-- A record against its bytes: what reading finds is what was written, and the other way round.
use Rattle.std.proofs.Common.{◌≡◌, ℕ, ◌<◌, ◌≤◌, true, cond, not, List, [], ◌∷◌, length, Some, None, Ok, Err, Option, Result, ok_or, sym, refl, ap, ◌∙◌, arith}
use mathlib.Core.HLevel.{is_prop→PathP}
use mathlib.Core.Bool.{Bool-set}
use native.Mathlib.Bridge.{le_prop}
use Rattle.std.proofs.lemmas.List.{drop_all}
use Rattle.std.proofs.lemmas.Option.{none-some}
use Rattle.std.proofs.lemmas.Bool.{and_parts}
use Rattle.std.proofs.lemmas.Bool.Decides.{nat_tests}
use Rattle.octets.specs.BigEndian.{Bytes, be_number, be_bytes, byte_at, told_length}
use Rattle.record.specs.Pairs.{taking_number, sender_of, taking_of, charge_number, charge_numbered, flow_fits, flows_fit, pair_fits}
use Rattle.record.specs.Layout.{flow_byte, flow_named, record_bytes}
use Rattle.record.specs.Refusals.{record_fits, bytes_fit, record_refusal, RecordRead, Made}
use Rattle.fault.specs.declared.RecordFault.{RecordFault}
use Rattle.record.specs.declared.Record.{Record}
use Rattle.record.specs.declared.taking.Charge.{Charge}
use Rattle.record.specs.declared.taking.Charge.TheVariants.{Nothing, LeadDown, LagUp, Forfeited}
use Rattle.record.specs.declared.taking.Taking.{Taking}
use Rattle.record.specs.declared.taking.Taking.TheVariants.{Idle, Own, LagRepaid, LeadCharged, Free}
use Rattle.octets.proofs.Digits.{bytes_of_number, number_of_bytes}
use Rattle.octets.proofs.Fronts.{listed, listed_front, listed_bytes}

-- From a byte to what it stands for, and back.

flow_from_byte : (b : ℕ) → flow_byte (flow_named b) ≡ b
flow_from_byte b = grind (arith, nat_tests)

charge_from_number : (n : ℕ) (c : Charge) → Some c ≡ charge_numbered n → charge_number c ≡ n
charge_from_number n c h = grind (arith, nat_tests)

taking_from_number : (n : ℕ) (s : Option ℕ) (t : Taking) → Some t ≡ taking_of n s → (taking_number t ≡ n) × (sender_of t ≡ s)
taking_from_number n None t h = (grind (arith, nat_tests), grind (arith, nat_tests))
taking_from_number n (Some s) t h = (grind (arith, nat_tests), grind (arith, nat_tests))

-- From what a record holds to its bytes, and back.

charge_back : (c : Charge) → charge_numbered (charge_number c) ≡ Some c
charge_back Nothing = refl
charge_back LeadDown = refl
charge_back LagUp = refl
charge_back Forfeited = refl

taking_back : (t : Taking) → taking_of (taking_number t) (sender_of t) ≡ Some t
taking_back Idle = refl
taking_back (Own s) = refl
taking_back (LagRepaid s) = refl
taking_back (LeadCharged s) = refl
taking_back (Free s) = refl

-- a flow below sixteen is not taken for none
flow_back : (n : ℕ) (f : Option ℕ) → n ≤ 16 → flow_fits n f ≡ true → flow_named (flow_byte f) ≡ f
flow_back n None few h = refl
flow_back n (Some f) few h = grind (arith, nat_tests)

-- What reading finds.

-- what `ok_or` passes on was there
pub some_from_ok_or : {A E : Type 0} (o : Option A) (e : E) (x : A) → Ok x ≡ ok_or o e → Some x ≡ o
some_from_ok_or None e x h = grind arith
some_from_ok_or (Some y) e x h = grind arith

abbrev slot_bytes : List ℕ → List ℕ
slot_bytes b = byte_at b 8 ∷ byte_at b 9 ∷ byte_at b 10 ∷ byte_at b 11 ∷ []

module _ (b : List ℕ) (m : Option ℕ) (t : Taking) (c : Charge) (n slot : ℕ) (small : Bytes b) (long : length b ≡ 12)
    (told : told_length b ≡ 10) (version : byte_at b 2 ≡ 1) (marked : m ≡ flow_named (byte_at b 3))
    (taking : Some t ≡ taking_of (byte_at b 5) (flow_named (byte_at b 4))) (charge : Some c ≡ charge_numbered (byte_at b 6))
    (count : n ≡ byte_at b 7) (late : slot ≡ be_number (slot_bytes b)) where
  fields_decide : record_refusal b ≡ cond (not (record_fits m t c n slot)) (Some 15) None
  fields_decide =
      let f : bytes_fit b ≡ record_fits m t c n slot = simp (← taking, ← charge, marked, count, late) in
      grind (arith, nat_tests)

  bytes_as_read :
      (r : Record)
      → r.marked ≡ m → r.taking ≡ t → r.charge ≡ c → r.flow_count ≡ n → r.slot ≡ slot
      → record_bytes r ≡ b
  bytes_as_read r em et ec en es =
      let all = listed_front 0 12 b (omega arith) in
      let end = drop_all 12 b (omega arith) in
      let b0 : byte_at b 0 ≡ 0 = omega (arith, small 1) in
      let b1 : byte_at b 1 ≡ 10 = omega (arith, small 0) in
      let m_byte = flow_from_byte (byte_at b 3) in
      let s_byte = flow_from_byte (byte_at b 4) in
      let t_byte = taking_from_number (byte_at b 5) (flow_named (byte_at b 4)) t taking in
      let t_number = t_byte.0 in
      let t_sender = t_byte.1 in
      let c_byte = charge_from_number (byte_at b 6) c charge in
      let slot_digits = bytes_of_number (listed 8 4 b) (listed_bytes 8 4 b small) in
      cc

  pub record_decoded : (r : Result Record RecordFault) → Made m t c n slot r → RecordRead b r
  record_decoded (Ok r) h = (rw h.0 at fields_decide, bytes_as_read r h.1 h.2 h.3 h.4 h.5)
  record_decoded (Err e) h = rw h.0 at fields_decide ∙ ap Some (sym h.1)

-- What was written is read.

module _ (r : Record) where
  flows_back : (flow_named (flow_byte r.marked) ≡ r.marked) × (flow_named (flow_byte (sender_of r.taking)) ≡ sender_of r.taking)
  flows_back =
      let named = and_parts _ _ r.flows in
      let sends = and_parts _ _ named.1 in
      (flow_back r.flow_count r.marked r.few named.0, flow_back r.flow_count (sender_of r.taking) r.few sends.0)

  slot_back : be_number (be_bytes 4 r.slot) ≡ r.slot
  slot_back = number_of_bytes 4 r.slot (omega (arith, r.early))

  fits : record_fits r.marked r.taking r.charge r.flow_count r.slot ≡ true
  fits = grind (arith, nat_tests, r.some, r.few, r.early, r.flows, r.pair)

  bytes_fit_back : bytes_fit (record_bytes r) ≡ true
  bytes_fit_back =
      let fb = flows_back in
      let t : taking_of (taking_number r.taking) (flow_named (flow_byte (sender_of r.taking))) ≡ Some r.taking =
      ap (taking_of (taking_number r.taking)) fb.1 ∙ taking_back r.taking in
      simp (fb.0, t, charge_back r.charge, slot_back) fits

  record_unrefused : record_refusal (record_bytes r) ≡ None
  record_unrefused = rw bytes_fit_back

-- Two records with the same bytes are the same.

-- the facts in a record's ghost fields make no difference
record_same :
    (r s : Record)
    → r.marked ≡ s.marked → r.taking ≡ s.taking → r.charge ≡ s.charge → r.flow_count ≡ s.flow_count
    → r.slot ≡ s.slot
    → r ≡ s
record_same r s m t c n l =
    λ i.
    record {
      marked = m i;
      taking = t i;
      charge = c i;
      flow_count = n i;
      slot = l i;
      some = is_prop→PathP (λ j. 1 ≤ n j) (λ j. le_prop) r.some s.some i;
      few = is_prop→PathP (λ j. n j ≤ 16) (λ j. le_prop) r.few s.few i;
      early = is_prop→PathP (λ j. l j < 1000000000) (λ j. le_prop) r.early s.early i;
      flows = is_prop→PathP (λ j. flows_fit (n j) (m j) (t j) ≡ true) (λ j. Bool-set _ _) r.flows s.flows i;
      pair = is_prop→PathP (λ j. pair_fits (m j) (t j) (c j) ≡ true) (λ j. Bool-set _ _) r.pair s.pair i;
    }

records_alike : (r s : Record) → record_bytes r ≡ record_bytes s → r ≡ s
records_alike r s e =
    let fr = flows_back r in
    let fs = flows_back s in
    let tr = taking_back r.taking in
    let ts = taking_back s.taking in
    let cr = charge_back r.charge in
    let cs = charge_back s.charge in
    let lr = slot_back r in
    let ls = slot_back s in
    record_same r s (cc) (cc) (cc) (cc) (cc)

pub record_read_back : (s : Record) (r : Result Record RecordFault) → RecordRead (record_bytes s) r → r ≡ Ok s
record_read_back s (Ok r) h = ap Ok (records_alike r s h.1)
record_read_back s (Err e) h = absurd (none-some _ (sym (record_unrefused s) ∙ h))
