-- Events, one after the other.
use Rattle.std.proofs.Common.{◌≡◌, ◌≢◌, ℕ, List, [], ◌∷◌, ◌++◌, length, None, Ok, Err, Option, Result, false, cond, ◌==◌, refl, sym, ap, ◌∙◌, append_assoc, arith, ◌<◌, length, subst, true, true≢false, ◌&&◌, ◌||◌, nat_lt, IfOk, ◌≤◌, ◌-◌, get_or, take, drop}
use Rattle.std.proofs.lemmas.Bool.Decides.{nat_tests}
use Rattle.std.proofs.Math.Seq.{take-length}
use Rattle.std.proofs.lemmas.Nat.Bits.{bit_at-zero}
use Rattle.std.specs.Option.{option_map}
use Rattle.cell.specs.CellView.{said_by}
use Rattle.cell.specs.ReportSetView.{RestFlagged}
use Rattle.cell_rules.specs.Rules.{Reports, State, decided, flags_clean, has, opened, opening_refusal, outcome}
use Rattle.fault.specs.declared.OpeningFault.TheVariants.{AllDecided}
use Rattle.fault.specs.declared.EventFault.{EventFault}
use Rattle.fault.specs.declared.EventFault.TheVariants.{Unknown}
use Rattle.fault.specs.declared.RunFault.{RunFault}
use Rattle.fault.specs.declared.RunFault.TheVariants.{Event as OfEvent, Opening as OfOpening}
use Rattle.octets.specs.BigEndian.{be_number, byte_at}
use Rattle.record.specs.Layout.{record_bytes}
use Rattle.record.specs.declared.Record.{Record}
use Rattle.table_reference.specs.View.{own}
use Rattle.runner.specs.EventsView.{Gives, Taken, bytes_of, done_by, events_to_come, going_on, held}
use Rattle.runner.specs.Output.{RunOutcome, arrival_done, clean_by, event_done, events, in_front_of, or_stopped, outcome_bytes, phase_done, refused_by, slot_done, stopped, unknown_event, cut_event, partial_event_fault}
use Rattle.runner.specs.Parsing.{BytesOf, begun_bytes, none_begun}
use Rattle.runner.specs.declared.begun.Begun.{Begun}
use Rattle.runner.specs.declared.begun.Begun.TheVariants.{Nothing, Arrival as ArrivalBegun, ArrivalFor, Phase as PhaseBegun, PhaseWith}
use Rattle.runner.specs.declared.event.Event.{Event}
use Rattle.runner.specs.declared.event.Event.TheVariants.{Arrival, Phase}
use Rattle.runner.specs.declared.events.Events.{Events}

-- ## What is written in front

pub in_front_of-append : (v w : List ℕ) (x : RunOutcome) → in_front_of (v ++ w) x ≡ in_front_of v (in_front_of w x)
in_front_of-append v w x = ap (λ bytes. record { written = bytes; refused = x.refused }) (append_assoc v w x.written)

-- ## Events

-- every flow flags in a set in which none has
pub flags_by_mask :
    (s t : Reports) (slot n mask : ℕ) → s ≡ opened slot n → RestFlagged s mask t → flags_clean t ≡ clean_by n mask
flags_by_mask s t slot n mask new flagged =
    λ i. λ f.
    (flagged.clean f
    ∙ ap (λ x. cond (has x.flagged f) (flags_clean x f) (nat_lt f x.flow_count && has mask f)) new
    ∙ ap (λ b. cond (b == 1) (flags_clean (opened slot n) f) (clean_by n mask f)) (bit_at-zero f)) i

-- a slot that is decided on flags as the mask says
pub phase_settled :
    (s t : State own) (clean : ℕ) (set : Reports) (r : Record)
    → opening_refusal s.slot ≡ None
    → flags_clean set ≡ clean_by (length s.rows) clean
    → said_by r ≡ outcome own s (flags_clean set) → r.slot ≡ s.slot → r.flow_count ≡ length s.rows
    → t ≡ decided own s (flags_clean set)
    → phase_done own s clean ≡ going_on (record_bytes r) t
phase_settled s t clean set r unrefused flags said slot count after =
    ap (λ o. or_stopped own (option_map (λ n. OfOpening AllDecided) o) (slot_done own s (clean_by (length s.rows) clean))) unrefused
    ∙ ap (slot_done own s) (sym flags)
    ∙ (λ i. going_on (outcome_bytes (sym said i) (sym count i) (sym slot i)) (sym after i))

-- a whole event in front of others
event_in_front :
    (s : State own) (e : Event) (bs rest : List ℕ)
    → BytesOf e bs
    → events own (Ok s) (bs ++ rest) ≡ in_front_of (done_by s e).written (events own (done_by s e).after rest)
event_in_front s (Arrival f n) bs rest h = ap (λ xs. events own (Ok s) (xs ++ rest)) h
event_in_front s (Phase clean) bs rest (high, low, h, mask) =
    ap (λ xs. events own (Ok s) (xs ++ rest)) h
    ∙ ap (λ m. in_front_of (phase_done own s m).written (events own (phase_done own s m).after rest)) (sym mask)

-- an event that further bytes make whole
pub taken_gives :
    (old mid new : Events) (e : Event) (more : List ℕ) (r : Result (Option Record) RunFault)
    → BytesOf e (begun_bytes old.begun ++ more)
    → held mid ≡ held old → mid.begun ≡ Nothing
    → Taken mid e new r
    → Gives (λ rest. events_to_come old (more ++ rest)) (events_to_come new) r
taken_gives old mid new e more r whole same begun taken = go r taken
  where
    first :
        (rest : List ℕ)
        → events_to_come old (more ++ rest)
        ≡ in_front_of (done_by (held mid) e).written (events own (done_by (held mid) e).after rest)
    first rest =
        ap (events own (Ok (held old))) (sym (append_assoc (begun_bytes old.begun) more rest))
        ∙ event_in_front (held old) e (begun_bytes old.begun ++ more) rest whole
        ∙ ap (λ s. in_front_of (done_by s e).written (events own (done_by s e).after rest)) (sym same)

    go : (x : Result (Option Record) RunFault) → Taken mid e new x → Gives (λ rest. events_to_come old (more ++ rest)) (events_to_come new) x
    go (Ok x) h =
        λ rest.
        first rest
        ∙ ap (λ d. in_front_of d.written (events own d.after rest)) h.0
        ∙ ap (λ b. in_front_of (bytes_of x) (events own (Ok (held new)) (begun_bytes b ++ rest))) (sym (h.1 ∙ begun))
    go (Err x) h = λ rest. first rest ∙ ap (λ d. in_front_of d.written (events own d.after rest)) h

-- a whole event, of which nothing has come before
pub whole_gives :
    (old new : Events) (e : Event) (bs : List ℕ) (r : Result (Option Record) RunFault)
    → old.begun ≡ Nothing
    → BytesOf e bs
    → Taken old e new r
    → Gives (λ rest. events_to_come old (bs ++ rest)) (events_to_come new) r
whole_gives old new e bs r begun whole taken =
    taken_gives old old new e bs r (subst (λ b. BytesOf e (begun_bytes b ++ bs)) (sym begun) whole) refl begun taken

-- what begins like no event is refused, whatever follows
no_event : (s : State own) (e : ℕ) (rest : List ℕ) → e ≢ 0x41 → e ≢ 0x53 → events own (Ok s) (e ∷ rest) ≡ refused_by unknown_event
no_event s e rest no_arrival no_phase = go rest
  where
    x : (e == 0x41) ≡ false
    x = grind (arith, nat_tests)

    y : (e == 0x53) ≡ false
    y = grind (arith, nat_tests)

    unknown : partial_event_fault e ≡ unknown_event
    unknown = ap (λ w. cond (w || (e == 0x53)) cut_event unknown_event) x ∙ ap (λ w. cond w cut_event unknown_event) y

    go : (more : List ℕ) → events own (Ok s) (e ∷ more) ≡ refused_by unknown_event
    go [] = ap refused_by unknown
    go (a ∷ []) = ap refused_by unknown
    go (a ∷ b ∷ more) =
        let arrival = arrival_done own s a b in
        let phase = phase_done own s (be_number (a ∷ b ∷ [])) in
        let none : event_done own s e a b ≡ stopped own unknown_event =
        ap (λ w. cond w arrival (cond (e == 0x53) phase (stopped own unknown_event))) x
        ∙ ap (λ w. cond w phase (stopped own unknown_event)) y in
        ap (λ d. in_front_of d.written (events own d.after more)) none

-- a byte that begins no event
pub none_gives :
    (old : Events) (byte : ℕ) (e : EventFault) (f : RunFault)
    → old.begun ≡ Nothing → byte ≢ 0x41 → byte ≢ 0x53 → e ≡ Unknown
    → f ≡ OfEvent e
    → (rest : List ℕ) → events_to_come old (byte ∷ rest) ≡ refused_by f
none_gives old byte e f begun no_arrival no_phase unknown is rest =
    ap (λ b. events own (Ok (held old)) (begun_bytes b ++ byte ∷ rest)) begun
    ∙ no_event (held old) byte rest no_arrival no_phase
    ∙ sym (ap refused_by (is ∙ ap OfEvent unknown))

-- bytes that begin with no event
pub none_in_front_gives :
    (old : Events) (bs : List ℕ) (e : EventFault) (f : RunFault)
    → 0 < length bs
    → old.begun ≡ Nothing → byte_at bs 0 ≢ 0x41 → byte_at bs 0 ≢ 0x53 → e ≡ Unknown
    → f ≡ OfEvent e
    → (rest : List ℕ) → events_to_come old (bs ++ rest) ≡ refused_by f
none_in_front_gives old [] e f some begun no_arrival no_phase unknown is rest = absurd (omega (arith, some))
none_in_front_gives old (b ∷ bs) e f some begun no_arrival no_phase unknown is rest =
    none_gives old b e f begun no_arrival no_phase unknown is (bs ++ rest)

-- where no byte of an event has come, none is begun
pub nothing_begun : (b : Begun) → none_begun b ≡ true → b ≡ Nothing
nothing_begun Nothing h = refl
nothing_begun ArrivalBegun h = absurd (true≢false (sym h))
nothing_begun (ArrivalFor f) h = absurd (true≢false (sym h))
nothing_begun PhaseBegun h = absurd (true≢false (sym h))
nothing_begun (PhaseWith m) h = absurd (true≢false (sym h))

-- behind an event that is taken, none is begun if none was before
pub none_begun_after :
    (old new : Events) (e : Event) (r : Result (Option Record) RunFault)
    → none_begun old.begun ≡ true
    → Taken old e new r
    → IfOk r (λ _. none_begun new.begun ≡ true)
none_begun_after old new e (Ok r) h taken = ap none_begun taken.1 ∙ h
none_begun_after old new e (Err f) h taken = tt

-- ## Events taken off the front of bytes

-- the first three bytes, and those behind them
pub front_three :
    (xs : List ℕ)
    → 3 ≤ length xs
    → xs ≡ (get_or xs 0 0 ∷ get_or xs 1 0 ∷ get_or xs 2 0 ∷ []) ++ take (length xs - 3) (drop 3 xs)
front_three [] h = absurd (omega (arith, h))
front_three (x ∷ []) h = absurd (omega (arith, h))
front_three (x ∷ y ∷ []) h = absurd (omega (arith, h))
front_three (x ∷ y ∷ z ∷ xs) h =
    let e : length (x ∷ y ∷ z ∷ xs) - 3 ≡ length xs = omega arith in
    ap (λ s. x ∷ y ∷ z ∷ s) (sym (ap (λ n. take n xs) e ∙ take-length xs))

-- what those before gave, and then one more
pub one_more_taken :
    (before mid after : Events) (bytes left front behind written more : List ℕ)
    → ((rest : List ℕ) → events_to_come before (bytes ++ rest) ≡ in_front_of written (events_to_come mid (left ++ rest)))
    → left ≡ front ++ behind
    → ((rest : List ℕ) → events_to_come mid (front ++ rest) ≡ in_front_of more (events_to_come after rest))
    → (rest : List ℕ)
    → events_to_come before (bytes ++ rest) ≡ in_front_of (written ++ more) (events_to_come after (behind ++ rest))
one_more_taken before mid after bytes left front behind written more so_far split gives rest =
    so_far rest
    ∙ ap (λ l. in_front_of written (events_to_come mid l)) (ap (λ l. l ++ rest) split ∙ append_assoc front behind rest)
    ∙ ap (in_front_of written) (gives (behind ++ rest))
    ∙ sym (in_front_of-append written more (events_to_come after (behind ++ rest)))
