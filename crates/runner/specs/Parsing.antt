-- Events, byte by byte.
use Rattle.std.specs.Prelude.{◌≡◌, ◌≢◌, ℕ, Bool, true, false, List, [], ◌∷◌, ◌++◌, Some, None, Ok, Err, Option, Result}
use Rattle.fault.specs.declared.EventFault.{EventFault}
use Rattle.fault.specs.declared.EventFault.TheVariants.{Unknown}
use Rattle.octets.specs.BigEndian.{be_number, byte_at}
use Rattle.runner.specs.declared.begun.Begun.{Begun}
use Rattle.runner.specs.declared.begun.Begun.TheVariants.{Nothing, Arrival as ArrivalBegun, ArrivalFor, Phase as PhaseBegun, PhaseWith}
use Rattle.runner.specs.declared.event.Event.{Event}
use Rattle.runner.specs.declared.event.Event.TheVariants.{Arrival, Phase}

-- the bytes that have come
abbrev pub begun_bytes : Begun → List ℕ
begun_bytes Nothing = []
begun_bytes ArrivalBegun = 0x41 ∷ []
begun_bytes (ArrivalFor f) = 0x41 ∷ f ∷ []
begun_bytes PhaseBegun = 0x53 ∷ []
begun_bytes (PhaseWith high) = 0x53 ∷ high ∷ []

-- whether none have
abbrev pub none_begun : Begun → Bool
none_begun Nothing = true
none_begun ArrivalBegun = false
none_begun (ArrivalFor f) = false
none_begun PhaseBegun = false
none_begun (PhaseWith high) = false

-- the bytes bs are those of an event
abbrev pub BytesOf : Event → List ℕ → Type 0
BytesOf (Arrival f n) bs = bs ≡ 0x41 ∷ f ∷ n ∷ []
BytesOf (Phase clean) bs =
    (high : ℕ) × (low : ℕ) × (bs ≡ 0x53 ∷ high ∷ low ∷ []) × (clean ≡ be_number (high ∷ low ∷ []))

-- what the bytes bs come to: no event yet, or one, after which nothing has come of the next
abbrev pub CameTo : List ℕ → Begun → Option Event → Type 0
CameTo bs begun None = bs ≡ begun_bytes begun
CameTo bs begun (Some e) = BytesOf e bs × (begun ≡ Nothing)

-- a further byte; only the first byte of an event can begin none, and the event is unknown then
abbrev pub Parsed : Begun → ℕ → Result (Begun × Option Event) EventFault → Type 0
Parsed begun byte (Ok x) = CameTo (begun_bytes begun ++ byte ∷ []) x.0 x.1
Parsed begun byte (Err e) = (begun ≡ Nothing) × (byte ≢ 0x41) × (byte ≢ 0x53) × (e ≡ Unknown)

-- reading three bytes: the event that has them, or, where the first begins none, that it is unknown
abbrev pub EventRead : List ℕ → Result Event EventFault → Type 0
EventRead bs (Ok e) = BytesOf e bs
EventRead bs (Err e) = (byte_at bs 0 ≢ 0x41) × (byte_at bs 0 ≢ 0x53) × (e ≡ Unknown)
