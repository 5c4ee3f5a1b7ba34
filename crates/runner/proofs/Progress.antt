-- A run over a reader and a writer, as far as it has come.
use Rattle.std.proofs.Common.{◌≡◌, ℕ, List, [], ◌++◌, ◌<◌, length, Some, None, Option, Ok, Err, Result, IfSome, OnOk, take, sym, ap, ◌∙◌, append_assoc, subst}
use Rattle.std.proofs.lemmas.List.{append-nil}
use Rattle.std.specs.Io.KnownBytes.{Appends, Consumes, IsAtEnd, Keeps, ReadConsumes}
use Rattle.runner.specs.Feeding.{Fed, output_to_come, stop_bytes}
use Rattle.runner.specs.Output.{outcome_of, output_of}
use Rattle.runner.specs.ToCome.{IsDone, to_come}
use Rattle.runner.specs.declared.Run.{Run}
use Rattle.runner.proofs.Feeds.{appends_both, appends_nothing, fed_output}

-- a reader had all, and has what is left; a writer held old, and holds new: what the whole input gives was written, but
-- for what is still to come
abbrev pub Going : Option (List ℕ) → Option (List ℕ) → Run → Option (List ℕ) → Option (List ℕ) → Type 0
Going None left r old new = Unit {0}
Going (Some all) None r old new = ⊥
Going (Some all) (Some left) r old new =
    (written : List ℕ) × Appends old new written × (output_of all ≡ written ++ output_to_come r left)

-- all is written
abbrev pub AllWritten : Option (List ℕ) → Option (List ℕ) → Option (List ℕ) → Type 0
AllWritten all old new = IfSome all (λ input. Appends old new (output_of input))

kept_appends : (old mid new : Option (List ℕ)) (w : List ℕ) → Appends old mid w → Keeps mid new → Appends old new w
kept_appends None mid new w h k = tt
kept_appends (Some xs) None new w h k = absurd h
kept_appends (Some xs) (Some ys) None w h k = absurd k
kept_appends (Some xs) (Some ys) (Some zs) w h k = k ∙ h

pub at_the_start :
    (all out : Option (List ℕ)) (r : Run) → ((input : List ℕ) → to_come r input ≡ outcome_of input) → Going all all r out out
at_the_start None out r h = tt
at_the_start (Some all) out r h = ([], appends_nothing out, sym (ap (λ x. x.written) (h all)))

-- an interrupted read
pub after_no_read :
    (all left rest old new : Option (List ℕ)) (r : Run) → Going all left r old new → Keeps left rest → Going all rest r old new
after_no_read None left rest old new r g k = tt
after_no_read (Some all) None rest old new r g k = absurd g
after_no_read (Some all) (Some xs) None old new r g k = absurd k
after_no_read (Some all) (Some xs) (Some ys) old new r g k =
    (g.0, g.1, g.2 ∙ ap (λ left. g.0 ++ output_to_come r left) (sym k))

-- a chunk was read and fed
pub after_a_chunk :
    (all left rest old mid fed new : Option (List ℕ)) (before after : Run) (bytes : List ℕ)
    → Going all left before old mid
    → Consumes left rest bytes
    → Fed before bytes after mid fed
    → Keeps fed new
    → Going all rest after old new
after_a_chunk None left rest old mid fed new before after bytes g c f k = tt
after_a_chunk (Some all) None rest old mid fed new before after bytes g c f k = absurd g
after_a_chunk (Some all) (Some xs) None old mid fed new before after bytes g c f k = absurd c
after_a_chunk (Some all) (Some xs) (Some ys) old mid fed new before after bytes g c f k = (
  g.0 ++ (f.records ++ stop_bytes f.answer),
  kept_appends old fed new (g.0 ++ (f.records ++ stop_bytes f.answer))
      (appends_both old mid fed g.0 (f.records ++ stop_bytes f.answer) g.1 f.grown) k,
  g.2
      ∙ ap (λ left. g.0 ++ output_to_come before left) c
      ∙ ap (λ s. g.0 ++ s) (fed_output before after bytes ys f.records f.answer f.taken)
      ∙ sym (append_assoc g.0 (f.records ++ stop_bytes f.answer) (output_to_come after ys)),
)

-- the run has stopped
pub once_over :
    (all left old new : Option (List ℕ)) (r : Run)
    → Going all left r old new → IsDone r → AllWritten all old new
once_over None left old new r g over = tt
once_over (Some all) None old new r g over = absurd g
once_over (Some all) (Some xs) old new r g over =
    let e : output_of all ≡ g.0 = g.2 ∙ ap (λ x. g.0 ++ x.written) (over xs) ∙ append-nil g.0 in
    subst (Appends old new) (sym e) g.1

-- the end of the input
pub at_the_end :
    (all left rest old mid last new : Option (List ℕ)) (r : Run)
    → Going all left r old mid
    → Consumes left rest []
    → IsAtEnd rest
    → Appends mid last (output_to_come r [])
    → Keeps last new
    → AllWritten all old new
at_the_end None left rest old mid last new r g c e a k = tt
at_the_end (Some all) None rest old mid last new r g c e a k = absurd g
at_the_end (Some all) (Some xs) None old mid last new r g c e a k = absurd c
at_the_end (Some all) (Some xs) (Some ys) old mid last new r g c e a k =
    let w : output_of all ≡ g.0 ++ output_to_come r [] = g.2 ∙ ap (λ left. g.0 ++ output_to_come r left) (c ∙ e) in
    subst (Appends old new) (sym w) (kept_appends old last new (g.0 ++ output_to_come r []) (appends_both old mid last g.0 (output_to_come r []) g.1 a) k)

-- a read of no bytes into a buffer that has room
pub end_read :
    (E : Type 0) (left rest : Option (List ℕ)) (n : ℕ) (buffer : List ℕ)
    → ReadConsumes {E = E} left rest (Ok n) buffer → n ≡ 0 → 0 < length buffer
    → Consumes left rest [] × IsAtEnd rest
end_read E left rest n buffer h none room = (subst (λ k. Consumes left rest (take k buffer)) none h.0, h.1 none room)

pub whatever_is_told : {T E P : Type 0} (r : Result T E) → P → OnOk r P
whatever_is_told (Ok x) p = p
whatever_is_told (Err e) p = tt
