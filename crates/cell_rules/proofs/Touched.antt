-- Booking touches the rows of the marked flow and of the sender, and no other: code may store two rows.
use Rattle.std.proofs.Common.{◌≡◌, ℕ, ◌<◌, false, List, length, set, Some, None, Option, sym, refl, ◌∙◌, subst, inl, inr, arith}
use Rattle.std.proofs.lemmas.Bool.{cond-false, ne_eqb, cases_eq}
use Rattle.std.proofs.lemmas.List.{ext_get_or, length-set, get_or-set_same, get_or-set_other}
use Rattle.record.specs.Accounts.{names, repaid_sender, charged_sender, free_sender, lead_down_of, lag_up_of, forfeited_by}
use Rattle.record.specs.declared.taking.Charge.{Charge}
use Rattle.record.specs.declared.taking.Charge.TheVariants.{Nothing, LeadDown, LagUp, Forfeited}
use Rattle.record.specs.declared.taking.Taking.{Taking}
use Rattle.record.specs.declared.taking.Taking.TheVariants.{Idle, Own, LagRepaid, LeadCharged, Free}
use Rattle.record.specs.Pairs.{sender_of}
use Rattle.table.specs.Lines.{no_line}
use Rattle.cell_rules.specs.declared.row.Row.{Row}
use Rattle.cell_rules.specs.Rules.{Outcome, at, fresh, once, giving_after, booked_row, booked}
use Rattle.cell_rules.proofs.Booking.{booked_length, booked_at, unnamed}
use Rattle.cell_rules.proofs.Rows.{row_same}

pub set_row :
    (rows : List Row) (f k : ℕ) (x : Row) (P : Row → Type 0) → f < length rows
    → (k ≡ f → P x) → ((k ≡ f → ⊥) → P (at rows k)) → P (at (set rows f x) k)
set_row rows f k x P h same other = elim (cases_eq k f) [
  | inl e ↦ subst (λ i. P (at (set rows f x) i)) (sym e) (subst P (sym (get_or-set_same rows f x (fresh no_line) h)) (same e))
  | inr ne ↦ subst P (sym (get_or-set_other rows f k x (fresh no_line) ne)) (other ne)
]

no_sender :
    (t : Taking) (k : ℕ) → names (sender_of t) k ≡ false
    → (once (sender_of t) k ≡ 0) × (once (free_sender t) k ≡ 0) × (once (charged_sender t) k ≡ 0) × (once (repaid_sender t) k ≡ 0)
no_sender Idle k e = omega arith
no_sender (Own f) k e = let u = unnamed (Some f) k e in omega arith
no_sender (LagRepaid f) k e = let u = unnamed (Some f) k e in omega arith
no_sender (LeadCharged f) k e = let u = unnamed (Some f) k e in omega arith
no_sender (Free f) k e = let u = unnamed (Some f) k e in omega arith

no_mark :
    (m : Option ℕ) (c : Charge) (k : ℕ) → names m k ≡ false
    → (once m k ≡ 0) × (once (lead_down_of c m) k ≡ 0) × (once (lag_up_of c m) k ≡ 0) × (once (forfeited_by c m) k ≡ 0)
no_mark m Nothing k e = let u = unnamed m k e in omega arith
no_mark m LeadDown k e = let u = unnamed m k e in omega arith
no_mark m LagUp k e = let u = unnamed m k e in omega arith
no_mark m Forfeited k e = let u = unnamed m k e in omega arith

untouched :
    (x : Outcome) (k : ℕ) (r : Row) → names x.marked k ≡ false → names (sender_of x.taking) k ≡ false → booked_row x k r ≡ r
untouched x k r e d =
    let s = no_sender x.taking k d in
    let m = no_mark x.marked x.charge k e in
    row_same (booked_row x k r) r refl (omega arith) (omega arith) (omega arith) (omega arith) (omega arith) (omega arith)
    (cond-false (names x.marked k) (giving_after r) r.giving e) refl refl

-- the row of a flow that is named, if one is, in its booked form
abbrev pub put : Option ℕ → Outcome → List Row → List Row → List Row
put None x rows ys = ys
put (Some f) x rows ys = set ys f (booked_row x f (at rows f))

put_length : (o : Option ℕ) (x : Outcome) (rows ys : List Row) → length (put o x rows ys) ≡ length ys
put_length None x rows ys = refl
put_length (Some f) x rows ys = length-set ys f (booked_row x f (at rows f))

put_row :
    (o : Option ℕ) (x : Outcome) (rows ys : List Row) (k : ℕ) (P : Row → Type 0)
    → ((f : ℕ) → o ≡ Some f → f < length ys)
    → P (booked_row x k (at rows k))
    → (names o k ≡ false → P (at ys k))
    → P (at (put o x rows ys) k)
put_row None x rows ys k P inside p q = q refl
put_row (Some f) x rows ys k P inside p q =
    set_row ys f k (booked_row x f (at rows f)) P (inside f refl)
    (λ e. subst (λ j. P (booked_row x j (at rows j))) e p)
    (λ ne. q (ne_eqb f k (λ e. ne (sym e))))

-- the row of the marked flow is stored, and then that of the sender, both as the rules make them of the rows before
pub two_rows :
    (x : Outcome) (rows : List Row)
    → ((m : ℕ) → x.marked ≡ Some m → m < length rows)
    → ((f : ℕ) → sender_of x.taking ≡ Some f → f < length rows)
    → put (sender_of x.taking) x rows (put x.marked x rows rows) ≡ booked x rows
two_rows x rows inside_m inside_f =
    let one : length (put x.marked x rows rows) ≡ length rows = put_length x.marked x rows rows in
    let long : length (put (sender_of x.taking) x rows (put x.marked x rows rows)) ≡ length rows
    = put_length (sender_of x.taking) x rows (put x.marked x rows rows) ∙ one in
    ext_get_or (fresh no_line) (put (sender_of x.taking) x rows (put x.marked x rows rows)) (booked x rows)
    (long ∙ sym (booked_length x rows))
    (λ k u.
    let l : k < length rows = omega (arith, long) in
    let same = booked_at x rows k l in
    put_row (sender_of x.taking) x rows (put x.marked x rows rows) k (λ r. r ≡ at (booked x rows) k)
    (λ f e. omega (arith, inside_f f e, one)) (sym same)
    (λ d. put_row x.marked x rows rows k (λ r. r ≡ at (booked x rows) k) inside_m (sym same)
    (λ e. sym (untouched x k (at rows k) e d) ∙ sym same)))
