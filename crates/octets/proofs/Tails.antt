-- An output whose tail was lent for writing.
use Rattle.std.proofs.Common.{◌≡◌, ℕ, ◌+◌, ◌-◌, ◌≤◌, List, [], ◌++◌, length, take, drop, Ok, refl, ap, ◌∙◌, append-nil, arith, length-drop}
use borrow.Rule.Slice.PartMut.{put_mid}
use Rattle.std.proofs.lemmas.List.{drop_all, drop_at, drop-drop, length-take-le, take_all, take_at}
use Rattle.std.specs.List.{between}
use Rattle.octets.specs.Output.{pasted, Written}

-- what a list is, once its tail from `at` on was lent and came back with bs in front
tail_pasted :
    (xs ys bs : List ℕ) (at : ℕ)
    → at ≤ length xs
    → ys ≡ bs ++ drop (length bs) (take (length xs - at) (drop at xs))
    → put_mid at (length xs - at) xs ys ≡ pasted xs at bs
tail_pasted xs ys bs at h e =
    let l : length (drop at xs) ≤ length xs - at = simp length-drop (omega arith) in
    let whole : take (length xs - at) (drop at xs) ≡ drop at xs = take_all (length xs - at) (drop at xs) l in
    let none : drop (length xs - at) (drop at xs) ≡ [] = drop_all (length xs - at) (drop at xs) l in
    simp (e, none, whole, drop-drop, append-nil)

-- bytes that were pasted stand between the place and the next one
pasted_between :
    (xs bs : List ℕ) (at next : ℕ)
    → at ≤ length xs → next ≡ at + length bs
    → between at next (pasted xs at bs) ≡ bs
pasted_between xs bs at next h e =
    let l : length (take at xs) ≡ at = length-take-le at xs h in
    let n : next - at ≡ length bs = omega arith in
    let d = drop_at (take at xs) (bs ++ drop (at + length bs) xs) at l in
    let t = take_at bs (drop (at + length bs) xs) (length bs) refl in
    cc

-- a write is done, where the tail was lent and came back as ys, with bs in front
pub tail_written :
    (xs ys zs bs : List ℕ) (at next : ℕ)
    → at + length bs ≤ length xs → next ≡ at + length bs
    → zs ≡ put_mid at (length xs - at) xs ys
    → ys ≡ bs ++ drop (length bs) (take (length xs - at) (drop at xs))
    → Written xs at bs zs (Ok next)
tail_written xs ys zs bs at next h e z w =
    let p = z ∙ tail_pasted xs ys bs at (omega arith) w in
    (h, e, p, ap (between at next) p ∙ pasted_between xs bs at next (omega arith) e)
