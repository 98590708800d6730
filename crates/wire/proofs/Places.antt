-- A number at a place of a longer slice: the part from the place on is passed to a get or lent to a put. Assumes nothing.
use Prim.Native.Nat.{ℕ, ◌+◌, ◌-◌, ◌≤◌}
use mathlib.Core.Path.{◌≡◌, refl, sym, ap, ap₂, ◌∙◌}
use mathlib.Core.List.{List, ◌++◌, append_assoc, append-nil}
use native.Mathlib.Omega.{arith}
use lib.ListN.{length, take, drop, length-drop}
use lib.Seq.{sets, sets-eq, take_all, drop-length, length-take-le, drop-drop}
use Rattle.std.proofs.lemmas.List.{drop_all}
use Rattle.wire.specs.Bytes.{part, front, placed}
use Rattle.wire.proofs.Fronts.{part_take, front_whole, placed_whole}

-- the length of such a part
width : (at w : ℕ) → at + w - at ≡ w
width at w = omega arith

length_within : (bytes : List ℕ) (at w : ℕ) → at + w ≤ length bytes → length (take w (drop at bytes)) ≡ w
length_within bytes at w h = length-take-le w (drop at bytes) (rw (length-drop at bytes) (omega arith))

-- what a get reads
pub place_get : (bytes : List ℕ) (at w : ℕ) → at + w ≤ length bytes → front w (take (at + w - at) (drop at bytes)) ≡ part bytes at w
place_get bytes at w h =
    let l : length (take w (drop at bytes)) ≡ w = length_within bytes at w h in
    ap (λ (n : ℕ). front w (take n (drop at bytes))) (width at w)
    ∙ front_whole w (take w (drop at bytes)) (omega arith)
    ∙ take_all w (take w (drop at bytes)) (omega arith)
    ∙ sym (part_take bytes at w h)

-- what a put leaves in the whole, once the part is back
pub place_put : (old new last : List ℕ) (at w : ℕ) → length new ≡ w → at + w ≤ length old → last ≡ placed new (take (at + w - at) (drop at old))
    → take at old ++ (last ++ drop (at + w - at) (drop at old)) ≡ sets old at new
place_put old new last at w e h p =
    let l : length (take w (drop at old)) ≡ w = length_within old at w h in
    let whole : last ≡ new =
    p
    ∙ ap (λ (n : ℕ). placed new (take n (drop at old))) (width at w)
    ∙ placed_whole new (take w (drop at old)) (omega arith)
    ∙ ap (λ (n : ℕ). new ++ drop n (take w (drop at old))) (e ∙ sym l)
    ∙ ap (λ (r : List ℕ). new ++ r) (drop-length (take w (drop at old)))
    ∙ append-nil new in
    let after : drop (at + w - at) (drop at old) ≡ drop (at + length new) old =
    ap (λ (n : ℕ). drop n (drop at old)) (width at w)
    ∙ drop-drop w at old
    ∙ ap (λ (n : ℕ). drop (at + n) old) (sym e) in
    ap₂ (λ (a b : List ℕ). take at old ++ (a ++ b)) whole after
    ∙ sym (append_assoc (take at old) new (drop (at + length new) old))
    ∙ sym (sets-eq new old at (omega arith))

-- what a copy leaves in the whole: all of a list at the place
pub place_copy : (old from last : List ℕ) (at : ℕ) → at + length from ≤ length old → last ≡ from
    → take at old ++ (last ++ drop (at + length from - at) (drop at old)) ≡ sets old at from
place_copy old from last at h e =
    let x = take (at + length from - at) (drop at old) in
    let l : length x ≡ length from = rw (width at (length from)) (length_within old at (length from) h) in
    let k : length from ≤ length x = omega arith in
    place_put old from last at (length from) refl h
    (e
    ∙ sym (append-nil from)
    ∙ ap (λ (y : List ℕ). from ++ y) (sym (drop_all (length from) x (omega arith)))
    ∙ sym (placed_whole from x k))
