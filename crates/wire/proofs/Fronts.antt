-- The front of a list of bytes as the parts that code reads and the stores that it makes. Assumes nothing.
use Prim.Native.Nat.{ℕ, zero, suc, ◌+◌, ◌*◌, ◌≤◌, ◌<◌}
use mathlib.Core.Path.{◌≡◌, refl, sym, ap, ◌∙◌}
use mathlib.Core.Bool.{Bool, cond, true, false}
use mathlib.Core.List.{List, [], ◌∷◌, ◌++◌, reverse, reverse-cons}
use native.Mathlib.Omega.{arith}
use native.Mathlib.Nat.{zero-add}
use borrow.Author.Tests.{le-leb, lt-leb, leb-true, leb-false}
use lib.Dec.{leb}
use lib.ListN.{length, get_or, take, drop, replicate}
use lib.Seq.{sets, sets-eq, drop-cons, take_all, length-take-le}
use Rattle.wire.specs.Bytes.{part, little, big, front, placed}

-- within the list a part is what `take` and `drop` give
pub part_take : (bytes : List ℕ) (at w : ℕ) → at + w ≤ length bytes → part bytes at w ≡ take w (drop at bytes)
part_take bytes at zero h = refl
part_take bytes at (suc w) h =
    ap (λ (l : List ℕ). get_or bytes at 0 ∷ l) (part_take bytes (suc at) w (omega arith))
    ∙ ap (λ (l : List ℕ). take (suc w) l) (sym (drop-cons bytes at 0 (omega arith)))

pub front_whole : (w : ℕ) (bytes : List ℕ) → w ≤ length bytes → front w bytes ≡ take w bytes
unfolding front
front_whole w bytes h = ap (λ (b : Bool). cond b (take w bytes) []) (le-leb _ _ h)

pub front_short : (w : ℕ) (bytes : List ℕ) → length bytes < w → front w bytes ≡ []
unfolding front
front_short w bytes h = ap (λ (b : Bool). cond b (take w bytes) []) (lt-leb _ _ h)

pub front_part : (w : ℕ) (bytes : List ℕ) → w ≤ length bytes → front w bytes ≡ part bytes 0 w
front_part w bytes h = front_whole w bytes h ∙ sym (part_take bytes 0 w (omega arith))

pub placed_whole : (new old : List ℕ) → length new ≤ length old → placed new old ≡ new ++ drop (length new) old
unfolding placed
placed_whole new old h = ap (λ (b : Bool). cond b (new ++ drop (length new) old) old) (le-leb _ _ h)

pub placed_short : (new old : List ℕ) → length old < length new → placed new old ≡ old
unfolding placed
placed_short new old h = ap (λ (b : Bool). cond b (new ++ drop (length new) old) old) (lt-leb _ _ h)

pub put_short : (new old : List ℕ) → length old < length new → old ≡ placed new old
put_short new old h = sym (placed_short new old h)

-- a run of stores from index 0 on
pub sets_placed : (new old : List ℕ) → length new ≤ length old → sets old 0 new ≡ placed new old
sets_placed new old h =
    sets-eq new old 0 (omega arith)
    ∙ ap (λ (k : ℕ). new ++ drop k old) (zero-add (length new))
    ∙ sym (placed_whole new old h)

-- the first w bytes, and zeros where the list has fewer
part_none : (at w : ℕ) → part [] at w ≡ replicate w 0
part_none at zero = refl
part_none at (suc w) = ap (λ (l : List ℕ). 0 ∷ l) (part_none (suc at) w)

pub padded_whole : (w : ℕ) (bytes : List ℕ) → w ≤ length bytes → part (front w bytes) 0 w ≡ take w bytes
padded_whole w bytes h =
    let e : length (take w bytes) ≡ w = length-take-le w bytes h in
    ap (λ (l : List ℕ). part l 0 w) (front_whole w bytes h)
    ∙ part_take (take w bytes) 0 w (omega arith)
    ∙ take_all w (take w bytes) (omega arith)

pub padded_short : (w : ℕ) (bytes : List ℕ) → length bytes < w → part (front w bytes) 0 w ≡ replicate w 0
padded_short w bytes h = ap (λ (l : List ℕ). part l 0 w) (front_short w bytes h) ∙ part_none 0 w

-- they stand for the number that the first bytes stand for: none and zeros both stand for 0
little_zeros : (w : ℕ) → little (replicate w 0) ≡ 0
little_zeros zero = refl
little_zeros (suc w) = let e = little_zeros w in omega arith

zero_above : (l : List ℕ) → little (l ++ (0 ∷ [])) ≡ little l
zero_above [] = refl
zero_above (b ∷ l) = ap (λ (n : ℕ). b + 256 * n) (zero_above l)

big_zeros : (w : ℕ) → big (replicate w 0) ≡ 0
big_zeros zero = refl
big_zeros (suc w) = ap little (reverse-cons 0 (replicate w 0)) ∙ zero_above (reverse (replicate w 0)) ∙ big_zeros w

by_length : (P : List ℕ → ℕ) (w : ℕ) (bytes : List ℕ) → P (replicate w 0) ≡ P [] → P (part (front w bytes) 0 w) ≡ P (front w bytes)
by_length P w bytes e = by (leb w (length bytes)) refl
  where
    by : (t : Bool) → leb w (length bytes) ≡ t → P (part (front w bytes) 0 w) ≡ P (front w bytes)
    by true h = let fits : w ≤ length bytes = leb-true _ _ h in ap P (padded_whole w bytes fits ∙ sym (front_whole w bytes fits))
    by false h = let less : length bytes < w = leb-false _ _ h in ap P (padded_short w bytes less) ∙ e ∙ ap P (sym (front_short w bytes less))

pub little_padded : (w : ℕ) (bytes : List ℕ) → little (part (front w bytes) 0 w) ≡ little (front w bytes)
little_padded w bytes = by_length little w bytes (little_zeros w)

pub big_padded : (w : ℕ) (bytes : List ℕ) → big (part (front w bytes) 0 w) ≡ big (front w bytes)
big_padded w bytes = by_length big w bytes (big_zeros w)

-- one byte is the first, or 0
pub first_byte : (bytes : List ℕ) → little (front 1 bytes) ≡ get_or bytes 0 0
first_byte [] = ap little (front_short 1 [] (omega arith))
first_byte (b ∷ rest) = ap little (front_part 1 (b ∷ rest) (omega arith)) ∙ omega arith
