-- A number got from the front is the library's number of the first bytes, low byte first, high byte first, and turned. Assumes nothing.
use Prim.Native.Nat.{ℕ, zero, suc, ◌+◌, ◌*◌, ◌-◌, ◌^◌, ◌≤◌, ◌<◌}
use mathlib.Core.Path.{◌≡◌, refl, sym, ap, ◌∙◌}
use mathlib.Core.Bool.{Bool, true, false}
use mathlib.Core.List.{List, [], ◌∷◌, ◌++◌, reverse}
use borrow.Author.Tests.{leb-true, leb-false}
use native.Mathlib.Omega.{arith}
use native.Mathlib.Nat.{pow-suc, zero-add}
use lib.Dec.{leb}
use lib.ListN.{length, get_or, take}
use lib.Seq.{take_all, length-take-le}
use Rattle.std.proofs.Common.{add-one, Fits, w8, w16, w64}
use Rattle.std.specs.Int.{byte_worth, sum_through, from_be_bytes, swap_bytes}
use Rattle.wire.specs.Bytes.{part, little, big, little_bytes, big_bytes, front}
use Rattle.wire.proofs.Digits.{AllBytes, all_of, all_take, bytes_little}
use Rattle.wire.proofs.Fronts.{part_take, front_whole, front_short, little_padded, big_padded}
use Rattle.wire.proofs.Parts.{part_then, length_part}

-- bytes above bytes
little_above : (a b : List ℕ) → little (a ++ b) ≡ little a + 256 ^ length a * little b
little_above [] b = omega arith
little_above (x ∷ a) b = ap (λ (n : ℕ). x + 256 * n) (little_above a b) ∙ rw (pow-suc 256 (length a)) (omega arith)

-- the library adds the highest byte last
low : (n : ℕ) (l : List ℕ) → sum_through (λ i. byte_worth i (get_or l i 0)) n ≡ little (part l 0 (suc n))
low zero l = omega arith
low (suc n) l =
    ap (λ (s : ℕ). s + get_or l (suc n) 0 * 256 ^ suc n) (low n l)
    ∙ sym (little_above (part l 0 (suc n)) (part l (suc n) 1) ∙ rw (length_part l 0 (suc n)) (omega arith))
    ∙ ap little (ap (λ (i : ℕ). part l 0 (suc n) ++ part l i 1) (sym (zero-add (suc n))) ∙ part_then l 0 (suc n) 1 ∙ ap (λ (k : ℕ). part l 0 k) (add-one (suc n)))

pub got_low : {x : ℕ} {r : List ℕ} (w : ℕ) (bytes : List ℕ) → 0 < w → r ≡ part (front w bytes) 0 w → x ≡ sum_through (λ i. byte_worth i (get_or r i 0)) (w - 1) → x ≡ little (front w bytes)
got_low w bytes h e f =
    let all = part (front w bytes) 0 w in
    let l : length all ≡ w = length_part (front w bytes) 0 w in
    let k : suc (w - 1) ≡ w = omega arith in
    f
    ∙ ap (λ (r : List ℕ). sum_through (λ i. byte_worth i (get_or r i 0)) (w - 1)) e
    ∙ low (w - 1) all
    ∙ ap little (ap (λ (n : ℕ). part all 0 n) k ∙ part_take all 0 w (omega arith) ∙ take_all w all (omega arith))
    ∙ little_padded w bytes

high : (l : List ℕ) → from_be_bytes w16 l ≡ big (part l 0 2)
high l = omega arith

pub got_high : {x : ℕ} {r : List ℕ} (bytes : List ℕ) → r ≡ part (front 2 bytes) 0 2 → x ≡ from_be_bytes w16 r → x ≡ big (front 2 bytes)
got_high {r} bytes e f = f ∙ high r ∙ ap (λ (l : List ℕ). big (part l 0 2)) e ∙ big_padded 2 bytes

-- the bytes of a number, highest first
swapped : (x : ℕ) → swap_bytes w64 x ≡ big (little_bytes 8 x)
swapped x = omega arith

pub got_turned : {x y : ℕ} (bytes : List ℕ) → ((i : ℕ) → Fits w8 (get_or bytes i 0)) → x ≡ little (front 8 bytes) → y ≡ swap_bytes w64 x → y ≡ big (front 8 bytes)
got_turned bytes fit e f =
    f ∙ ap (λ (n : ℕ). swap_bytes w64 n) e ∙ swapped (little (front 8 bytes)) ∙ by (leb 8 (length bytes)) refl
  where
    all : AllBytes bytes
    all = all_of bytes (λ i. omega (arith, fit i))

    by : (t : Bool) → leb 8 (length bytes) ≡ t → big (little_bytes 8 (little (front 8 bytes))) ≡ big (front 8 bytes)
    by true h =
        let fits : 8 ≤ length bytes = leb-true _ _ h in
        rw (front_whole 8 bytes fits)
        (ap (λ (n : ℕ). big (little_bytes n (little (take 8 bytes)))) (sym (length-take-le 8 bytes fits)) ∙ ap big (bytes_little (all_take 8 all)))
    by false h = let less : length bytes < 8 = leb-false _ _ h in rw (front_short 8 bytes less) refl

-- the same of any width, by the bytes: the number of the bytes in the other order
pub got_big : {g r : ℕ} (w : ℕ) → little (big_bytes w 0) ≡ 0 → (bytes : List ℕ) → AllBytes bytes → g ≡ little (front w bytes) → r ≡ little (big_bytes w g) → r ≡ big (front w bytes)
got_big {g} {r} w none bytes all e f =
    f ∙ ap (λ (x : ℕ). little (big_bytes w x)) e ∙ by (leb w (length bytes)) refl
  where
    short : length bytes < w → little (big_bytes w (little (front w bytes))) ≡ big (front w bytes)
    short h = rw (front_short w bytes h) none

    whole : w ≤ length bytes → little (big_bytes w (little (front w bytes))) ≡ big (front w bytes)
    whole h =
        rw (front_whole w bytes h)
        (ap (λ (l : List ℕ). little (reverse l))
        (ap (λ (n : ℕ). little_bytes n (little (take w bytes))) (sym (length-take-le w bytes h)) ∙ bytes_little (all_take w all)))

    by : (t : Bool) → leb w (length bytes) ≡ t → little (big_bytes w (little (front w bytes))) ≡ big (front w bytes)
    by true e = whole (leb-true _ _ e)
    by false e = short (leb-false _ _ e)
