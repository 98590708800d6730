-- Parts of a list of bytes, one after the other, and the numbers in them. Assumes nothing.
use Prim.Native.Nat.{ℕ, zero, suc, ◌+◌, ◌<◌}
use mathlib.Core.Path.{◌≡◌, refl, sym, ap, ap₂, ◌∙◌}
use mathlib.Core.List.{List, [], ◌∷◌, ◌++◌}
use native.Mathlib.Omega.{arith}
use native.Mathlib.Nat.{add-zero, zero-add, add-suc, suc-add}
use lib.ListN.{length, get_or}
use lib.Seq.{get_or-append-add}
use Rattle.wire.specs.Bytes.{part, little, big, little_bytes, big_bytes}
use Rattle.wire.proofs.Digits.{AllBytes, none, more, bytes_little, bytes_big}

-- two parts that follow one another are one
pub part_then : (bytes : List ℕ) (at v w : ℕ) → part bytes at v ++ part bytes (at + v) w ≡ part bytes at (v + w)
part_then bytes at zero w = ap₂ (λ (i n : ℕ). part bytes i n) (add-zero at) (sym (zero-add w))
part_then bytes at (suc v) w =
    let e : at + suc v ≡ suc at + v = omega arith in
    ap (λ (l : List ℕ). get_or bytes at 0 ∷ l) (ap (λ (i : ℕ). part bytes (suc at) v ++ part bytes i w) e ∙ part_then bytes (suc at) v w)
    ∙ ap (λ (n : ℕ). part bytes at n) (sym (suc-add v w))

-- the part after what stands in front, and the part in front
pub part_skip : (before after : List ℕ) (k w : ℕ) → part (before ++ after) (length before + k) w ≡ part after k w
part_skip before after k zero = refl
part_skip before after k (suc w) =
    ap₂ (λ (b : ℕ) (l : List ℕ). b ∷ l)
    (get_or-append-add before after k 0)
    (ap (λ (i : ℕ). part (before ++ after) i w) (sym (add-suc (length before) k)) ∙ part_skip before after (suc k) w)

part_past : (b : ℕ) (after : List ℕ) (at w : ℕ) → part (b ∷ after) (suc at) w ≡ part after at w
part_past b after at zero = refl
part_past b after at (suc w) = ap (λ (l : List ℕ). get_or after at 0 ∷ l) (part_past b after (suc at) w)

pub part_front : (before after : List ℕ) → part (before ++ after) 0 (length before) ≡ before
part_front [] after = refl
part_front (b ∷ before) after =
    ap (λ (l : List ℕ). b ∷ l) (part_past b (before ++ after) 0 (length before) ∙ part_front before after)

pub length_part : (bytes : List ℕ) (at w : ℕ) → length (part bytes at w) ≡ w
length_part bytes at zero = refl
length_part bytes at (suc w) = ap suc (length_part bytes (suc at) w)

-- each element of a list of bytes is a byte, and so is each of a part
pub byte_low : {bytes : List ℕ} → AllBytes bytes → (i : ℕ) → get_or bytes i 0 < 256
byte_low none i = omega arith
byte_low (more h p) zero = h
byte_low (more h p) (suc i) = byte_low p i

pub all_part : {bytes : List ℕ} → AllBytes bytes → (at w : ℕ) → AllBytes (part bytes at w)
all_part all at zero = none
all_part all at (suc w) = more (byte_low all at) (all_part all (suc at) w)

-- the number in a part, as bytes again
pub little_back : (bytes : List ℕ) → AllBytes bytes → (at w : ℕ) → little_bytes w (little (part bytes at w)) ≡ part bytes at w
little_back bytes all at w =
    ap (λ (n : ℕ). little_bytes n (little (part bytes at w))) (sym (length_part bytes at w)) ∙ bytes_little (all_part all at w)

pub big_back : (bytes : List ℕ) → AllBytes bytes → (at w : ℕ) → big_bytes w (big (part bytes at w)) ≡ part bytes at w
big_back bytes all at w =
    ap (λ (n : ℕ). big_bytes n (big (part bytes at w))) (sym (length_part bytes at w)) ∙ bytes_big (all_part all at w)
