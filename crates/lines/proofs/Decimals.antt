-- The fewest digits that hold a number are its digits without leading zeros. Assumes nothing.
use Prim.Native.Nat.{ℕ, zero, suc, ◌-◌, ◌/◌, ◌%◌, ◌^◌, ◌≤◌, ◌<◌}
use mathlib.Core.Path.{◌≡◌, refl, sym, ap, ◌∙◌}
use mathlib.Core.Bool.{Bool, true, false, cond}
use mathlib.Core.List.{[], ◌∷◌}
use native.Mathlib.Omega.{arith}
use native.Mathlib.Nat.{pow-suc, pow-le-pow_right, le-div_iff_mul-le, div-lt_iff_lt-mul}
use borrow.Author.Tests.{lt-ltb, le-ltb, ltb-true, ltb-false}
use lib.Dec.{ltb}
use lib.ListN.{length, length-append}
use Rattle.io.specs.Digits.{hex_digit_ascii, last_digits, IsDigitCount}
use Rattle.lines.specs.Decimal.{places_within, places_of, decimal_text}

-- so many digits are so many bytes
length_digits : (k n : ℕ) → length (last_digits 10 k n) ≡ k
length_digits zero n = refl
length_digits (suc k) n =
    let l = length-append (last_digits 10 k (n / 10)) (hex_digit_ascii (n % 10) ∷ []) in
    let i = length_digits k (n / 10) in
    omega arith

-- a number below 10, and one that is not
places_small : (most n : ℕ) → n < 10 → places_within (suc most) n ≡ 1
unfolding places_within
places_small most n h = ap (λ (b : Bool). cond b 1 (suc (places_within most (n / 10)))) (lt-ltb _ _ h)

places_large : (most n : ℕ) → 10 ≤ n → places_within (suc most) n ≡ suc (places_within most (n / 10))
unfolding places_within
places_large most n h = ap (λ (b : Bool). cond b 1 (suc (places_within most (n / 10)))) (le-ltb _ _ h)

-- there are no more digits than are looked for
places_most : (most n : ℕ) → places_within most n ≤ most
unfolding places_within
places_most zero n = omega arith
places_most (suc most) n = by (ltb n 10) (places_most most (n / 10))
  where
    by : (b : Bool) → places_within most (n / 10) ≤ most → cond b 1 (suc (places_within most (n / 10))) ≤ suc most
    by true i = omega arith
    by false i = omega arith

-- the number of digits, from the bounds that it meets
places_within_lem : (most k n : ℕ) → k < most → n < 10 ^ suc k → (0 < k → 10 ^ k ≤ n) → places_within most n ≡ suc k
places_within_lem zero k n h below above = let z : ⊥ = omega arith in absurd z
places_within_lem (suc most) zero n h below above = places_small most n (omega arith)
places_within_lem (suc most) (suc k) n h below above =
    let up : 10 ^ suc k ≤ n = above (omega arith) in
    let ten : 10 ≤ n = let p : 10 ^ 1 ≤ 10 ^ suc k = pow-le-pow_right {n = 10} (omega arith) {i = 1} {j = suc k} (omega arith) in omega arith in
    let less : n / 10 < 10 ^ suc k = (div-lt_iff_lt-mul {k = 10} (omega arith)).1 (let p = pow-suc 10 (suc k) in omega arith) in
    let more : 10 ^ k ≤ n / 10 = (le-div_iff_mul-le {k = 10} (omega arith)).1 (let p = pow-suc 10 k in omega arith) in
    places_large most n ten ∙ ap suc (places_within_lem most k (n / 10) (omega arith) less (λ _. more))

pred : (k : ℕ) → suc k - 1 ≡ k
pred k = omega arith

-- the fewest digits of a number below 10 ^ 20
fewest_most : (n k : ℕ) → n < 10 ^ 20 → IsDigitCount 10 1 n k → k ≤ 20
fewest_most n k h f = by (ltb 20 k) refl
  where
    by : (b : Bool) → ltb 20 k ≡ b → k ≤ 20
    by true e =
        let l : 20 < k = ltb-true _ _ e in
        let a : 10 ^ (k - 1) ≤ n = f.2 (omega arith) in
        let p : 10 ^ 20 ≤ 10 ^ (k - 1) = pow-le-pow_right {n = 10} (omega arith) {i = 20} {j = k - 1} (omega arith) in
        let z : ⊥ = omega arith in
        absurd z
    by false e = ltb-false _ _ e

fewest_places : (n k : ℕ) → n < 10 ^ 20 → IsDigitCount 10 1 n k → places_of n ≡ k
unfolding places_of
fewest_places n zero h f = let a = f.0 in let z : ⊥ = omega arith in absurd z
fewest_places n (suc k) h f =
    let m : suc k ≤ 20 = fewest_most n (suc k) h f in
    places_within_lem 20 k n (omega arith) f.1 (λ p. let a : 10 ^ (suc k - 1) ≤ n = f.2 (omega arith) in rw (pred k) at a)

-- their bytes are the decimal text
pub fewest_text : (n k : ℕ) → n < 10 ^ 20 → IsDigitCount 10 1 n k → last_digits 10 k n ≡ decimal_text n
unfolding decimal_text
fewest_text n k h f = ap (λ (j : ℕ). last_digits 10 j n) (sym (fewest_places n k h f))

-- a decimal text has at most 20 bytes
pub decimal_most : (n : ℕ) → length (decimal_text n) ≤ 20
unfolding decimal_text places_of
decimal_most n = let l = length_digits (places_within 20 n) n in let m = places_most 20 n in omega arith
