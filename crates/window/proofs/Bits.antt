-- The bits of a number: `number` and `bit_at` of specs/Rule.antt, and how shifts and `|` act on them. Assumes nothing.
use Rattle.std.proofs.Common.{◌≡◌, ℕ, zero, suc, ◌+◌, ◌-◌, ◌*◌, ◌/◌, ◌%◌, ◌^◌, ◌<◌, ◌≤◌, Bool, true, false, cond, ◌||◌, eqb, sym, refl, ap, ◌∙◌, ap₂, le_refl, mod-lt, mul_assoc, one-mul, pow-suc, arith, pow-add, shl_exact, shr-shr}
use native.Mathlib.Nat.{mod-one, zero-div, zero-mod, div-eq_of_lt}
use native.Mathlib.Decide.{dec_lt}
use lib.Bits.{bit_or, or_shr, or_mod, shifted_even}
use lib.Pow.{pow-lt, high, low, field, mod-pow-add, shl-shr, mod-mod-pow}
use Rattle.window.specs.Rule.{number, bit_at}

-- equal bits, equal numbers
pub number_ext : (n : ℕ) (f g : ℕ → Bool) → ((k : ℕ) → k < n → f k ≡ g k) → number n f ≡ number n g
unfolding number
number_ext zero f g h = refl
number_ext (suc n) f g h =
    ap₂ (λ (b : Bool) (x : ℕ). cond b (2 ^ n) 0 + x) (h n (le_refl (suc n))) (number_ext n f g (λ k l. h k (omega arith)))

-- a digit is 0 or 1
digit : (d : ℕ) (p : ℕ) → d < 2 → cond (eqb d 1) p 0 ≡ d * p
digit zero p h = omega arith
digit (suc zero) p h = omega arith
digit (suc (suc d)) p h = absurd (omega arith)

-- a number's low bits
pub number_bits : (n m : ℕ) → number n (bit_at m) ≡ m % 2 ^ n
unfolding number bit_at
number_bits zero m = sym (mod-one m)
number_bits (suc n) m =
    ap₂ (λ (x y : ℕ). x + y) (digit (m / 2 ^ n % 2) (2 ^ n) (mod-lt (m / 2 ^ n) (omega arith))) (number_bits n m)
    ∙ sym (mod-pow-add m 1 n) ∙ ap (λ (x : ℕ). m % 2 ^ x) (omega arith)

-- a number whose bits up to n are those of another
pub number_of : (n m : ℕ) (f : ℕ → Bool) → ((k : ℕ) → k < n → bit_at m k ≡ f k) → number n f ≡ m % 2 ^ n
number_of n m f h = sym (number_ext n (bit_at m) f h) ∙ number_bits n m

-- the bits below n are those of the number modulo 2^n
pub bit_mod : (x n k : ℕ) → k < n → bit_at (x % 2 ^ n) k ≡ bit_at x k
unfolding bit_at
bit_mod x n k h =
    let j : ℕ = n - suc k in
    let e : n ≡ j + 1 + k = omega arith in
    ap (λ (i : ℕ). eqb (x % 2 ^ i / 2 ^ k % 2) 1) e
    ∙ ap (λ (i : ℕ). eqb (i % 2) 1) (field x (j + 1) k)
    ∙ ap (λ (i : ℕ). eqb i 1) (mod-mod-pow (x / 2 ^ k) j 1)

cond_mul : (b : Bool) (p : ℕ) → cond b p 0 ≡ cond b 1 0 * p
cond_mul true p = omega arith
cond_mul false p = omega arith

cond_bit : (b : Bool) → eqb (cond b 1 0 % 2) 1 ≡ b
cond_bit true = refl
cond_bit false = refl

pub cond_le : (b : Bool) (p : ℕ) → cond b p 0 ≤ p
cond_le true p = omega arith
cond_le false p = omega arith

pub number_lt : (n : ℕ) (f : ℕ → Bool) → number n f < 2 ^ n
unfolding number
number_lt zero f = omega arith
number_lt (suc n) f = omega (arith, pow-suc 2 n, number_lt n f, cond_le (f n) (2 ^ n))

-- a number of bits has them
pub bits_number : (n : ℕ) (f : ℕ → Bool) (k : ℕ) → k < n → bit_at (number n f) k ≡ f k
unfolding number bit_at
bits_number zero f k h = absurd (omega arith)
bits_number (suc n) f k h = go (bits_number n f k) (dec_lt k n)
  where
    top : number (suc n) f ≡ cond (f n) 1 0 * 2 ^ n + number n f
    top = ap (λ (x : ℕ). x + number n f) (cond_mul (f n) (2 ^ n))

    go : (k < n → bit_at (number n f) k ≡ f k) → Dec (k < n) → bit_at (number (suc n) f) k ≡ f k
    go ih (yes l) =
        sym (bit_mod (number (suc n) f) n k l)
        ∙ ap (λ (x : ℕ). bit_at (x % 2 ^ n) k) top
        ∙ ap (λ (x : ℕ). bit_at x k) (low (cond (f n) 1 0) n (number_lt n f))
        ∙ ih l
    go ih (no l) =
        let e : k ≡ n = omega arith in
        ap (λ (i : ℕ). bit_at (number (suc n) f) i) e
        ∙ ap (λ (x : ℕ). eqb (x / 2 ^ n % 2) 1) top
        ∙ ap (λ (x : ℕ). eqb (x % 2) 1) (high (cond (f n) 1 0) n (number_lt n f))
        ∙ cond_bit (f n) ∙ ap f (sym e)

-- `|`, bit by bit
digit_or : (x y : ℕ) → x < 2 → y < 2 → eqb (bit_or x y) 1 ≡ (eqb x 1 || eqb y 1)
digit_or zero zero hx hy = refl
digit_or zero (suc zero) hx hy = refl
digit_or zero (suc (suc y)) hx hy = absurd (omega arith)
digit_or (suc zero) zero hx hy = refl
digit_or (suc zero) (suc zero) hx hy = refl
digit_or (suc zero) (suc (suc y)) hx hy = absurd (omega arith)
digit_or (suc (suc x)) y hx hy = absurd (omega arith)

pub bit_or_lem : (a b k : ℕ) → bit_at (bit_or a b) k ≡ (bit_at a k || bit_at b k)
unfolding bit_at
bit_or_lem a b k =
    ap (λ (x : ℕ). eqb (x % 2) 1) (or_shr a b k)
    ∙ ap (λ (x : ℕ). eqb x 1) (or_mod (a / 2 ^ k) (b / 2 ^ k) 1)
    ∙ digit_or (a / 2 ^ k % 2) (b / 2 ^ k % 2) (mod-lt (a / 2 ^ k) (omega arith)) (mod-lt (b / 2 ^ k) (omega arith))

-- `<<`: a bit moves up, and the bits below are clear
pub bit_up : (m d k : ℕ) → bit_at (m * 2 ^ d) (d + k) ≡ bit_at m k
unfolding bit_at
bit_up m d k =
    ap (λ (x : ℕ). eqb (x % 2) 1) (sym (shr-shr (m * 2 ^ d) d k) ∙ ap (λ (x : ℕ). x / 2 ^ k) (shl-shr m d))

pub bit_under : (m d k : ℕ) → k < d → bit_at (m * 2 ^ d) k ≡ false
unfolding bit_at
bit_under m d k h =
    let j : ℕ = d - suc k in
    let e : d ≡ suc j + k = omega arith in
    ap (λ (i : ℕ). eqb (m * 2 ^ i / 2 ^ k % 2) 1) e
    ∙ ap (λ (x : ℕ). eqb (x / 2 ^ k % 2) 1) (ap (λ (x : ℕ). m * x) (pow-add 2 (suc j) k) ∙ sym (mul_assoc m (2 ^ suc j) (2 ^ k)))
    ∙ ap (λ (x : ℕ). eqb (x % 2) 1) (shl-shr (m * 2 ^ suc j) k)
    ∙ ap (λ (x : ℕ). eqb x 1) (shifted_even m j)

-- one bit alone, and as a machine of w bits shifts it up
pub shl_one : (k w : ℕ) → k < w → 1 * 2 ^ k % 2 ^ w ≡ 2 ^ k
shl_one k w h = shl_exact {a = 1} 1 k w (omega arith) (omega arith) ∙ one-mul (2 ^ k)

pub bit_one : (j : ℕ) → bit_at (2 ^ j) j ≡ true
unfolding bit_at
bit_one j = ap (λ (x : ℕ). eqb (x / 2 ^ j % 2) 1) (sym (one-mul (2 ^ j))) ∙ ap (λ (x : ℕ). eqb (x % 2) 1) (shl-shr 1 j)

pub bit_other : (j k : ℕ) → (k ≡ j → ⊥) → bit_at (2 ^ j) k ≡ false
unfolding bit_at
bit_other j k h = go (dec_lt k j)
  where
    go : Dec (k < j) → bit_at (2 ^ j) k ≡ false
    go (yes l) = ap (λ (x : ℕ). bit_at x k) (sym (one-mul (2 ^ j))) ∙ bit_under 1 j k l
    go (no l) = ap (λ (x : ℕ). eqb (x % 2) 1) (div-eq_of_lt (pow-lt {i = j} {j = k} (omega arith)))

-- no bit at all
pub bit_none : (k : ℕ) → bit_at 0 k ≡ false
unfolding bit_at
bit_none k = ap (λ (x : ℕ). eqb (x % 2) 1) (zero-div (2 ^ k))

-- `>>` by one: each bit moves down
bit_down : (y k : ℕ) → bit_at (y / 2 ^ 1) k ≡ bit_at y (suc k)
unfolding bit_at
bit_down y k = ap (λ (x : ℕ). eqb (x % 2) 1) (shr-shr y 1 k ∙ ap (λ (i : ℕ). y / 2 ^ i) (omega arith))

-- one bit below a number, all of it up in 64 bits and down by one: what is left of its low bits are those of `<<` and the old highest's bit
pub moved_up : (n m c : ℕ) → n < 64 → bit_or (m * 2 ^ 1 % 2 ^ 64) 1 * 2 ^ suc c % 2 ^ 64 / 2 ^ 1 % 2 ^ n ≡ bit_or (m * 2 ^ suc c) (2 ^ c) % 2 ^ n
moved_up n m c l =
    sym (number_of n (x % 2 ^ 64 / 2 ^ 1) (bit_at y) (λ k h. bit_down (x % 2 ^ 64) k ∙ bit_mod x 64 (suc k) (omega arith) ∙ bits k (omega arith) (dec_lt k c)))
    ∙ number_bits n y
  where
    low : ℕ
    low = bit_or (m * 2 ^ 1 % 2 ^ 64) 1

    x : ℕ
    x = low * 2 ^ suc c

    y : ℕ
    y = bit_or (m * 2 ^ suc c) (2 ^ c)

    bits : (k : ℕ) → k < 63 → Dec (k < c) → bit_at x (suc k) ≡ bit_at y k
    bits k h (yes l) =
        bit_under low (suc c) (suc k) (omega arith)
        ∙ sym (bit_or_lem (m * 2 ^ suc c) (2 ^ c) k
        ∙ ap₂ (λ (a b : Bool). a || b) (bit_under m (suc c) k (omega arith)) (bit_other c k (λ e. omega arith)))
    bits k h (no l) =
        let j : ℕ = k - c in
        let r : k ≡ c + j = omega arith in
        let t : suc k ≡ suc c + j = omega arith in
        let u : m * 2 ^ suc c ≡ m * 2 ^ 1 * 2 ^ c = ap (λ (a : ℕ). m * 2 ^ a) (omega arith) ∙ ap (λ (a : ℕ). m * a) (pow-add 2 1 c) ∙ sym (mul_assoc m (2 ^ 1) (2 ^ c)) in
        ap (bit_at x) t ∙ bit_up low (suc c) j ∙ bit_or_lem (m * 2 ^ 1 % 2 ^ 64) 1 j
        ∙ ap (λ (a : Bool). a || bit_at 1 j) (bit_mod (m * 2 ^ 1) 64 j (omega arith))
        ∙ sym (bit_or_lem (m * 2 ^ suc c) (2 ^ c) k
        ∙ ap₂ (λ (a b : Bool). a || b)
        (ap₂ bit_at u r ∙ bit_up (m * 2 ^ 1) c j)
        (ap₂ bit_at (sym (one-mul (2 ^ c))) r ∙ bit_up 1 c j))

-- past the n marks, `<<` and the old highest's bit leave nothing
pub moved_out : (n m d : ℕ) → n < d → bit_or (m * 2 ^ d) (2 ^ (d - 1)) % 2 ^ n ≡ 0
moved_out n m d l =
    sym (number_of n (bit_or (m * 2 ^ d) (2 ^ (d - 1))) (λ k. false)
    (λ k h. bit_or_lem (m * 2 ^ d) (2 ^ (d - 1)) k
    ∙ ap₂ (λ (x y : Bool). x || y) (bit_under m d k (omega arith)) (bit_other (d - 1) k (λ e. omega arith))))
    ∙ number_of n 0 (λ k. false) (λ k h. bit_none k)
    ∙ zero-mod (2 ^ n)
