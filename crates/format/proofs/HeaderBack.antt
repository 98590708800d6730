-- The two headers, from their bits back to the number. Assumes nothing.
use Prim.Native.Nat.{ℕ, zero, suc, ◌+◌, ◌*◌, ◌/◌, ◌%◌, ◌<◌}
use mathlib.Core.Path.{◌≡◌, sym, ap, ◌∙◌}
use mathlib.Core.Bool.{false, not, ◌||◌}
use native.Mathlib.Omega.{arith}
use native.Mathlib.Nat.{div-add-mod, div-div-eq-div-mul, mod-eq_of_lt, div-one}
use lib.Dec.{eqb}
use borrow.Author.Tests.{eqb-true, eqb-false, not-false}
use Rattle.message.specs.Layout.{only}
use Rattle.message.specs.Value.{bits, bit}
use Rattle.message.specs.Refusals.{reserved, bad_exchange}
use Rattle.message.proofs.Logic.{or_false}

-- a flag's bit is the number 0 or 1
only_digit : (d c : ℕ) → d < 2 → only (eqb d 1) c ≡ d * c
only_digit zero c h = omega arith
only_digit (suc zero) c h = omega arith
only_digit (suc (suc d)) c h = let z : ⊥ = omega arith in absurd z

only_bit : (x k c : ℕ) → only (bit x k) c ≡ bits x k 1 * c
only_bit x k c = only_digit (bits x k 1) c (omega arith)

-- a quotient by a, in quotients by a * b
split : (x a b : ℕ) → x / a ≡ b * (x / (a * b)) + x / a % b
split x a b = sym (div-add-mod (x / a) b) ∙ ap (λ (q : ℕ). b * q + x / a % b) (div-div-eq-div-mul x a b)

zero_bit : (d : ℕ) → d < 2 → (d ≡ 1 → ⊥) → d ≡ 0
zero_bit d h f = omega arith

-- the sums, with the quotients and the digits as unknowns
header_sum : (h q4 q8 q9 q10 q11 q12 r0 r4 r8 r9 r10 r11 : ℕ) → h ≡ 16 * q4 + r0 → q4 ≡ 16 * q8 + r4 → q8 ≡ 2 * q9 + r8 → q9 ≡ 2 * q10 + r9
    → q10 ≡ 2 * q11 + r10 → q11 ≡ 2 * q12 + r11 → r0 ≡ 0 → r11 ≡ 0
    → q12 * 4096 + r10 * 1024 + r9 * 512 + r8 * 256 + r4 * 16 ≡ h
header_sum h q4 q8 q9 q10 q11 q12 r0 r4 r8 r9 r10 r11 e0 e4 e8 e9 e10 e11 z0 z11 = omega arith

exchange_sum : (x x1 x2 x3 x4 x5 r0 r1 r2 r3 r4 : ℕ) → x ≡ 2 * x1 + r0 → x1 ≡ 2 * x2 + r1 → x2 ≡ 2 * x3 + r2 → x3 ≡ 2 * x4 + r3 → x4 ≡ 2 * x5 + r4
    → r3 ≡ 0 → r4 ≡ 1 → x5 ≡ 0
    → 16 + r0 * 1 + r1 * 2 + r2 * 4 ≡ x
exchange_sum x x1 x2 x3 x4 x5 r0 r1 r2 r3 r4 e0 e1 e2 e3 e4 z3 z4 z5 = omega arith

pub header_back : (h : ℕ) → h < 65536 → reserved h ≡ false
    → bits h 12 4 * 4096 + only (bit h 10) 1024 + only (bit h 9) 512 + only (bit h 8) 256 + bits h 4 4 * 16 ≡ h
header_back h s e =
    let o = or_false (bit h 11) (not (eqb (bits h 0 4) 0)) e in
    let t : h / 4096 % 16 ≡ h / 4096 = mod-eq_of_lt (omega arith) in
    simp (only_bit h 10 1024, only_bit h 9 512, only_bit h 8 256, t)
    (header_sum h (h / 16) (h / 256) (h / 512) (h / 1024) (h / 2048) (h / 4096) (h % 16) _ _ _ _ _
    (sym (div-add-mod h 16)) (split h 16 16) (split h 256 2) (split h 512 2) (split h 1024 2) (split h 2048 2)
    (ap (λ (n : ℕ). n % 16) (sym (div-one h)) ∙ eqb-true _ _ (not-false _ o.1))
    (zero_bit (h / 2048 % 2) (omega arith) (eqb-false _ _ o.0)))

pub exchange_back : (x : ℕ) → x < 256 → bad_exchange x ≡ false
    → 16 + only (bit x 0) 1 + only (bit x 1) 2 + only (bit x 2) 4 ≡ x
exchange_back x s e =
    let o = or_false (not (bit x 4) || bit x 3) (not (eqb (bits x 5 3) 0)) e in
    let p = or_false (not (bit x 4)) (bit x 3) o.0 in
    let t : x / 32 % 8 ≡ x / 32 = mod-eq_of_lt (omega arith) in
    simp (only_bit x 0 1, only_bit x 1 2, only_bit x 2 4)
    (exchange_sum x (x / 2) (x / 4) (x / 8) (x / 16) (x / 32) (x / 1 % 2) _ _ _ _
    (sym (div-one x) ∙ split x 1 2) (split x 2 2) (split x 4 2) (split x 8 2) (split x 16 2)
    (zero_bit (x / 8 % 2) (omega arith) (eqb-false _ _ p.1))
    (eqb-true _ _ (not-false _ p.0))
    (sym t ∙ eqb-true _ _ (not-false _ o.1)))
