-- Numbers as bytes there and back, over the width. Assumes nothing.
use Prim.Native.Nat.{ℕ, zero, suc, ◌+◌, ◌*◌, ◌/◌, ◌%◌, ◌^◌, ◌<◌}
use mathlib.Core.Path.{◌≡◌, refl, sym, ap, ap₂, ◌∙◌}
use mathlib.Core.List.{List, [], ◌∷◌, ◌++◌, reverse, reverse-reverse, reverse-cons}
use native.Mathlib.Omega.{arith}
use native.Mathlib.Nat.{pow-suc, pow-succ', mul_assoc}
use lib.ListN.{length, get_or, take, length-reverse}
use Rattle.wire.specs.Bytes.{little, big, little_bytes, big_bytes}
pub use Rattle.wire.specs.Lengths.{length_little, length_big}

-- a list of bytes
pub data AllBytes : List ℕ → Type 0 where
  none : AllBytes []
  more : {b : ℕ} {l : List ℕ} → b < 256 → AllBytes l → AllBytes (b ∷ l)

pub all_of : (l : List ℕ) → ((i : ℕ) → get_or l i 0 < 256) → AllBytes l
all_of [] h = none
all_of (b ∷ l) h = more (h 0) (all_of l (λ i. h (suc i)))

pub all_append : {a b : List ℕ} → AllBytes a → AllBytes b → AllBytes (a ++ b)
all_append none q = q
all_append (more h p) q = more h (all_append p q)

pub all_reverse : {l : List ℕ} → AllBytes l → AllBytes (reverse l)
all_reverse none = none
all_reverse (more {b} {l} h p) = rw (reverse-cons b l) (all_append (all_reverse p) (more h none))

pub all_little : (w x : ℕ) → AllBytes (little_bytes w x)
all_little zero x = none
all_little (suc w) x = more {b = x % 256} (omega arith) (all_little w (x / 256))

pub all_take : (n : ℕ) {l : List ℕ} → AllBytes l → AllBytes (take n l)
all_take zero p = none
all_take (suc n) none = none
all_take (suc n) (more h p) = more h (all_take n p)

-- a byte in front of the rest
low : (b r : ℕ) → b < 256 → (b + 256 * r) % 256 ≡ b
low b r h = omega arith

high : (b r : ℕ) → b < 256 → (b + 256 * r) / 256 ≡ r
high b r h = omega arith

-- the bytes of the number of bytes
pub bytes_little : {l : List ℕ} → AllBytes l → little_bytes (length l) (little l) ≡ l
bytes_little none = refl
bytes_little (more {b} {l} h p) =
    ap₂ (λ (x : ℕ) (r : List ℕ). x ∷ r) (low b (little l) h) (ap (λ (x : ℕ). little_bytes (length l) x) (high b (little l) h) ∙ bytes_little p)

pub bytes_big : {l : List ℕ} → AllBytes l → big_bytes (length l) (big l) ≡ l
bytes_big {l} p =
    ap (λ (n : ℕ). reverse (little_bytes n (little (reverse l)))) (sym (length-reverse l))
    ∙ ap reverse (bytes_little (all_reverse p))
    ∙ reverse-reverse l

-- the number of the bytes of a number
pub little_of : (w x : ℕ) → x < 256 ^ w → little (little_bytes w x) ≡ x
little_of zero x h = omega arith
little_of (suc w) x h =
    let q : x / 256 < 256 ^ w = omega (arith, pow-suc 256 w) in
    ap (λ (r : ℕ). x % 256 + 256 * r) (little_of w (x / 256) q) ∙ omega arith

pub big_of : (w x : ℕ) → x < 256 ^ w → big (big_bytes w x) ≡ x
big_of w x h = ap little (reverse-reverse (little_bytes w x)) ∙ little_of w x h

-- the bytes of the number whose bytes are those of another in the other order
pub turned : (w x : ℕ) → little_bytes w (little (big_bytes w x)) ≡ big_bytes w x
turned w x =
    ap (λ (n : ℕ). little_bytes n (little (big_bytes w x))) (sym (length_big w x))
    ∙ bytes_little (all_reverse (all_little w x))

-- what stands above w bytes does not show in them
head_low : (x y : ℕ) → (x + 256 * y) % 256 ≡ x % 256
head_low x y = omega arith

tail_low : (x y : ℕ) → (x + 256 * y) / 256 ≡ x / 256 + y
tail_low x y = omega arith

pub bytes_low : (w x q : ℕ) → little_bytes w (x + 256 ^ w * q) ≡ little_bytes w x
bytes_low zero x q = refl
bytes_low (suc w) x q =
    let e : x + 256 ^ suc w * q ≡ x + 256 * (256 ^ w * q) = ap (λ (n : ℕ). x + n) (ap (λ (p : ℕ). p * q) (pow-succ' 256 w) ∙ mul_assoc 256 (256 ^ w) q) in
    ap (λ (n : ℕ). little_bytes (suc w) n) e
    ∙ ap₂ (λ (b : ℕ) (r : List ℕ). b ∷ r) (head_low x (256 ^ w * q)) (ap (λ (n : ℕ). little_bytes w n) (tail_low x (256 ^ w * q)) ∙ bytes_low w (x / 256) q)

-- eight bytes are those of the low half and those of the high half
low_half : (x : ℕ) → little_bytes 4 x ≡ little_bytes 4 (x % 4294967296)
low_half x =
    let e : x ≡ x % 4294967296 + 256 ^ 4 * (x / 4294967296) = omega arith in
    ap (λ (n : ℕ). little_bytes 4 n) e ∙ bytes_low 4 (x % 4294967296) (x / 4294967296)

pub halves : (x : ℕ) → little_bytes 8 x ≡ little_bytes 4 (x % 4294967296) ++ little_bytes 4 (x / 4294967296)
halves x =
    let e : x / 256 / 256 / 256 / 256 ≡ x / 4294967296 = omega arith in
    ap₂ (λ (l : List ℕ) (y : ℕ). l ++ little_bytes 4 y) (low_half x) e
