-- A list of known length is its elements spelled out, so that stores into all of its places give a list of what was stored. Assumes nothing.
use Prim.Native.Nat.{ℕ, zero, suc}
use mathlib.Core.Path.{◌≡◌, refl, ap}
use mathlib.Core.List.{List, [], ◌∷◌}
use native.Mathlib.Omega.{arith}
use lib.ListN.{length, get_or, drop, set}

-- the first n elements, one by one
abbrev elements : ℕ → List ℕ → List ℕ
elements zero xs = []
elements (suc n) xs = get_or xs 0 0 ∷ elements n (drop 1 xs)

pub spelled : (n : ℕ) (xs : List ℕ) → length xs ≡ n → xs ≡ elements n xs
spelled zero [] s = refl
spelled zero (x ∷ xs) s = let z : ⊥ = omega arith in absurd z
spelled (suc n) [] s = let z : ⊥ = omega arith in absurd z
spelled (suc n) (x ∷ xs) s = ap (λ (ys : List ℕ). x ∷ ys) (spelled n xs (omega arith))

-- every place is stored to, of two, five and sixteen
pub stored2 : (xs : List ℕ) (a b : ℕ) → length xs ≡ 2 → set (set xs 0 a) 1 b ≡ a ∷ b ∷ []
stored2 xs a b s = ap (λ (ys : List ℕ). set (set ys 0 a) 1 b) (spelled 2 xs s)

pub stored5 : (xs : List ℕ) (a b c d e : ℕ) → length xs ≡ 5 → set (set (set (set (set xs 0 a) 1 b) 2 c) 3 d) 4 e ≡ a ∷ b ∷ c ∷ d ∷ e ∷ []
stored5 xs a b c d e s = ap (λ (ys : List ℕ). set (set (set (set (set ys 0 a) 1 b) 2 c) 3 d) 4 e) (spelled 5 xs s)

pub stored16 : (xs : List ℕ) (a b c d e f g h i j k l m n o p : ℕ) → length xs ≡ 16 → set (set (set (set (set (set (set (set (set (set (set (set (set (set (set (set xs 0 a) 1 b) 2 c) 3 d) 4 e) 5 f) 6 g) 7 h) 8 i) 9 j) 10 k) 11 l) 12 m) 13 n) 14 o) 15 p ≡ a ∷ b ∷ c ∷ d ∷ e ∷ f ∷ g ∷ h ∷ i ∷ j ∷ k ∷ l ∷ m ∷ n ∷ o ∷ p ∷ []
stored16 xs a b c d e f g h i j k l m n o p s =
    ap (λ (ys : List ℕ). set (set (set (set (set (set (set (set (set (set (set (set (set (set (set (set ys 0 a) 1 b) 2 c) 3 d) 4 e) 5 f) 6 g) 7 h) 8 i) 9 j) 10 k) 11 l) 12 m) 13 n) 14 o) 15 p) (spelled 16 xs s)
