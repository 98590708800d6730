-- Truth values, and equations put together. Assumes nothing.
use Prim.Native.Nat.{ℕ}
use mathlib.Core.Path.{◌≡◌, refl, sym, ◌∙◌}
use mathlib.Core.Bool.{Bool, true, false, ◌&&◌, ◌||◌}
use mathlib.Core.Logic.{◌⊎◌, inl, inr}
use native.Mathlib.Omega.{arith}

-- what a call gives is a, as its contract says, and b, as a test says
pub so : {A : Type 0} {x a b : A} → x ≡ a → x ≡ b → a ≡ b
so p q = sym p ∙ q

-- both at once: no truth value is true and false
pub clash : {A : Type 0} (t : Bool) → t ≡ true → t ≡ false → A
clash t p q = let z : ◌≡◌ {A = ℕ} 0 1 = cc (p, q) in let w : ⊥ = omega arith in absurd w

pub or_false : (a b : Bool) → (a || b) ≡ false → (a ≡ false) × (b ≡ false)
or_false true b e = clash true refl e
or_false false b e = (refl, e)

pub and_false : (a b : Bool) → (a && b) ≡ false → a ≡ true → b ≡ false
and_false true b e h = e
and_false false b e h = clash false h refl

pub and_true : (a b : Bool) → (a && b) ≡ true → (a ≡ true) × (b ≡ true)
and_true true b e = (refl, e)
and_true false b e = clash false e refl

pub when_true : (a b : Bool) → (a ≡ true → b ≡ false) → (a && b) ≡ false
when_true true b h = h refl
when_true false b h = refl

pub or_true : (a b : Bool) → (a || b) ≡ true → (a ≡ true) ⊎ (b ≡ true)
or_true true b e = inl refl
or_true false b e = inr e
