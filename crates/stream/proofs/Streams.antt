-- The three answers of unframing, and what a whole message tells. Assumes nothing.
use Prim.Native.Nat.{ℕ, ◌+◌, ◌-◌, ◌≤◌, ◌<◌}
use mathlib.Core.Path.{◌≡◌, refl, ap, ◌∙◌}
use mathlib.Core.Bool.{Bool, true, false, cond}
use mathlib.Core.List.{List}
use native.Mathlib.Omega.{arith}
use borrow.Author.Tests.{lt-ltb, le-ltb, ltb-true, ltb-false}
use lib.Dec.{ltb}
use lib.ListN.{length}
use Rattle.stream.specs.Stream.{demanded, wanted, unframed, unframe_of}
use Rattle.message.specs.declared.answers.Unframed.TheVariants.{Whole, Incomplete}

-- what is wanted, while the length field is not whole, and once it is
pub wanted_short : (s : List ℕ) → length s < 2 → wanted s ≡ 2 - length s
wanted_short s h = ap (λ (b : Bool). cond b (2 - length s) (2 + demanded s - length s)) (lt-ltb _ _ h)

pub wanted_long : (s : List ℕ) → 2 ≤ length s → wanted s ≡ 2 + demanded s - length s
wanted_long s h = ap (λ (b : Bool). cond b (2 - length s) (2 + demanded s - length s)) (le-ltb _ _ h)

pub unframe_wants : (s : List ℕ) (w : ℕ) → wanted s ≡ w → 0 < w → unframe_of s ≡ Incomplete w
unfolding unframe_of
unframe_wants s w e h =
    ap (λ (k : ℕ). unframed k (demanded s)) e ∙ ap (λ (b : Bool). cond b (Incomplete w) (Whole (demanded s))) (lt-ltb _ _ h)

pub unframe_whole : (s : List ℕ) → wanted s ≡ 0 → unframe_of s ≡ Whole (demanded s)
unfolding unframe_of
unframe_whole s e = ap (λ (k : ℕ). unframed k (demanded s)) e

whole_of : (t : Bool) (w d n : ℕ) → cond t (Incomplete w) (Whole d) ≡ Whole n → (t ≡ false) × (d ≡ n)
whole_of true w d n e = let z : ◌≡◌ {A = ℕ} 0 1 = cc in let w : ⊥ = omega arith in absurd w
whole_of false w d n e = (refl, cc)

wanted_none : (s : List ℕ) → wanted s ≤ 0 → 2 + demanded s ≤ length s
wanted_none s h = by (ltb (length s) 2) refl
  where
    by : (t : Bool) → ltb (length s) 2 ≡ t → 2 + demanded s ≤ length s
    by true e = let k : length s < 2 = ltb-true _ _ e in let w = wanted_short s k in let z : ⊥ = omega arith in absurd z
    by false e = let k : 2 ≤ length s = ltb-false _ _ e in let w = wanted_long s k in omega arith

-- a whole message has the length that is demanded, and is there
pub whole_there : (s : List ℕ) (n : ℕ) → unframe_of s ≡ Whole n → (demanded s ≡ n) × (2 + n ≤ length s)
unfolding unframe_of
whole_there s n e =
    let r = whole_of (ltb 0 (wanted s)) (wanted s) (demanded s) n e in
    let h : wanted s ≤ 0 = ltb-false _ _ r.0 in
    (r.1, let w = wanted_none s h in let d = r.1 in omega arith)
