-- A field that may be absent has width 0 where it is, and a get then reads none of its bytes. Assumes nothing.
use Prim.Native.Nat.{ℕ, zero, suc, ◌+◌, ◌-◌, ◌≤◌}
use mathlib.Core.Path.{◌≡◌, refl, ap, subst, ◌∙◌}
use mathlib.Core.Bool.{Bool, true, false}
use mathlib.Core.List.{List, []}
use native.Mathlib.Omega.{arith}
use lib.ListN.{length, take, drop}
use Rattle.wire.specs.Bytes.{part, front}
use Rattle.wire.proofs.Fronts.{front_short}
use Rattle.wire.proofs.Places.{place_get}
use Rattle.message.specs.Layout.{only}

front_none : (w : ℕ) → front w [] ≡ []
unfolding front
front_none zero = refl
front_none (suc w) = front_short (suc w) [] (omega arith)

-- what a get reads between the places of a field and of the next one
pub maybe_get : (bytes : List ℕ) (present : Bool) (at w n : ℕ) → n ≡ only present w → at + n ≤ length bytes → front w (take (at + n - at) (drop at bytes)) ≡ part bytes at (only present w)
maybe_get bytes true at w n e h =
    subst (λ (k : ℕ). front k (take (at + n - at) (drop at bytes)) ≡ part bytes at k) e (place_get bytes at n h)
maybe_get bytes false at w n e h =
    let none : at + n - at ≡ 0 = omega arith in
    ap (λ (k : ℕ). front w (take k (drop at bytes))) none ∙ front_none w
