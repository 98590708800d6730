-- A field that is absent: no bytes, at the place where it would begin. Assumes nothing.
use Prim.Native.Nat.{ℕ, ◌+◌}
use mathlib.Core.Path.{◌≡◌, sym, ap, subst}
use mathlib.Core.Bool.{Bool, false}
use mathlib.Core.List.{List, []}
use native.Mathlib.Nat.{add-zero}
use lib.Seq.{sets}
use Rattle.message.specs.Layout.{only}

pub put_absent : (bytes : ℕ → ℕ → List ℕ) (old : List ℕ) (at w x : ℕ) {b : Bool} → b ≡ false → bytes 0 x ≡ [] → (at ≡ at + only b w) × (old ≡ sets old at (bytes (only b w) x))
put_absent bytes old at w x e z =
    subst (λ (k : Bool). (at ≡ at + only k w) × (old ≡ sets old at (bytes (only k w) x))) (sym e)
    (sym (add-zero at), ap (λ (v : List ℕ). sets old at v) (sym z))
