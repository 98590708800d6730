-- The two fields that the header holds as numbers are small where they are legal. Assumes nothing.
use Prim.Native.Nat.{ℕ, ◌≤◌}
use mathlib.Core.Path.{◌≡◌}
use mathlib.Core.Bool.{true, false, ◌||◌}
use mathlib.Core.Logic.{⊎_elim}
use native.Mathlib.Omega.{arith}
use borrow.Author.Tests.{eqb-true, not-false}
use lib.Dec.{eqb}
use Rattle.message.specs.Refusals.{bad_version, bad_encrypt}
use Rattle.message.proofs.Logic.{or_true}

pub version_low : (version : ℕ) → bad_version version ≡ false → version ≤ 2
version_low v e = low (not-false _ e)
  where
    low : (eqb v 1 || eqb v 2) ≡ true → v ≤ 2
    low h = ⊎_elim (λ a. let f : v ≡ 1 = eqb-true _ _ a in omega arith) (λ b. let f : v ≡ 2 = eqb-true _ _ b in omega arith) (or_true _ _ h)

pub encrypt_low : (encrypt : ℕ) → bad_encrypt encrypt ≡ false → encrypt ≤ 1
encrypt_low v e = low (not-false _ e)
  where
    low : (eqb v 0 || eqb v 1) ≡ true → v ≤ 1
    low h = ⊎_elim (λ a. let f : v ≡ 0 = eqb-true _ _ a in omega arith) (λ b. let f : v ≡ 1 = eqb-true _ _ b in omega arith) (or_true _ _ h)
