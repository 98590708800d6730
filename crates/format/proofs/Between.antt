-- A field between what stands before it and what stands after it. Assumes nothing.
use Prim.Native.Nat.{ℕ, ◌+◌, ◌^◌, ◌<◌}
use mathlib.Core.Path.{◌≡◌, refl, sym, ap, ap₂, ◌∙◌}
use mathlib.Core.Bool.{Bool, true, false, not, ◌&&◌}
use mathlib.Core.List.{List, [], ◌++◌, append_assoc}
use native.Mathlib.Nat.{add-zero}
use lib.ListN.{length}
use lib.Dec.{eqb}
use borrow.Author.Tests.{eqb-true, not-false}
use Rattle.wire.specs.Bytes.{part, little, big, little_bytes, big_bytes}
use Rattle.wire.proofs.Digits.{little_of, big_of}
use Rattle.wire.proofs.Parts.{part_skip, part_front}
use Rattle.message.specs.Layout.{only}
use Rattle.message.proofs.Logic.{clash}

-- the part between what stands before and what stands after
pub between : (bs pre vs post : List ℕ) (at w : ℕ) → bs ≡ pre ++ (vs ++ post) → length pre ≡ at → length vs ≡ w → part bs at w ≡ vs
between bs pre vs post at w e p q =
    ap (λ (l : List ℕ). part l at w) e
    ∙ ap₂ (λ (i n : ℕ). part (pre ++ (vs ++ post)) i n) (sym p ∙ sym (add-zero (length pre))) (sym q)
    ∙ part_skip pre (vs ++ post) 0 (length vs)
    ∙ part_front vs post

-- a field that may be absent, and is zero then
pub little_field : (b : Bool) (w x : ℕ) → (b ≡ false → x ≡ 0) → x < 256 ^ w → little (little_bytes (only b w) x) ≡ x
little_field true w x z h = little_of w x h
little_field false w x z h = sym (z refl)

pub big_field : (b : Bool) (w x : ℕ) → (b ≡ false → x ≡ 0) → x < 256 ^ w → big (big_bytes (only b w) x) ≡ x
big_field true w x z h = big_of w x h
big_field false w x z h = sym (z refl)

-- what stands where, for five fields and what follows them
module _ (h i s d k b : List ℕ) where
  unfoldable pub five : List ℕ
  five = h ++ i ++ s ++ d ++ k ++ b

  pub five_h : five ≡ [] ++ (h ++ (i ++ (s ++ (d ++ (k ++ b)))))
  unfolding five
  five_h = simp append_assoc

  pub five_i : five ≡ h ++ (i ++ (s ++ (d ++ (k ++ b))))
  unfolding five
  five_i = simp append_assoc

  pub five_s : five ≡ (h ++ i) ++ (s ++ (d ++ (k ++ b)))
  unfolding five
  five_s = simp append_assoc

  pub five_d : five ≡ (h ++ i ++ s) ++ (d ++ (k ++ b))
  unfolding five
  five_d = simp append_assoc

  pub five_k : five ≡ (h ++ i ++ s ++ d) ++ (k ++ b)
  unfolding five
  five_k = simp append_assoc

pub absent : (b : Bool) (x : ℕ) → (not b && not (eqb x 0)) ≡ false → b ≡ false → x ≡ 0
absent true x e f = clash true refl f
absent false x e f = eqb-true x 0 (not-false _ e)

pub zero_of : (x : ℕ) → not (eqb x 0) ≡ false → x ≡ 0
zero_of x e = eqb-true x 0 (not-false _ e)

-- the part after what stands in front
pub beyond : (bs pre post : List ℕ) (n j w : ℕ) → bs ≡ pre ++ post → length pre ≡ n → part bs (n + j) w ≡ part post j w
beyond bs pre post n j w e q =
    ap (λ (l : List ℕ). part l (n + j) w) e ∙ ap (λ (i : ℕ). part (pre ++ post) (i + j) w) (sym q) ∙ part_skip pre post j w
