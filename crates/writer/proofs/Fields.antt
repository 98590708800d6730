-- Fields that are put into parts of a slice, each as long as its field: every part becomes the bytes of its field, and together they are the fields in
-- their order. Assumes nothing.
use Prim.Native.Nat.{ℕ, ◌≤◌}
use mathlib.Core.Path.{◌≡◌, refl, sym, ap, ◌∙◌}
use mathlib.Core.Bool.{Bool, true, false}
use mathlib.Core.List.{List, [], ◌++◌, append_assoc, append-nil}
use native.Mathlib.Omega.{arith}
use lib.ListN.{length}
use lib.Seq.{take_all}
use Rattle.std.proofs.lemmas.List.{drop_all}
use Rattle.message.specs.Layout.{only}
use Rattle.wire.specs.Bytes.{little_bytes, big_bytes, placed}
use Rattle.wire.proofs.Digits.{length_little, length_big}
use Rattle.wire.proofs.Fronts.{placed_whole}
use Rattle.wire.proofs.Laws.{length_placed}

nil_of : (l : List ℕ) → length l ≡ 0 → l ≡ []
nil_of l h = sym (take_all 0 l (omega arith))

module _ (bytes : ℕ → ℕ → List ℕ) (law : (w x : ℕ) → length (bytes w x) ≡ w) where
  -- a field over its width: one that is absent has no bytes, and leaves its part, which is empty
  pub field : (present : Bool) (w x : ℕ) (old last : List ℕ) → length old ≡ only present w → last ≡ placed (bytes w x) old → last ≡ bytes (only present w) x
  field true w x old last e p =
      let n = law w x in
      let fits : length (bytes w x) ≤ length old = omega arith in
      p ∙ placed_whole (bytes w x) old fits ∙ ap (λ (r : List ℕ). bytes w x ++ r) (drop_all (length (bytes w x)) old (omega arith)) ∙ append-nil (bytes w x)
  field false w x old last e p =
      let none : length last ≡ 0 = ap length p ∙ length_placed (bytes w x) old ∙ e in
      nil_of last none ∙ sym (nil_of (bytes 0 x) (law 0 x))

pub little_field : (present : Bool) (w x : ℕ) (old : List ℕ) {last : List ℕ} → length old ≡ only present w → last ≡ placed (little_bytes w x) old → last ≡ little_bytes (only present w) x
little_field present w x old {last} = field little_bytes length_little present w x old last

pub big_field : (present : Bool) (w x : ℕ) (old : List ℕ) {last : List ℕ} → length old ≡ only present w → last ≡ placed (big_bytes w x) old → last ≡ big_bytes (only present w) x
big_field present w x old {last} = field big_bytes length_big present w x old last

-- five parts, each of which is what it must be
pub five : {a b c d e a' b' c' d' e' : List ℕ} → a ≡ a' → b ≡ b' → c ≡ c' → d ≡ d' → e ≡ e' → a ++ (b ++ (c ++ (d ++ e))) ≡ a' ++ b' ++ c' ++ d' ++ e'
five p q r s t = rw (p, q, r, s, t) (simp append_assoc refl)

-- and one more, which stands after them
pub six : {a b c d e f a' b' c' d' e' f' : List ℕ} → a ≡ a' → b ≡ b' → c ≡ c' → d ≡ d' → e ≡ e' → f ≡ f' → (a ++ (b ++ (c ++ (d ++ e)))) ++ f ≡ a' ++ b' ++ c' ++ d' ++ e' ++ f'
six p q r s t u = rw (p, q, r, s, t, u) (simp append_assoc refl)
