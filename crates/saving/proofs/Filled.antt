-- Parts of a slice that are filled with as many bytes as they are long, and such parts one behind the other as one run from its front. Assumes
-- nothing.
use Prim.Native.Nat.{ℕ, ◌+◌, ◌-◌, ◌≤◌}
use mathlib.Core.Path.{◌≡◌, refl, sym, ap, ◌∙◌}
use mathlib.Core.List.{List, ◌++◌, append_assoc, append-nil}
use native.Mathlib.Omega.{arith}
use lib.ListN.{length, take, drop, length-drop}
use lib.Seq.{length-sets, length-take-le}
use Rattle.std.proofs.lemmas.List.{drop_all}
use Rattle.wire.specs.Bytes.{placed}
use Rattle.wire.proofs.Fronts.{placed_whole}
use Rattle.wire.proofs.Places.{place_put}
use Rattle.wire.proofs.Runs.{Wrote, onward}

whole : (new old : List ℕ) → length old ≡ length new → placed new old ≡ new
whole new old e =
    placed_whole new old (omega arith)
    ∙ ap (λ (r : List ℕ). new ++ r) (drop_all (length new) old (omega arith))
    ∙ append-nil new

-- a part becomes what is put into it
pub filled : (new old : List ℕ) {last : List ℕ} → length old ≡ length new → last ≡ placed new old → last ≡ new
filled new old e p = p ∙ whole new old e

-- five parts, each of which is what it must be
pub five : {a b c d e a' b' c' d' e' : List ℕ} → a ≡ a' → b ≡ b' → c ≡ c' → d ≡ d' → e ≡ e' → a ++ (b ++ (c ++ (d ++ e))) ≡ a' ++ b' ++ c' ++ d' ++ e'
five p q r s t = rw (p, q, r, s, t) (simp append_assoc refl)

-- the part of so many bytes from a place on is as long
pub part_length : (bytes : List ℕ) (at w : ℕ) → at + w ≤ length bytes → length (take (at + w - at) (drop at bytes)) ≡ w
part_length bytes at w h =
    let n : at + w - at ≡ w = omega arith in
    ap (λ (k : ℕ). length (take k (drop at bytes))) n ∙ length-take-le w (drop at bytes) (rw (length-drop at bytes) (omega arith))

-- one more is put behind those written so far
pub then_put : {old b bytes : List ℕ} {at : ℕ} → Wrote old 0 b at bytes → (new last : List ℕ) (w : ℕ) → length new ≡ w → at + w ≤ length old → last ≡ new
    → Wrote old 0 (take at b ++ (last ++ drop (at + w - at) (drop at b))) (at + w) (bytes ++ new)
then_put {old} {b} {bytes} {at} f new last w e h p =
    let k : length b ≡ length old = ap length f.buffer ∙ length-sets old 0 bytes in
    let n : length (take (at + w - at) (drop at b)) ≡ length new = part_length b at w (omega (arith, k, h)) ∙ sym e in
    onward new w e f (refl, place_put b new last at w e (omega (arith, k, h)) (p ∙ sym (whole new _ n)))
