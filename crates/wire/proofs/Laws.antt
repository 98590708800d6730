-- The laws of numbers as bytes, each over the width w. Assumes nothing.
--
-- `get` gives `little (front w bytes)`, a node `big (front w bytes)`; `put` leaves `placed (little_bytes w x) old`,
-- a node `placed (big_bytes w x) old`.
use Prim.Native.Nat.{ℕ, ◌≤◌, ◌<◌, ◌^◌}
use mathlib.Core.Path.{◌≡◌, refl, sym, ap, ap₂, ◌∙◌}
use mathlib.Core.Bool.{Bool, true, false}
use mathlib.Core.List.{List, ◌++◌}
use native.Mathlib.Omega.{arith}
use borrow.Author.Tests.{leb-true, leb-false}
use lib.Dec.{leb}
use lib.ListN.{length, take, drop, take-append-drop, length-append, length-drop}
use lib.Seq.{take_at, drop-append_seam, length-take-le}
use Rattle.wire.specs.Bytes.{little, big, little_bytes, big_bytes, front, placed}
use Rattle.wire.proofs.Digits.{AllBytes, all_take, length_little, length_big, bytes_little, bytes_big, little_of, big_of}
use Rattle.wire.proofs.Fronts.{front_whole, placed_whole, placed_short}

-- what was placed is the front
front_placed : (w : ℕ) (new old : List ℕ) → length new ≡ w → w ≤ length old → front w (placed new old) ≡ new
front_placed w new old e h =
    let f : length new ≤ length old = omega arith in
    ap (λ (l : List ℕ). front w l) (placed_whole new old f)
    ∙ front_whole w (new ++ drop (length new) old) (simp length-append (omega arith))
    ∙ take_at new (drop (length new) old) w e

-- bytes that are the front already, where there is room for them, change nothing
placed_again : (w : ℕ) (new old : List ℕ) → length new ≡ w → (w ≤ length old → new ≡ take w old) → placed new old ≡ old
placed_again w new old e f = by (leb w (length old)) refl
  where
    by : (t : Bool) → leb w (length old) ≡ t → placed new old ≡ old
    by true h =
        let fits : w ≤ length old = leb-true _ _ h in
        placed_whole new old (omega arith)
        ∙ ap₂ (λ (l : List ℕ) (n : ℕ). l ++ drop n old) (f fits) e
        ∙ take-append-drop w old
    by false h = let short : length old < w = leb-false _ _ h in placed_short new old (omega arith)

-- the number that was put is the number got: low byte first, and high byte first
pub get_after_put : (w x : ℕ) (old : List ℕ) → x < 256 ^ w → w ≤ length old → little (front w (placed (little_bytes w x) old)) ≡ x
get_after_put w x old s h = ap little (front_placed w (little_bytes w x) old (length_little w x) h) ∙ little_of w x s

pub get_after_put_node : (w x : ℕ) (old : List ℕ) → x < 256 ^ w → w ≤ length old → big (front w (placed (big_bytes w x) old)) ≡ x
get_after_put_node w x old s h = ap big (front_placed w (big_bytes w x) old (length_big w x) h) ∙ big_of w x s

-- the number that was got, put again, changes nothing
pub put_after_get : (w : ℕ) (bytes : List ℕ) → AllBytes bytes → placed (little_bytes w (little (front w bytes))) bytes ≡ bytes
put_after_get w bytes all =
    placed_again w (little_bytes w (little (front w bytes))) bytes (length_little w _) (λ h.
    ap (λ (l : List ℕ). little_bytes w (little l)) (front_whole w bytes h)
    ∙ ap (λ (n : ℕ). little_bytes n (little (take w bytes))) (sym (length-take-le w bytes h))
    ∙ bytes_little (all_take w all))

pub put_after_get_node : (w : ℕ) (bytes : List ℕ) → AllBytes bytes → placed (big_bytes w (big (front w bytes))) bytes ≡ bytes
put_after_get_node w bytes all =
    placed_again w (big_bytes w (big (front w bytes))) bytes (length_big w _) (λ h.
    ap (λ (l : List ℕ). big_bytes w (big l)) (front_whole w bytes h)
    ∙ ap (λ (n : ℕ). big_bytes n (big (take w bytes))) (sym (length-take-le w bytes h))
    ∙ bytes_big (all_take w all))

-- the bytes after the number are as they were
pub others_unchanged : (new old : List ℕ) → drop (length new) (placed new old) ≡ drop (length new) old
others_unchanged new old = by (leb (length new) (length old)) refl
  where
    by : (t : Bool) → leb (length new) (length old) ≡ t → drop (length new) (placed new old) ≡ drop (length new) old
    by true h =
        ap (λ (l : List ℕ). drop (length new) l) (placed_whole new old (leb-true _ _ h))
        ∙ drop-append_seam new (drop (length new) old)
    by false h = ap (λ (l : List ℕ). drop (length new) l) (placed_short new old (leb-false _ _ h))

-- a buffer keeps its length
pub length_placed : (new old : List ℕ) → length (placed new old) ≡ length old
length_placed new old = by (leb (length new) (length old)) refl
  where
    by : (t : Bool) → leb (length new) (length old) ≡ t → length (placed new old) ≡ length old
    by true h =
        let fits : length new ≤ length old = leb-true _ _ h in
        ap length (placed_whole new old fits) ∙ simp (length-append, length-drop) (omega arith)
    by false h = ap length (placed_short new old (leb-false _ _ h))
