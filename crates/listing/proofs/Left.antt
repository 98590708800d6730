-- The bytes left over: the same from any place that whole messages reach. Assumes nothing.
use Prim.Native.Nat.{ℕ, zero, suc, ◌+◌, ◌-◌, ◌≤◌, ◌<◌}
use mathlib.Core.Path.{◌≡◌, refl, sym, ap, ◌∙◌}
use mathlib.Core.Bool.{Bool, true, false, cond}
use mathlib.Core.List.{List}
use native.Mathlib.Omega.{arith}
use borrow.Author.Tests.{lt-ltb, le-ltb, ltb-true, ltb-false}
use lib.Dec.{ltb}
use lib.ListN.{length, drop, length-drop}
use lib.Seq.{drop-drop}
use Rattle.listing.specs.Listing.{passed_of, left_within, left_of}
use Rattle.listing.proofs.Passing.{passed_within}

-- where a message is passed, and where none is
within_more : (most : ℕ) (s : List ℕ) → 0 < passed_of s → left_within (suc most) s ≡ left_within most (drop (passed_of s) s)
unfolding left_within
within_more most s h = ap (λ (b : Bool). cond b (left_within most (drop (passed_of s) s)) (length s)) (lt-ltb _ _ h)

within_end : (most : ℕ) (s : List ℕ) → passed_of s ≤ 0 → left_within most s ≡ length s
unfolding left_within
within_end zero s h = refl
within_end (suc most) s h = ap (λ (b : Bool). cond b (left_within most (drop (passed_of s) s)) (length s)) (le-ltb _ _ h)

-- any number that is no less than the length will do
within_same : (j k : ℕ) (s : List ℕ) → length s ≤ j → length s ≤ k → left_within j s ≡ left_within k s
within_same zero k s h i =
    let p : passed_of s ≤ length s = passed_within s in
    within_end zero s (omega arith) ∙ sym (within_end k s (omega arith))
within_same (suc j) zero s h i =
    let p : passed_of s ≤ length s = passed_within s in
    within_end (suc j) s (omega arith) ∙ sym (within_end zero s (omega arith))
within_same (suc j) (suc k) s h i =
    by (ltb 0 (passed_of s)) refl
    (λ p. let l = length-drop (passed_of s) s in within_same j k (drop (passed_of s) s) (omega arith) (omega arith))
  where
    by : (b : Bool) → ltb 0 (passed_of s) ≡ b → (0 < passed_of s → left_within j (drop (passed_of s) s) ≡ left_within k (drop (passed_of s) s))
        → left_within (suc j) s ≡ left_within (suc k) s
    by true e r = let p : 0 < passed_of s = ltb-true _ _ e in within_more j s p ∙ r p ∙ sym (within_more k s p)
    by false e r = let p : passed_of s ≤ 0 = ltb-false _ _ e in within_end (suc j) s p ∙ sym (within_end (suc k) s p)

-- one message further
left_more : (s : List ℕ) → 0 < passed_of s → left_of s ≡ left_of (drop (passed_of s) s)
unfolding left_of
left_more s h =
    let l = length-drop (passed_of s) s in
    within_same (length s) (suc (length s)) s (omega arith) (omega arith)
    ∙ within_more (length s) s h
    ∙ within_same (length s) (length (drop (passed_of s) s)) (drop (passed_of s) s) (omega arith) (omega arith)

-- what stands after a message is shorter
pub shorter : {after : List ℕ} (s : List ℕ) → 0 < passed_of s → after ≡ drop (passed_of s) s → length after < length s
shorter s h e =
    let l = length-drop (passed_of s) s in
    let p = passed_within s in
    let m = ap length e in
    omega arith

-- what is left over of what stands after it is left over of the stream
pub left_after : (s rest after : List ℕ) → left_of s ≡ left_of rest → 0 < passed_of rest → after ≡ drop (passed_of rest) rest → left_of s ≡ left_of after
left_after s rest after e h p = e ∙ left_more rest h ∙ ap left_of (sym p)

pub left_on : (s : List ℕ) (at passed : ℕ) → passed ≡ passed_of (drop at s) → 0 < passed → left_of (drop at s) ≡ left_of (drop (at + passed) s)
left_on s at passed e h =
    left_more (drop at s) (omega arith)
    ∙ ap (λ (n : ℕ). left_of (drop n (drop at s))) (sym e)
    ∙ ap left_of (drop-drop passed at s)

-- none further
pub left_done : (s rest : List ℕ) → left_of s ≡ left_of rest → passed_of rest ≡ 0 → length rest ≡ left_of s
unfolding left_of
left_done s rest e z = sym (e ∙ within_end (length rest) rest (omega arith))

pub left_end : (s : List ℕ) (at passed : ℕ) → passed ≡ passed_of (drop at s) → passed ≤ 0 → left_of (drop at s) ≡ length s - at
unfolding left_of
left_end s at passed e h = within_end (length (drop at s)) (drop at s) (omega arith) ∙ length-drop at s
