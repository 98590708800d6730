-- A run of stores, and runs one after another. `sets l i vs` is l with vs from index i on. Assumes nothing.
use Prim.Native.Nat.{ℕ, suc, ◌+◌, ◌≤◌}
use mathlib.Core.Path.{◌≡◌, ap, ◌∙◌}
use mathlib.Core.List.{List, [], ◌∷◌, ◌++◌}
use native.Mathlib.Omega.{arith}
use native.Mathlib.Nat.{add-zero, zero-add}
use lib.ListN.{length, drop, set, length-append}
use lib.Seq.{sets, sets-eq}

-- a run that starts where another ends
pub sets_then : (l : List ℕ) (i : ℕ) (vs ws : List ℕ) (j : ℕ) → j ≡ i + length vs → sets (sets l i vs) j ws ≡ sets l i (vs ++ ws)
sets_then l i [] ws j e = ap (λ (k : ℕ). sets l k ws) (e ∙ add-zero i)
sets_then l i (a ∷ vs) ws j e = sets_then (set l i a) (suc i) vs ws j (omega arith)

-- a run from the front
pub sets_front : (l vs : List ℕ) → length vs ≤ length l → sets l 0 vs ≡ vs ++ drop (length vs) l
sets_front l vs h = sets-eq vs l 0 (omega arith) ∙ ap (λ (k : ℕ). vs ++ drop k l) (zero-add (length vs))

-- what has been written so far: b is the buffer old with bytes from start on, and at is the place after them
pub record Wrote (old : List ℕ) (start : ℕ) (b : List ℕ) (at : ℕ) (bytes : List ℕ) : Type 0 where
  pub buffer : b ≡ sets old start bytes
  pub place : at ≡ start + length bytes

-- one run more
pub onward : {old b b' bytes : List ℕ} {start at at' : ℕ} (vs : List ℕ) (k : ℕ) → length vs ≡ k → Wrote old start b at bytes → (at' ≡ at + k) × (b' ≡ sets b at vs) → Wrote old start b' at' (bytes ++ vs)
onward {old} {bytes = bytes} {start} {at = at} vs k e w p =
    record {
      buffer = p.1 ∙ ap (λ (l : List ℕ). sets l at vs) w.buffer ∙ sets_then old start bytes vs at w.place;
      place = let l = length-append bytes vs in let q = w.place in let r = p.0 in omega arith;
    }
