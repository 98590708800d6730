-- The least number at which something holds. Assumes nothing.
use Prim.Native.Nat.{ℕ, zero, suc, ◌+◌, ◌≤◌, ◌<◌}
use mathlib.Core.Path.{◌≡◌, refl, sym, ap, ◌∙◌}
use mathlib.Core.Bool.{Bool, true, false, cond}
use native.Mathlib.Omega.{arith}
use native.Mathlib.Decide.{dec_lt}
use Rattle.table.specs.Table.{first_below}

-- it is one below which nothing holds and at which it holds
pub least_is : (n : ℕ) (p : ℕ → Bool) (r : ℕ) → r < n → ((k : ℕ) → k < r → p k ≡ false) → p r ≡ true → first_below n p ≡ r
unfolding first_below
least_is zero p r l h e = let z : ⊥ = omega arith in absurd z
least_is (suc n) p zero l h e = ap (λ (b : Bool). cond b 0 (suc (first_below n (λ k. p (suc k))))) e
least_is (suc n) p (suc r) l h e =
    ap (λ (b : Bool). cond b 0 (suc (first_below n (λ k. p (suc k))))) (h 0 (omega arith))
    ∙ ap suc (least_is n (λ k. p (suc k)) r (omega arith) (λ k g. h (suc k) (omega arith)) e)

-- and n where nothing holds below n
pub least_none : (n : ℕ) (p : ℕ → Bool) → ((k : ℕ) → k < n → p k ≡ false) → first_below n p ≡ n
unfolding first_below
least_none zero p h = refl
least_none (suc n) p h =
    ap (λ (b : Bool). cond b 0 (suc (first_below n (λ k. p (suc k))))) (h 0 (omega arith))
    ∙ ap suc (least_none n (λ k. p (suc k)) (λ k g. h (suc k) (omega arith)))

-- below n, it holds there
pub least_holds : (n : ℕ) (p : ℕ → Bool) → first_below n p < n → p (first_below n p) ≡ true
unfolding first_below
least_holds zero p l = let z : ⊥ = omega arith in absurd z
least_holds (suc n) p l = go (p 0) refl (λ h. least_holds n (λ k. p (suc k)) h) l
  where
    go : (b : Bool) → p 0 ≡ b → (first_below n (λ k. p (suc k)) < n → p (suc (first_below n (λ k. p (suc k)))) ≡ true)
        → cond b 0 (suc (first_below n (λ k. p (suc k)))) < suc n → p (cond b 0 (suc (first_below n (λ k. p (suc k))))) ≡ true
    go true e on h = e
    go false e on h = on (omega arith)

-- and nowhere below it
pub least_misses : (n : ℕ) (p : ℕ → Bool) (k : ℕ) → k < first_below n p → p k ≡ false
unfolding first_below
least_misses zero p k l = let z : ⊥ = omega arith in absurd z
least_misses (suc n) p k l = go (p 0) refl (least_misses n (λ j. p (suc j))) k l
  where
    go : (b : Bool) → p 0 ≡ b → ((j : ℕ) → j < first_below n (λ k. p (suc k)) → p (suc j) ≡ false)
        → (k : ℕ) → k < cond b 0 (suc (first_below n (λ k. p (suc k)))) → p k ≡ false
    go true e on k h = let z : ⊥ = omega arith in absurd z
    go false e on zero h = e
    go false e on (suc k) h = on k (omega arith)

-- ---- a loop that looks for it, from 0 up

-- what it knows at i: it holds at none of the numbers tried
abbrev pub Tried : ℕ → (ℕ → Bool) → ℕ → Type 0
Tried n p i = (i ≤ n) × ((k : ℕ) → k < i → p k ≡ false)

module _ (n : ℕ) (p : ℕ → Bool) where
  -- all are tried
  pub tried_all : (i : ℕ) → Tried n p i → n ≤ i → n ≡ first_below n p
  tried_all i h l = sym (least_none n p (λ k g. h.1 k (omega arith)))

  module _ (i : ℕ) (b : Bool) (h : Tried n p i) (l : i < n) (e : b ≡ p i) where
    -- not here
    pub tried_one : b ≡ false → Tried n p (i + 1)
    tried_one f = (omega arith, λ k g. go k g (dec_lt k i))
      where
        go : (k : ℕ) → k < i + 1 → Dec (k < i) → p k ≡ false
        go k g (yes q) = h.1 k q
        go k g (no q) = let s : k ≡ i = omega arith in ap p s ∙ sym e ∙ f

    -- here
    pub tried_till : b ≡ true → i ≡ first_below n p
    tried_till t = sym (least_is n p i l h.1 (sym e ∙ t))
