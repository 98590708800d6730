-- Members and the greatest of a list of positions. Assumes nothing.
use Rattle.std.proofs.Common.{◌≡◌, ℕ, zero, suc, ◌-◌, ◌%◌, ◌^◌, ◌<◌, ◌≤◌, max, Bool, true, false, cond, ◌||◌, eqb, List, [], ◌∷◌, sym, refl, ap, ◌∙◌, ap₂, true≢false, le_refl, arith, eq-eqb, ne_eqb}
use mathlib.Core.Bool.{or-true}
use native.Mathlib.Decide.{ℕ_discrete, dec_le}
use Rattle.window.specs.Rule.{member, greatest, marked, bit_at}
use Rattle.window.specs.History.{Distinct}
use Rattle.window.proofs.Bits.{bit_mod}

pub member_here : (p q : ℕ) (qs : List ℕ) → p ≡ q → member p (q ∷ qs) ≡ true
unfolding member
member_here p q qs e = ap (λ (b : Bool). b || member p qs) (eq-eqb p q e)

pub member_there : (p q : ℕ) (qs : List ℕ) → (p ≡ q → ⊥) → member p (q ∷ qs) ≡ member p qs
unfolding member
member_there p q qs n = ap (λ (b : Bool). b || member p qs) (ne_eqb p q n)

pub member_more : (p q : ℕ) (qs : List ℕ) → member p qs ≡ true → member p (q ∷ qs) ≡ true
unfolding member
member_more p q qs h = ap (λ (b : Bool). eqb p q || b) h ∙ or-true (eqb p q)

-- nothing in a list is above its greatest
pub member_above : (p : ℕ) (qs : List ℕ) → greatest qs < p → member p qs ≡ false
unfolding member greatest
member_above p [] h = refl
member_above p (q ∷ qs) h = member_there p q qs (λ e. omega arith) ∙ member_above p qs (omega arith)

pub member_under : (p : ℕ) (qs : List ℕ) → member p qs ≡ true → p ≤ greatest qs
member_under p qs e = go (dec_le p (greatest qs))
  where
    go : Dec (p ≤ greatest qs) → p ≤ greatest qs
    go (yes l) = l
    go (no l) = absurd (true≢false (sym e ∙ member_above p qs (omega arith)))

-- the greatest of a list that is not empty is in it
pub greatest_in : (q : ℕ) (qs : List ℕ) → member (greatest (q ∷ qs)) (q ∷ qs) ≡ true
unfolding greatest
greatest_in q [] = member_here (max q 0) q [] (omega arith)
greatest_in q (r ∷ rs) = go (greatest_in r rs) (ℕ_discrete (greatest (q ∷ r ∷ rs)) q)
  where
    go : member (greatest (r ∷ rs)) (r ∷ rs) ≡ true → Dec (greatest (q ∷ r ∷ rs) ≡ q) → member (greatest (q ∷ r ∷ rs)) (q ∷ r ∷ rs) ≡ true
    go ih (yes e) = member_here (greatest (q ∷ r ∷ rs)) q (r ∷ rs) e
    go ih (no e) =
        let same : greatest (q ∷ r ∷ rs) ≡ greatest (r ∷ rs) = omega arith in
        member_there (greatest (q ∷ r ∷ rs)) q (r ∷ rs) e ∙ ap (λ (x : ℕ). member x (r ∷ rs)) same ∙ ih

pub greatest_under : (p : ℕ) (ps : List ℕ) → p ≤ greatest ps → greatest (p ∷ ps) ≡ greatest ps
unfolding greatest
greatest_under p ps h = omega arith

pub greatest_over : (p : ℕ) (ps : List ℕ) → greatest ps ≤ p → greatest (p ∷ ps) ≡ p
unfolding greatest
greatest_over p ps h = omega arith

-- ---- the marked positions

module _ (m M : ℕ) where
  -- each is one of the n below M
  pub marked_out : (n p : ℕ) → ((k : ℕ) → k < n → p ≡ M - suc k → ⊥) → member p (marked n m M) ≡ false
  unfolding marked member
  marked_out zero p h = refl
  marked_out (suc n) p h = go (marked_out n p (λ k l. h k (omega arith))) (bit_at m n)
    where
      go : member p (marked n m M) ≡ false → (b : Bool) → member p (cond b ((M - suc n) ∷ marked n m M) (marked n m M)) ≡ false
      go ih true = member_there p (M - suc n) (marked n m M) (h n (le_refl (suc n))) ∙ ih
      go ih false = ih

  pub marked_at : (n k : ℕ) → n ≤ M → k < n → member (M - suc k) (marked n m M) ≡ bit_at m k
  unfolding marked member
  marked_at zero k l h = absurd (omega arith)
  marked_at (suc n) k l h = go (marked_at n k (omega arith)) (marked_out n (M - suc k)) (ℕ_discrete k n) (bit_at m n) refl
    where
      go : (k < n → member (M - suc k) (marked n m M) ≡ bit_at m k)
          → (((i : ℕ) → i < n → M - suc k ≡ M - suc i → ⊥) → member (M - suc k) (marked n m M) ≡ false)
          → Dec (k ≡ n) → (b : Bool) → bit_at m n ≡ b
          → member (M - suc k) (cond b ((M - suc n) ∷ marked n m M) (marked n m M)) ≡ bit_at m k
      go ih out (yes e) true q = member_here (M - suc k) (M - suc n) (marked n m M) (ap (λ (i : ℕ). M - suc i) e) ∙ sym (ap (bit_at m) e ∙ q)
      go ih out (yes e) false q = out (λ i j r. omega arith) ∙ sym (ap (bit_at m) e ∙ q)
      go ih out (no e) true q = member_there (M - suc k) (M - suc n) (marked n m M) (λ r. e (omega arith)) ∙ ih (omega arith)
      go ih out (no e) false q = ih (omega arith)

  pub marked_greatest : (n : ℕ) → greatest (marked n m M) ≤ M
  unfolding marked greatest
  marked_greatest zero = omega arith
  marked_greatest (suc n) = go (marked_greatest n) (bit_at m n)
    where
      go : greatest (marked n m M) ≤ M → (b : Bool) → greatest (cond b ((M - suc n) ∷ marked n m M) (marked n m M)) ≤ M
      go ih true = omega arith
      go ih false = ih

-- ---- no position stands in a list twice
pub marked_distinct : (m M n : ℕ) → n ≤ M → Distinct (marked n m M)
unfolding marked
marked_distinct m M zero l = tt
marked_distinct m M (suc n) l = go (marked_distinct m M n (omega arith)) (bit_at m n)
  where
    go : Distinct (marked n m M) → (b : Bool) → Distinct (cond b ((M - suc n) ∷ marked n m M) (marked n m M))
    go ih true = (marked_out m M n (M - suc n) (λ k h e. omega arith), ih)
    go ih false = ih

-- the marked positions are those of the low bits
pub marked_mod : (m M W n : ℕ) → n ≤ W → marked n (m % 2 ^ W) M ≡ marked n m M
unfolding marked
marked_mod m M W zero l = refl
marked_mod m M W (suc n) l =
    ap₂ (λ (b : Bool) (qs : List ℕ). cond b ((M - suc n) ∷ qs) qs) (bit_mod m W n l) (marked_mod m M W n (omega arith))
