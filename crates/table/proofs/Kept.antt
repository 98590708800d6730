-- The rows of which something holds, where one row of a table changes. Assumes nothing.
use Prim.Native.Nat.{ℕ, zero, suc, ◌+◌, ◌≤◌, ◌<◌}
use mathlib.Core.Path.{◌≡◌, refl, sym, ap, ap₂, ◌∙◌}
use mathlib.Core.Bool.{Bool, true, false, not, cond}
use mathlib.Core.List.{List, [], ◌∷◌, ◌++◌}
use native.Mathlib.Omega.{arith}
use borrow.Author.Tests.{le-leb, lt-leb, leb-true, leb-false}
use lib.Dec.{leb}
use lib.ListN.{length}
use Rattle.window.specs.declared.Row.{Row}
use Rattle.table.specs.Table.{one_if, first_below, kept}

-- the same rows but for number i
abbrev pub Apart : ℕ → (ℕ → Row) → (ℕ → Row) → Type 0
Apart i f g = (k : ℕ) → (k ≡ i → ⊥) → g k ≡ f k

later : (i : ℕ) (f g : ℕ → Row) → Apart (suc i) f g → Apart i (λ k. f (suc k)) (λ k. g (suc k))
later i f g s k n = s (suc k) (λ e. n (omega arith))

-- nothing but number 0 changes: the rows behind it are the same
behind : (n : ℕ) (p : Row → Bool) (f g : ℕ → Row) → Apart 0 f g → kept n p (λ k. g (suc k)) ≡ kept n p (λ k. f (suc k))
behind n p f g s = ap (kept n p) (λ i k. s (suc k) (λ e. omega arith) i)

-- the rows, by what holds of the first
first_in : (n : ℕ) (p : Row → Bool) (f : ℕ → Row) → p (f 0) ≡ true → kept (suc n) p f ≡ f 0 ∷ kept n p (λ k. f (suc k))
unfolding kept
first_in n p f e = ap (λ (b : Bool). cond b (f 0 ∷ kept n p (λ k. f (suc k))) (kept n p (λ k. f (suc k)))) e

first_out : (n : ℕ) (p : Row → Bool) (f : ℕ → Row) → p (f 0) ≡ false → kept (suc n) p f ≡ kept n p (λ k. f (suc k))
unfolding kept
first_out n p f e = ap (λ (b : Bool). cond b (f 0 ∷ kept n p (λ k. f (suc k))) (kept n p (λ k. f (suc k)))) e

-- a change to a row of which it holds neither before nor after changes nothing
pub kept_same : (n : ℕ) (p : Row → Bool) (f g : ℕ → Row) (i : ℕ) → Apart i f g → p (f i) ≡ false → p (g i) ≡ false → kept n p g ≡ kept n p f
unfolding kept
kept_same zero p f g i s a b = refl
kept_same (suc n) p f g zero s a b = first_out n p g b ∙ behind n p f g s ∙ sym (first_out n p f a)
kept_same (suc n) p f g (suc i) s a b =
    ap₂ (λ (r : Row) (rs : List Row). cond (p r) (r ∷ rs) rs) (s 0 (λ e. omega arith)) (kept_same n p (λ k. f (suc k)) (λ k. g (suc k)) i (later i f g s) a b)

-- where it holds nowhere there are none
pub kept_none : (n : ℕ) (p : Row → Bool) (f : ℕ → Row) → ((k : ℕ) → k < n → p (f k) ≡ false) → kept n p f ≡ []
unfolding kept
kept_none zero p f h = refl
kept_none (suc n) p f h = first_out n p f (h 0 (omega arith)) ∙ kept_none n p (λ k. f (suc k)) (λ k l. h (suc k) (omega arith))

-- a change to the first row of which it holds
pub record Split (n : ℕ) (p : Row → Bool) (f g : ℕ → Row) (i : ℕ) : Type 0 where
  pub rest : List Row
  pub was : kept n p f ≡ f i ∷ rest
  pub stays : p (g i) ≡ true → kept n p g ≡ g i ∷ rest
  pub goes : p (g i) ≡ false → kept n p g ≡ rest

pub split : (n : ℕ) (p : Row → Bool) (f g : ℕ → Row) (i : ℕ) → i < n → ((k : ℕ) → k < i → p (f k) ≡ false) → p (f i) ≡ true → Apart i f g → Split n p f g i
split zero p f g i l h e s = let z : ⊥ = omega arith in absurd z
split (suc n) p f g zero l h e s =
    record {
      rest = kept n p (λ k. f (suc k));
      was = first_in n p f e;
      stays = λ b. first_in n p g b ∙ ap (λ (rs : List Row). g 0 ∷ rs) (behind n p f g s);
      goes = λ b. first_out n p g b ∙ behind n p f g s;
    }
split (suc n) p f g (suc i) l h e s =
    let on = split n p (λ k. f (suc k)) (λ k. g (suc k)) i (omega arith) (λ k m. h (suc k) (omega arith)) e (later i f g s) in
    let none = h 0 (omega arith) in
    let out = first_out n p g (ap p (s 0 (λ e. omega arith)) ∙ none) in
    record {
      rest = on.rest;
      was = first_out n p f none ∙ on.was;
      stays = λ b. out ∙ on.stays b;
      goes = λ b. out ∙ on.goes b;
    }

-- how many there are
pub counts : (n : ℕ) (p : Row → Bool) (f g : ℕ → Row) (i : ℕ) → i < n → Apart i f g
    → length (kept n p g) + one_if (p (f i)) ≡ length (kept n p f) + one_if (p (g i))
unfolding kept
counts zero p f g i l s = let z : ⊥ = omega arith in absurd z
counts (suc n) p f g zero l s = go (p (f 0)) (p (g 0)) (ap length (behind n p f g s))
  where
    go : (a b : Bool) → length (kept n p (λ k. g (suc k))) ≡ length (kept n p (λ k. f (suc k)))
        → length (cond b (g 0 ∷ kept n p (λ k. g (suc k))) (kept n p (λ k. g (suc k)))) + one_if a ≡ length (cond a (f 0 ∷ kept n p (λ k. f (suc k))) (kept n p (λ k. f (suc k)))) + one_if b
    go true true e = omega arith
    go true false e = omega arith
    go false true e = omega arith
    go false false e = omega arith
counts (suc n) p f g (suc i) l s =
    ap (λ (r : Row). length (cond (p r) (r ∷ kept n p (λ k. g (suc k))) (kept n p (λ k. g (suc k)))) + one_if (p (f (suc i)))) (s 0 (λ e. omega arith))
    ∙ go (p (f 0)) (counts n p (λ k. f (suc k)) (λ k. g (suc k)) i (omega arith) (later i f g s))
  where
    go : (a : Bool) → length (kept n p (λ k. g (suc k))) + one_if (p (f (suc i))) ≡ length (kept n p (λ k. f (suc k))) + one_if (p (g (suc i)))
        → length (cond a (f 0 ∷ kept n p (λ k. g (suc k))) (kept n p (λ k. g (suc k)))) + one_if (p (f (suc i)))
        ≡ length (cond a (f 0 ∷ kept n p (λ k. f (suc k))) (kept n p (λ k. f (suc k)))) + one_if (p (g (suc i)))
    go true e = omega arith
    go false e = omega arith

-- no more than there are rows
pub kept_most : (n : ℕ) (p : Row → Bool) (f : ℕ → Row) → length (kept n p f) ≤ n
unfolding kept
kept_most zero p f = omega arith
kept_most (suc n) p f = go (p (f 0)) (kept_most n p (λ k. f (suc k)))
  where
    go : (a : Bool) → length (kept n p (λ k. f (suc k))) ≤ n → length (cond a (f 0 ∷ kept n p (λ k. f (suc k))) (kept n p (λ k. f (suc k)))) ≤ suc n
    go true e = omega arith
    go false e = omega arith

leb_suc : (a b : ℕ) → leb (suc a) (suc b) ≡ leb a b
leb_suc a b = go (leb a b) refl
  where
    go : (c : Bool) → leb a b ≡ c → leb (suc a) (suc b) ≡ c
    go true e = le-leb (suc a) (suc b) (omega (arith, leb-true a b e))
    go false e = lt-leb (suc a) (suc b) (omega (arith, leb-false a b e))

-- all rows are in use exactly when none is free
pub all_kept : (n : ℕ) (p : Row → Bool) (f : ℕ → Row) → leb n (first_below n (λ k. not (p (f k)))) ≡ leb n (length (kept n p f))
unfolding kept first_below
all_kept zero p f = refl
all_kept (suc n) p f = go (p (f 0)) (all_kept n p (λ k. f (suc k))) (kept_most n p (λ k. f (suc k)))
  where
    go : (a : Bool) → leb n (first_below n (λ k. not (p (f (suc k))))) ≡ leb n (length (kept n p (λ k. f (suc k)))) → length (kept n p (λ k. f (suc k))) ≤ n
        → leb (suc n) (cond (not a) 0 (suc (first_below n (λ k. not (p (f (suc k))))))) ≡ leb (suc n) (length (cond a (f 0 ∷ kept n p (λ k. f (suc k))) (kept n p (λ k. f (suc k)))))
    go true e l = leb_suc n _ ∙ e ∙ sym (leb_suc n _)
    go false e l = lt-leb (suc n) 0 (omega arith) ∙ sym (lt-leb (suc n) (length (kept n p (λ k. f (suc k)))) (omega arith))

-- ---- a loop that goes through the rows, from 0 up

-- one more row: it is the last of them, if it holds of it
pub kept_next : (n : ℕ) (p : Row → Bool) (f : ℕ → Row) → kept (suc n) p f ≡ kept n p f ++ cond (p (f n)) (f n ∷ []) []
unfolding kept
kept_next zero p f = refl
kept_next (suc n) p f = go (p (f 0)) (kept_next n p (λ k. f (suc k)))
  where
    more : List Row
    more = cond (p (f (suc n))) (f (suc n) ∷ []) []

    go : (b : Bool) → kept (suc n) p (λ k. f (suc k)) ≡ kept n p (λ k. f (suc k)) ++ more
        → cond b (f 0 ∷ kept (suc n) p (λ k. f (suc k))) (kept (suc n) p (λ k. f (suc k)))
        ≡ cond b (f 0 ∷ kept n p (λ k. f (suc k))) (kept n p (λ k. f (suc k))) ++ more
    go true e = ap (λ (rs : List Row). f 0 ∷ rs) e
    go false e = e

-- ---- rows that are told by the first of them

-- the same first rows, the same of them
pub kept_alike : (n : ℕ) (p : Row → Bool) (f g : ℕ → Row) → ((k : ℕ) → k < n → g k ≡ f k) → kept n p g ≡ kept n p f
unfolding kept
kept_alike zero p f g s = refl
kept_alike (suc n) p f g s =
    ap₂ (λ (r : Row) (rs : List Row). cond (p r) (r ∷ rs) rs) (s 0 (omega arith)) (kept_alike n p (λ k. f (suc k)) (λ k. g (suc k)) (λ k l. s (suc k) (omega arith)))

-- where it holds of none from number m on, they are those before it
pub kept_front : (n m : ℕ) (p : Row → Bool) (f : ℕ → Row) → m ≤ n → ((k : ℕ) → m ≤ k → k < n → p (f k) ≡ false) → kept n p f ≡ kept m p f
unfolding kept
kept_front zero zero p f l h = refl
kept_front zero (suc m) p f l h = let z : ⊥ = omega arith in absurd z
kept_front (suc n) zero p f l h = kept_none (suc n) p f (λ k g. h k (omega arith) g)
kept_front (suc n) (suc m) p f l h =
    ap (λ (rs : List Row). cond (p (f 0)) (f 0 ∷ rs) rs) (kept_front n m p (λ k. f (suc k)) (omega arith) (λ k a b. h (suc k) (omega arith) (omega arith)))

-- where it holds of one only, that is all
pub kept_one : (n : ℕ) (p : Row → Bool) (f : ℕ → Row) (i : ℕ) → i < n → p (f i) ≡ true → ((k : ℕ) → k < n → (k ≡ i → ⊥) → p (f k) ≡ false) → kept n p f ≡ f i ∷ []
unfolding kept
kept_one zero p f i l e h = let z : ⊥ = omega arith in absurd z
kept_one (suc n) p f zero l e h =
    first_in n p f e ∙ ap (λ (rs : List Row). f 0 ∷ rs) (kept_none n p (λ k. f (suc k)) (λ k g. h (suc k) (omega arith) (λ z. omega arith)))
kept_one (suc n) p f (suc i) l e h =
    first_out n p f (h 0 (omega arith) (λ z. omega arith))
    ∙ kept_one n p (λ k. f (suc k)) i (omega arith) e (λ k g m. h (suc k) (omega arith) (λ z. m (omega arith)))

-- where it holds of all, there are as many as rows
pub kept_every : (n : ℕ) (p : Row → Bool) (f : ℕ → Row) → ((k : ℕ) → k < n → p (f k) ≡ true) → length (kept n p f) ≡ n
unfolding kept
kept_every zero p f h = refl
kept_every (suc n) p f h = ap length (first_in n p f (h 0 (omega arith))) ∙ ap suc (kept_every n p (λ k. f (suc k)) (λ k l. h (suc k) (omega arith)))

-- where it holds of one there is one, and where of two there are two
kept_some : (n : ℕ) (p : Row → Bool) (f : ℕ → Row) (i : ℕ) → i < n → p (f i) ≡ true → 1 ≤ length (kept n p f)
unfolding kept
kept_some zero p f i l e = let z : ⊥ = omega arith in absurd z
kept_some (suc n) p f zero l e = omega (arith, ap length (first_in n p f e))
kept_some (suc n) p f (suc i) l e = go (p (f 0)) (kept_some n p (λ k. f (suc k)) i (omega arith) e)
  where
    go : (b : Bool) → 1 ≤ length (kept n p (λ k. f (suc k))) → 1 ≤ length (cond b (f 0 ∷ kept n p (λ k. f (suc k))) (kept n p (λ k. f (suc k))))
    go true h = omega arith
    go false h = h

pub kept_two : (n : ℕ) (p : Row → Bool) (f : ℕ → Row) (i : ℕ) → i < n → (j : ℕ) → j < i → p (f j) ≡ true → p (f i) ≡ true → 2 ≤ length (kept n p f)
unfolding kept
kept_two zero p f i l j m d e = let z : ⊥ = omega arith in absurd z
kept_two (suc n) p f zero l j m d e = let z : ⊥ = omega arith in absurd z
kept_two (suc n) p f (suc i) l zero m d e = omega (arith, ap length (first_in n p f d), kept_some n p (λ k. f (suc k)) i (omega arith) e)
kept_two (suc n) p f (suc i) l (suc j) m d e = go (p (f 0)) (kept_two n p (λ k. f (suc k)) i (omega arith) j (omega arith) d e)
  where
    go : (b : Bool) → 2 ≤ length (kept n p (λ k. f (suc k))) → 2 ≤ length (cond b (f 0 ∷ kept n p (λ k. f (suc k))) (kept n p (λ k. f (suc k))))
    go true h = omega arith
    go false h = h
