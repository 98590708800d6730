-- What `any` over a chain of iterators finds. Assumes nothing.
use Prim.Native.Nat.{ℕ, zero, suc, ◌+◌, ◌*◌, ◌≤◌, ◌<◌}
use mathlib.Core.Path.{◌≡◌, refl, sym, ap, ap₂, ◌∙◌}
use mathlib.Core.Bool.{Bool, true, false, ◌||◌, cond}
use mathlib.Core.List.{List, [], ◌∷◌}
use native.Mathlib.Omega.{arith}
use borrow.Author.Tests.{lt-ltb, le-ltb, ltb-true, ltb-false}
use lib.Dec.{ltb}
use lib.ListN.{length, take, drop}
use denote.Param.Members.{Mut, Called}
use Rattle.std.specs.Prelude.{IsTrue, IsSomeAnd, IfSome, slice_index_or}
use Rattle.std.specs.Prelude as std
use Rattle.std.specs.Bool.{MatchBool}
use Rattle.std.specs.List.{list_any, range_with_len}
use Rattle.std.specs.Option.{option_map}
use Rattle.table.specs.Table.{first_below}
use Rattle.std.specs.Iterator.Runs.{Run, SomeRun, EachRunFrom, CallKeepsClosure, AllItemsGive, AnyItemGives}
use Rattle.records.specs.Restoring.{some_below, record_at}
use Rattle.records.proofs.Conditions.{Some, some_when, none_when}

-- ---- the records as a chain gives them

-- the part at a number is the record at it
pub part_is : (bytes x : List ℕ) (k : ℕ) → x ≡ take 18 (drop (k * 18) bytes) → x ≡ record_at bytes k
part_is bytes x k e = let s : k * 18 ≡ 18 * k = omega arith in cc

-- ---- any of a chain

module _ {A F : Type 0} (g : Mut F (A × Unit {0}) Bool) (f : F) (n : ℕ) (p : ℕ → Bool) where
  -- of the item at k the test says p k
  abbrev pub Says : ℕ → A → Type 0
  Says k x = (v : Bool) (q : F) → Called g f (x, tt) v q → v ≡ p k

  found : (k : ℕ) (o : std.Option A) → k < n → IfSome o (Says k) → IsSomeAnd o (λ x. Called g f (x, tt) true f) → Some n p
  found k std.None l h w = absurd w
  found k (std.Some x) l h w = record { number = k; below = l; holds = sym (h true f w) }

  missed : (k : ℕ) (xs : List A) (o : std.Option A) → k < length xs → ((d : A) → option_map (λ y. y) o ≡ std.Some (slice_index_or xs k d))
      → IfSome o (Says k) → IfSome o (λ x. Called g f (x, tt) false f) → p k ≡ false
  missed k [] o l read h w = absurd (omega arith)
  missed k (x ∷ xs) std.None l read h w = let e = read x in absurd (cc)
  missed k (x ∷ xs) (std.Some y) l read h w = sym (h false f w)

module _ {S A F : Type 0} (steps : S → std.Option A → S → Type 0) (g : Mut F (A × Unit {0}) Bool) (f : F) (n : ℕ) (p : ℕ → Bool) where
  -- a run's items are the first of n, and all of them where it is whole; of the item at k the test says p k
  abbrev pub Tells : Run steps → Type 0
  Tells r = (r.len ≤ n) × (r.whole ≡ true → n ≤ r.len) × ((k : ℕ) → k < r.len → IfSome (r.at k) (Says g f n p k))

  -- so `any` says whether p holds below n
  pub any_is : (s : S) (b : Bool) → SomeRun steps s (λ r. MatchBool b (AnyItemGives r g f true) (IsTrue r.whole × AllItemsGive r g f false)) → EachRunFrom steps s Tells → CallKeepsClosure g f
      → b ≡ some_below n p
  any_is s true (r, e, hit) tells keeps =
      let h = tells r r.seen e in
      let w = hit keeps in
      sym (some_when n p (found g f n p w.0 (r.at w.0) (omega (arith, w.1, h.0)) (h.2 w.0 w.1) w.2))
  any_is s false (r, e, out) tells keeps =
      let h = tells r r.seen e in
      let m = h.1 out.0 in
      sym (none_when n p (λ k l. missed g f n p k r.items (r.at k) (omega (arith, r.long)) (λ d. r.reads k d (omega arith)) (h.2 k (omega arith)) (out.1 keeps k)))

-- ---- any of some numbers

some_first : (n : ℕ) (p : ℕ → Bool) → some_below (suc n) p ≡ (p 0 || some_below n (λ k. p (suc k)))
unfolding first_below
some_first n p = go (p 0)
  where
    next : (x : ℕ) (b : Bool) → ltb x n ≡ b → ltb (suc x) (suc n) ≡ b
    next x true e = lt-ltb (suc x) (suc n) (omega (arith, ltb-true x n e))
    next x false e = le-ltb (suc x) (suc n) (omega (arith, ltb-false x n e))

    go : (b : Bool) → ltb (cond b 0 (suc (first_below n (λ k. p (suc k))))) (suc n) ≡ (b || ltb (first_below n (λ k. p (suc k))) n)
    go true = lt-ltb 0 (suc n) (omega arith)
    go false = next (first_below n (λ k. p (suc k))) (ltb (first_below n (λ k. p (suc k))) n) refl

any_from : (n a : ℕ) (q p : ℕ → Bool) → ((k i : ℕ) → i ≡ a + k → q i ≡ p k) → list_any q (range_with_len a n) ≡ some_below n p
any_from zero a q p h = sym (none_when 0 p (λ k l. absurd (omega arith)))
any_from (suc n) a q p h =
    ap₂ (λ (b c : Bool). b || c) (h 0 a (omega arith)) (any_from n (a + 1) q (λ k. p (suc k)) (λ k i e. h (suc k) i (omega arith))) ∙ sym (some_first n p)

pub any_number : (n : ℕ) (p : ℕ → Bool) → list_any p (range_with_len 0 n) ≡ some_below n p
any_number n p = any_from n 0 p p (λ k i e. let s : i ≡ k = omega arith in ap p s)
