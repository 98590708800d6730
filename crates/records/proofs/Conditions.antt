-- The conditions of restoring's order in plain terms. Assumes nothing.
use Rattle.std.specs.Prelude.{Option, Ok}
use Prim.Native.Nat.{ℕ, ◌%◌, ◌≤◌, ◌<◌}
use mathlib.Core.Path.{◌≡◌, refl, ap, ap₂}
use mathlib.Core.Bool.{Bool, true, false, not, ◌||◌}
use mathlib.Core.List.{List}
use mathlib.Core.Logic.{◌⊎◌, inl, inr, ⊎_elim}
use native.Mathlib.Omega.{arith}
use borrow.Author.Tests.{eqb-true, eqb-false, ltb-true, ltb-false, not-true, not-false, le-ltb, eq-eqb}
use lib.Dec.{eqb, ltb}
use lib.ListN.{length}
use Rattle.message.specs.declared.answers.Reason.{Reason}
use Rattle.message.proofs.Logic.{clash, or_false, or_true}
use Rattle.message.proofs.Order.{first_none}
use Rattle.table.specs.Table.{rows, first_below}
use Rattle.table.proofs.Least.{least_none, least_holds, least_misses}
use Rattle.records.specs.Records.{wrong_mark, bad_row, same_name}
use Rattle.records.specs.Restoring.{record_count, record_at, row_from, some_below, bad_length, named_before, restoring_order, restored, restore_of}

-- ---- a number below n

-- one at which something holds
pub record Some (n : ℕ) (p : ℕ → Bool) : Type 0 where
  pub number : ℕ
  pub below : number < n
  pub holds : p number ≡ true

module _ (n : ℕ) (p : ℕ → Bool) where
  -- there is one exactly when the truth value says so
  pub some_says : some_below n p ≡ true → Some n p
  some_says e = let l = ltb-true (first_below n p) n e in record { number = first_below n p; below = l; holds = least_holds n p l }

  pub some_when : Some n p → some_below n p ≡ true
  some_when s = go (some_below n p) refl
    where
      go : (b : Bool) → some_below n p ≡ b → b ≡ true
      go true e = refl
      go false e =
          let l : s.number < first_below n p = omega (arith, s.below, ltb-false (first_below n p) n e) in
          clash (p s.number) s.holds (least_misses n p s.number l)

  -- and none (`none_below` in Placed)
  pub none_when : ((k : ℕ) → k < n → p k ≡ false) → some_below n p ≡ false
  none_when h = le-ltb (first_below n p) n (omega (arith, least_none n p h))

-- ---- the conditions

module _ (bytes : List ℕ) where
  -- 24 does not hold: whole records, and no more of them than there are rows
  abbrev pub RightLength : Type 0
  RightLength = (length bytes % 18 ≡ 0) × (record_count bytes ≤ rows)

  -- 24 holds
  abbrev pub WrongLength : Type 0
  WrongLength = (length bytes % 18 ≡ 0 → ⊥) ⊎ (rows < record_count bytes)

  -- 23 does not hold, and it does
  abbrev pub AllMarked : Type 0
  AllMarked = (i : ℕ) → i < record_count bytes → wrong_mark (record_at bytes i) ≡ false

  abbrev pub SomeUnmarked : Type 0
  SomeUnmarked = Some (record_count bytes) (λ i. wrong_mark (record_at bytes i))

  -- 25 does not hold, and it does
  abbrev pub AllGood : Type 0
  AllGood = (i : ℕ) → i < record_count bytes → bad_row (row_from bytes i) ≡ false

  abbrev pub SomeBad : Type 0
  SomeBad = Some (record_count bytes) (λ i. bad_row (row_from bytes i))

  -- 26 does not hold: no two rows have one name
  abbrev pub NamesApart : Type 0
  NamesApart = (i : ℕ) → i < record_count bytes → (j : ℕ) → j < i → same_name (row_from bytes j) (row_from bytes i) ≡ false

  -- 26 holds: two rows have one name
  pub record NameTwice : Type 0 where
    pub earlier : ℕ
    pub later : ℕ
    pub before : earlier < later
    pub below : later < record_count bytes
    pub same : same_name (row_from bytes earlier) (row_from bytes later) ≡ true

  -- ---- each exactly when its truth value says so

  pub right_says : bad_length bytes ≡ false → RightLength
  right_says e =
      let h = or_false (not (eqb (length bytes % 18) 0)) (ltb rows (record_count bytes)) e in
      (eqb-true _ _ (not-false _ h.0), ltb-false _ _ h.1)

  pub right_when : RightLength → bad_length bytes ≡ false
  right_when h = ap₂ (λ (a b : Bool). not a || b) (eq-eqb (length bytes % 18) 0 h.0) (le-ltb rows (record_count bytes) h.1)

  pub wrong_says : bad_length bytes ≡ true → WrongLength
  wrong_says e =
      ⊎_elim (λ a. inl (eqb-false (length bytes % 18) 0 (not-true _ a))) (λ b. inr (ltb-true _ _ b))
      (or_true (not (eqb (length bytes % 18) 0)) (ltb rows (record_count bytes)) e)

  pub wrong_when : WrongLength → bad_length bytes ≡ true
  wrong_when h = go (bad_length bytes) refl
    where
      go : (b : Bool) → bad_length bytes ≡ b → b ≡ true
      go true e = refl
      go false e = let r = right_says e in let z : ⊥ = ⊎_elim (λ a. a r.0) (λ b. omega (arith, b, r.1)) h in absurd z

  pub twice_says : some_below (record_count bytes) (named_before bytes) ≡ true → NameTwice
  unfolding named_before
  twice_says e =
      let s = some_says (record_count bytes) (named_before bytes) e in
      let r = some_says s.number (λ j. same_name (row_from bytes j) (row_from bytes s.number)) s.holds in
      record { earlier = r.number; later = s.number; before = r.below; below = s.below; same = r.holds }

  pub twice_when : NameTwice → some_below (record_count bytes) (named_before bytes) ≡ true
  unfolding named_before
  twice_when w =
      some_when (record_count bytes) (named_before bytes)
      (record {
        number = w.later;
        below = w.below;
        holds = some_when w.later (λ j. same_name (row_from bytes j) (row_from bytes w.later)) (record { number = w.earlier; below = w.before; holds = w.same });
      })

  pub apart_when : NamesApart → some_below (record_count bytes) (named_before bytes) ≡ false
  unfolding named_before
  apart_when h = none_when (record_count bytes) (named_before bytes) (λ i l. none_when i (λ j. same_name (row_from bytes j) (row_from bytes i)) (h i l))

  -- where none of them holds, the rows are placed
  pub placed_when : RightLength → AllMarked → AllGood → NamesApart → restore_of bytes ≡ Ok (record_count bytes)
  unfolding restore_of restoring_order
  placed_when r m g a =
      ap (λ (given : Option Reason). restored given (record_count bytes))
      (first_none (restoring_order bytes)
      (right_when r, (none_when (record_count bytes) (λ i. wrong_mark (record_at bytes i)) m, (none_when (record_count bytes) (λ i. bad_row (row_from bytes i)) g, (apart_when a, tt)))))
