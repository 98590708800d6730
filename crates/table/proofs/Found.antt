-- What the search finds: by a name the first row that has it, and the lowest free row. Assumes nothing.
use Prim.Native.Nat.{ℕ, ◌≤◌, ◌<◌}
use mathlib.Core.Path.{◌≡◌, refl, sym, ap, ◌∙◌, subst}
use mathlib.Core.Bool.{Bool, true, false, cond}
use mathlib.Core.List.{List}
use native.Mathlib.Omega.{arith}
use borrow.Author.Tests.{not-true, not-false, ltb-true, ltb-false, lt-ltb, le-ltb}
use Rattle.std.proofs.Common.{Some, None, ltb}
use Rattle.window.specs.declared.Row.{Row}
use Rattle.table.specs.Table.{rows, row_of, named, is_free, find_of, free_of, found_row}
use Rattle.table.proofs.Least.{least_holds, least_misses, least_none}
use Rattle.table.proofs.Words.{named_row}

-- ---- a number, or none

-- the number found is that of a row
pub found_some : (n i : ℕ) → Some i ≡ found_row n → (i ≡ n) × (i < rows)
unfolding found_row
found_some n i = go (ltb n rows) refl
  where
    go : (b : Bool) → ltb n rows ≡ b → Some i ≡ cond b (Some n) None → (i ≡ n) × (i < rows)
    go true l e = let s : i ≡ n = cc in (s, omega (arith, ltb-true n rows l))
    go false l e = cc

-- where there is none, none was found
pub found_none : (n : ℕ) → None ≡ found_row n → rows ≤ n
unfolding found_row
found_none n = go (ltb n rows) refl
  where
    go : (b : Bool) → ltb n rows ≡ b → None ≡ cond b (Some n) None → rows ≤ n
    go true l e = cc
    go false l e = omega (arith, ltb-false n rows l)

-- and back
pub is_found : (i n : ℕ) → i ≡ n → i < rows → Some i ≡ found_row n
unfolding found_row
is_found i n e l = ap Some e ∙ sym (ap (λ (b : Bool). cond b (Some n) None) (lt-ltb n rows (omega arith)))

pub none_is_found : (n : ℕ) → rows ≡ n → None ≡ found_row n
unfolding found_row
none_is_found n e = sym (ap (λ (b : Bool). cond b (Some n) None) (le-ltb n rows (omega arith)))

-- ---- by a name

module _ (t : List ℕ) (node key : ℕ) where
  -- the row at the number found has the name
  pub found_is_named : (i : ℕ) → i ≡ find_of rows t node key → i < rows → named node key (row_of t i) ≡ true
  unfolding find_of
  found_is_named i e l =
      ap (λ (k : ℕ). named node key (row_of t k)) e ∙ least_holds rows (λ k. named node key (row_of t k)) (subst (λ (k : ℕ). k < rows) e l)

  -- The row found is in use under the name.
  pub found_is_in_use_under_the_name : find_of rows t node key < rows
      → let row : Row = row_of t (find_of rows t node key) in (row.used ≡ true) × (row.node ≡ node) × (row.key ≡ key)
  found_is_in_use_under_the_name l =
      let e = named_row (row_of t (find_of rows t node key)) node key (found_is_named (find_of rows t node key) (λ i. find_of rows t node key) l) in
      (sym (ap (λ (r : Row). r.used) e), sym (ap (λ (r : Row). r.node) e), sym (ap (λ (r : Row). r.key) e))

  -- No row before it is: of two rows with one name the first counts.
  pub none_before_the_found : (k : ℕ) → k < find_of rows t node key → named node key (row_of t k) ≡ false
  unfolding find_of
  none_before_the_found = least_misses rows (λ k. named node key (row_of t k))

  -- Where none is found no row is in use under the name.
  pub none_found_none_there : rows ≤ find_of rows t node key → (k : ℕ) → k < rows → named node key (row_of t k) ≡ false
  none_found_none_there l k h = none_before_the_found k (omega arith)

  -- And where no row is, none is found.
  pub none_there_none_found : ((k : ℕ) → k < rows → named node key (row_of t k) ≡ false) → find_of rows t node key ≡ rows
  unfolding find_of
  none_there_none_found = least_none rows (λ k. named node key (row_of t k))

-- ---- a free row

module _ (t : List ℕ) where
  -- The free row found is free.
  pub free_found_is_free : free_of rows t < rows → (row_of t (free_of rows t)).used ≡ false
  unfolding free_of
  free_found_is_free l = not-true _ (least_holds rows (λ k. is_free (row_of t k)) l)

  -- It is the lowest: every row before it is in use.
  pub free_found_is_the_lowest : (k : ℕ) → k < free_of rows t → (row_of t k).used ≡ true
  unfolding free_of
  free_found_is_the_lowest k l = not-false _ (least_misses rows (λ i. is_free (row_of t i)) k l)

  -- Where none is found all rows are in use.
  pub none_free_all_in_use : rows ≤ free_of rows t → (k : ℕ) → k < rows → (row_of t k).used ≡ true
  none_free_all_in_use l k h = free_found_is_the_lowest k (omega arith)
