-- Where a message has its row, and what it does there: by the row found, or by none. Assumes nothing.
use Prim.Native.Nat.{ℕ, ◌≤◌, ◌<◌}
use mathlib.Core.Path.{◌≡◌, sym, ap, ◌∙◌, subst}
use mathlib.Core.Bool.{Bool, true, false, not, cond}
use mathlib.Core.List.{List}
use native.Mathlib.Omega.{arith}
use native.Mathlib.Decide.{dec_lt}
use borrow.Author.Tests.{lt-ltb, le-ltb, le-leb, lt-leb, leb-true, not-false}
use lib.Dec.{leb}
use Rattle.message.proofs.Logic.{clash}
use Rattle.window.specs.Rows.{opened, rolled_of}
use Rattle.window.specs.declared.Row.{Row}
use Rattle.window.specs.declared.Rolled.{Rolled}
use Rattle.window.specs.declared.Verdict.TheVariants.{New}
use Rattle.table.specs.Table.{rows, row_of, row_at, named, row_under, is_free, find_of, free_of}
use Rattle.admission.specs.Admission.{row_for, rolled_in, no_row}
use Rattle.table.proofs.Found.{found_is_named}
use Rattle.table.proofs.Least.{least_misses, least_none}
use Rattle.table.proofs.Words.{named_row, row_within}

module _ (t : List ℕ) (node key id : ℕ) where
  -- the row found is rolled
  pub found : find_of rows t node key < rows → (row_for t node key ≡ find_of rows t node key) × (rolled_in t node key id ≡ rolled_of (row_of t (find_of rows t node key)) id)
  unfolding row_for rolled_in
  found l =
      let e = lt-ltb (find_of rows t node key) rows l in (
        ap (λ (b : Bool). cond b (find_of rows t node key) (free_of rows t)) e,
        ap (λ (b : Bool). cond b (rolled_of (row_of t (find_of rows t node key)) id) (record { verdict = New; row = opened node key id })) e,
      )

  -- where there is none, one is opened at the lowest free number
  pub opens : rows ≤ find_of rows t node key → (row_for t node key ≡ free_of rows t) × (rolled_in t node key id ≡ record { verdict = New; row = opened node key id })
  unfolding row_for rolled_in
  opens l =
      let e = le-ltb (find_of rows t node key) rows l in (
        ap (λ (b : Bool). cond b (find_of rows t node key) (free_of rows t)) e,
        ap (λ (b : Bool). cond b (rolled_of (row_of t (find_of rows t node key)) id) (record { verdict = New; row = opened node key id })) e,
      )

  -- as the code goes: the row at the number i that was found is rolled
  pub rolls : (i : ℕ) (row : Row) (rolled : Rolled) → i ≡ find_of rows t node key → i < rows → row ≡ row_under node key (row_at t i) → rolled ≡ rolled_of row id
      → (i ≡ row_for t node key) × (rolled ≡ rolled_in t node key id)
  rolls i row rolled e l r q =
      let f = found (subst (λ (k : ℕ). k < rows) e l) in
      (e ∙ sym f.0, q ∙ ap (λ (x : Row). rolled_of x id) (r ∙ ap (row_under node key) (row_within t i l) ∙ named_row (row_of t i) node key (found_is_named t node key i e l) ∙ ap (row_of t) e) ∙ sym f.1)

  -- or, at the free number i, one is opened
  pub opens_at : (i f : ℕ) (row : Row) → i ≡ find_of rows t node key → rows ≤ i → f ≡ free_of rows t → row ≡ opened node key id
      → (f ≡ row_for t node key) × (record { verdict = New; row = row } ≡ rolled_in t node key id)
  opens_at i f row e l g r =
      let o = opens (subst (λ (k : ℕ). rows ≤ k) e l) in
      (g ∙ sym o.0, ap (λ (x : Row). record { verdict = New; row = x }) r ∙ sym o.1)

-- the condition of 20 holds exactly when the name has no row and all rows are in use
module _ (t : List ℕ) (node key : ℕ) where
  pub full_says : no_row t node key ≡ true → (k : ℕ) → k < rows → (named node key (row_of t k) ≡ false) × ((row_of t k).used ≡ true)
  unfolding find_of free_of
  full_says e k lk = go (dec_lt (find_of rows t node key) rows)
    where
      go : Dec (find_of rows t node key < rows) → (named node key (row_of t k) ≡ false) × ((row_of t k).used ≡ true)
      go (yes l) = clash (no_row t node key) e (ap (leb rows) (found t node key 0 l).0 ∙ lt-leb rows (find_of rows t node key) l)
      go (no n) =
          let l : rows ≤ find_of rows t node key = omega arith in
          let free : rows ≤ free_of rows t = subst (λ (i : ℕ). rows ≤ i) (opens t node key 0 l).0 (leb-true rows (row_for t node key) e) in
          (least_misses rows (λ i. named node key (row_of t i)) k (omega (arith, l)), not-false _ (least_misses rows (λ i. is_free (row_of t i)) k (omega (arith, free))))

  pub full_when : ((k : ℕ) → k < rows → (named node key (row_of t k) ≡ false) × ((row_of t k).used ≡ true)) → no_row t node key ≡ true
  unfolding find_of free_of
  full_when h =
      let f : find_of rows t node key ≡ rows = least_none rows (λ i. named node key (row_of t i)) (λ k l. (h k l).0) in
      let g : free_of rows t ≡ rows = least_none rows (λ i. is_free (row_of t i)) (λ k l. ap not (h k l).1) in
      le-leb rows (row_for t node key) (omega (arith, g, (opens t node key 0 (omega (arith, f))).0))
