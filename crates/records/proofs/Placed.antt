-- The table that saved bytes say, row by row, and what bytes that are taken have. Assumes nothing.
use Rattle.std.specs.Prelude.{Option, Some, None, Ok}
use Prim.Native.Nat.{ℕ, zero, suc, ◌*◌, ◌%◌, ◌^◌, ◌≤◌, ◌<◌}
use mathlib.Core.Path.{◌≡◌, refl, ap, subst, ◌∙◌}
use mathlib.Core.Bool.{Bool, false}
use mathlib.Core.List.{List}
use native.Mathlib.Omega.{arith}
use native.Mathlib.Decide.{dec_lt}
use borrow.Author.Tests.{eqb-true, ltb-false, not-false}
use lib.ListN.{length, get_or, drop}
use Rattle.wire.proofs.Digits.{AllBytes, none, more, all_take}
use Rattle.wire.proofs.Parts.{byte_low}
use Rattle.message.specs.Order.{first, NoneOf}
use Rattle.message.specs.declared.answers.Reason.{Reason}
use Rattle.message.proofs.Logic.{or_false}
use Rattle.message.proofs.Order.{none_first}
use Rattle.window.specs.declared.Row.{Row}
use Rattle.table.specs.Table.{rows, empty_table, freed, row_of, first_below, kept}
use Rattle.table.proofs.Kept.{kept_alike, kept_front}
use Rattle.table.proofs.Least.{least_misses}
use Rattle.table.proofs.Words.{Narrow, length_put, other_word, other_row, same_row, zero_word, empty_row}
use Rattle.records.specs.Records.{row_in, wrong_mark, bad_row, same_name}
use Rattle.records.specs.Restoring.{record_count, record_at, row_from, some_below, named_before, restoring_order, restored, restore_of, with_rows, restored_table}

-- ---- rows put from the first on

-- the table keeps its length
pub length_rows : (n : ℕ) (f : ℕ → Row) (t : List ℕ) → length (with_rows n f t) ≡ length t
unfolding with_rows
length_rows zero f t = refl
length_rows (suc n) f t = length_put (with_rows n f t) n (f n) ∙ length_rows n f t

-- every word behind them is as it was
pub later_word : (n : ℕ) (f : ℕ → Row) (t : List ℕ) (k : ℕ) → 3 * n ≤ k → get_or (with_rows n f t) k 0 ≡ get_or t k 0
unfolding with_rows
later_word zero f t k l = refl
later_word (suc n) f t k l =
    other_word (with_rows n f t) n k (f n) (λ e. omega arith) (λ e. omega arith) (λ e. omega arith) ∙ later_word n f t k (omega arith)

-- so is every row
pub later_row : (n : ℕ) (f : ℕ → Row) (t : List ℕ) (i : ℕ) → n ≤ i → row_of (with_rows n f t) i ≡ row_of t i
unfolding with_rows
later_row zero f t i l = refl
later_row (suc n) f t i l = other_row (with_rows n f t) n i (f n) (λ e. omega arith) ∙ later_row n f t i (omega arith)

-- and each of them is read back
pub placed_row : (n : ℕ) (f : ℕ → Row) (t : List ℕ) → 3 * n ≤ length t → ((k : ℕ) → Narrow (f k)) → (i : ℕ) → i < n → row_of (with_rows n f t) i ≡ f i
unfolding with_rows
placed_row zero f t l narrow i h = let z : ⊥ = omega arith in absurd z
placed_row (suc n) f t l narrow i h = go (λ b. placed_row n f t (omega arith) narrow i b) (dec_lt i n)
  where
    go : (i < n → row_of (with_rows n f t) i ≡ f i) → Dec (i < n) → row_of (with_rows (suc n) f t) i ≡ f i
    go before (yes b) = other_row (with_rows n f t) n i (f n) (λ e. omega arith) ∙ before b
    go before (no b) =
        let e : n ≡ i = omega arith in
        subst (λ (k : ℕ). row_of (with_rows (suc n) f t) k ≡ f k) e (same_row (with_rows n f t) n (f n) (omega (arith, length_rows n f t)) (narrow n))

-- ---- the rows of records

all_drop : (n : ℕ) {l : List ℕ} → AllBytes l → AllBytes (drop n l)
all_drop zero p = p
all_drop (suc n) none = none
all_drop (suc n) (more h p) = all_drop n p

-- a record of bytes is bytes
pub record_bytes_lem : {bytes : List ℕ} → AllBytes bytes → (i : ℕ) → AllBytes (record_at bytes i)
record_bytes_lem all i = all_take 18 (all_drop (18 * i) all)

-- the fields of its row are so many bits wide
pub narrow_in : (r : List ℕ) → AllBytes r → Narrow (row_in r)
unfolding row_in
narrow_in r all =
    record {
      key = omega (arith, byte_low all 10, byte_low all 11);
      highest = omega (arith, byte_low all 12, byte_low all 13, byte_low all 14, byte_low all 15);
      marks = omega (arith, byte_low all 16, byte_low all 17);
    }

pub node_in : (r : List ℕ) → AllBytes r → (row_in r).node < 2 ^ 64
unfolding row_in
node_in r all =
    omega (arith, byte_low all 2, byte_low all 3, byte_low all 4, byte_low all 5, byte_low all 6, byte_low all 7, byte_low all 8, byte_low all 9)

module _ {bytes : List ℕ} (all : AllBytes bytes) where
  pub narrow_from : (i : ℕ) → Narrow (row_from bytes i)
  narrow_from i = narrow_in (record_at bytes i) (record_bytes_lem all i)

  pub node_from : (i : ℕ) → (row_from bytes i).node < 2 ^ 64
  node_from i = node_in (record_at bytes i) (record_bytes_lem all i)

-- ---- the restored table

module _ (bytes : List ℕ) where
  pub restored_length : length (restored_table bytes) ≡ 96
  unfolding restored_table
  restored_length = length_rows (record_count bytes) (row_from bytes) empty_table

  -- behind the rows of the records every word is zero, and every row free and zero
  pub restored_zero : (k : ℕ) → 3 * record_count bytes ≤ k → get_or (restored_table bytes) k 0 ≡ 0
  unfolding restored_table
  restored_zero k l = later_word (record_count bytes) (row_from bytes) empty_table k l ∙ zero_word 96 k

  pub restored_free : (i : ℕ) → record_count bytes ≤ i → row_of (restored_table bytes) i ≡ freed
  unfolding restored_table
  restored_free i l = later_row (record_count bytes) (row_from bytes) empty_table i l ∙ empty_row i

  module _ (all : AllBytes bytes) (most : record_count bytes ≤ rows) where
    -- each row of a record is at its number
    pub restored_row : (i : ℕ) → i < record_count bytes → row_of (restored_table bytes) i ≡ row_from bytes i
    unfolding restored_table
    restored_row = placed_row (record_count bytes) (row_from bytes) empty_table (omega arith) (narrow_from all)

    -- what does not hold of a free row holds of rows of records only
    pub restored_kept : (p : Row → Bool) → p freed ≡ false → kept rows p (row_of (restored_table bytes)) ≡ kept (record_count bytes) p (row_from bytes)
    restored_kept p free =
        kept_front rows (record_count bytes) p (row_of (restored_table bytes)) most (λ k l h. ap p (restored_free k l) ∙ free)
        ∙ kept_alike (record_count bytes) p (row_from bytes) (row_of (restored_table bytes)) restored_row

-- ---- bytes that are taken

pub none_below : (n : ℕ) (p : ℕ → Bool) → some_below n p ≡ false → (k : ℕ) → k < n → p k ≡ false
none_below n p e k l = least_misses n p k (omega (arith, ltb-false (first_below n p) n e))

-- they are whole records, no more than there are rows, each with its mark, a good row and a name of its own
pub record Taken (bytes : List ℕ) (n : ℕ) : Type 0 where
  pub count : n ≡ record_count bytes
  pub most : record_count bytes ≤ rows
  pub whole : length bytes ≡ 18 * record_count bytes
  pub mark : (i : ℕ) → i < record_count bytes → wrong_mark (record_at bytes i) ≡ false
  pub good : (i : ℕ) → i < record_count bytes → bad_row (row_from bytes i) ≡ false
  pub alone : (i : ℕ) → i < record_count bytes → (j : ℕ) → j < i → same_name (row_from bytes j) (row_from bytes i) ≡ false

-- no refusal, and the number is that of the records
placed_of : (given : Option Reason) (n m : ℕ) → restored given n ≡ Ok m → (given ≡ None) × (m ≡ n)
placed_of None n m e = (refl, cc)
placed_of (Some reason) n m e = absurd (cc)

pub is_taken : (bytes : List ℕ) (n : ℕ) → restore_of bytes ≡ Ok n → Taken bytes n
unfolding restore_of restoring_order named_before
is_taken bytes n e =
    let w = placed_of (first (restoring_order bytes)) (record_count bytes) n e in
    let h : NoneOf (restoring_order bytes) = none_first (restoring_order bytes) w.0 in
    let long = or_false _ _ h.0 in
    let even : length bytes % 18 ≡ 0 = eqb-true _ _ (not-false _ long.0) in
    record {
      count = w.1;
      most = ltb-false _ _ long.1;
      whole = omega arith;
      mark = none_below (record_count bytes) (λ i. wrong_mark (record_at bytes i)) h.1.0;
      good = none_below (record_count bytes) (λ i. bad_row (row_from bytes i)) h.1.1.0;
      alone = λ i l. none_below i (λ j. same_name (row_from bytes j) (row_from bytes i)) (none_below (record_count bytes) (named_before bytes) h.1.1.1.0 i l);
    }
