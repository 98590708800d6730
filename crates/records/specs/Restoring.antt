-- Restoring a table from saved bytes (request K1; refusals 23 to 26). Assumes nothing.
use Rattle.std.specs.Prelude.{ℕ, zero, suc, ◌*◌, ◌/◌, ◌%◌, Bool, not, ◌||◌, List, [], ◌∷◌, eqb, ltb, length, take, drop, Option, Result, Ok, Err}
use Rattle.message.specs.Order.{Condition, ◌when◌, first}
use Rattle.message.specs.Answers.{writing}
use Rattle.message.specs.declared.answers.Reason.{Reason}
use Rattle.message.specs.declared.answers.Refusal.{Refusal}
use Rattle.message.specs.declared.answers.Reason.TheVariants.{SavedMark, SavedLength, SavedRow, SavedTwice}
use Rattle.window.specs.declared.Row.{Row}
use Rattle.table.specs.Table.{rows, empty_table, with_row, first_below}
use Rattle.records.specs.Records.{record_bytes, row_in, wrong_mark, bad_row, same_name}

-- ---- the records

-- how many there are
abbrev pub record_count : List ℕ → ℕ
record_count bytes = length bytes / record_bytes

-- the record at a number, from 0
abbrev pub record_at : List ℕ → ℕ → List ℕ
record_at bytes i = take record_bytes (drop (record_bytes * i) bytes)

-- the row that it says
abbrev pub row_from : List ℕ → ℕ → Row
row_from bytes i = row_in (record_at bytes i)

-- ---- the order: each condition over all records before the next

-- does p hold of a number below n?
abbrev pub some_below : ℕ → (ℕ → Bool) → Bool
some_below n p = ltb (first_below n p) n

-- 24: not whole records, or more of them than there are rows
abbrev pub bad_length : List ℕ → Bool
bad_length bytes = not (eqb (length bytes % record_bytes) 0) || ltb rows (record_count bytes)

-- 26, of the record at a number: its name stands in one before it
unfoldable pub named_before : List ℕ → ℕ → Bool
named_before bytes i = some_below i (λ j. same_name (row_from bytes j) (row_from bytes i))

-- 24, 23, 25, 26
unfoldable pub restoring_order : List ℕ → List Condition
restoring_order bytes =
    SavedLength when bad_length bytes
    ∷ SavedMark when some_below (record_count bytes) (λ i. wrong_mark (record_at bytes i))
    ∷ SavedRow when some_below (record_count bytes) (λ i. bad_row (row_from bytes i))
    ∷ SavedTwice when some_below (record_count bytes) (named_before bytes)
    ∷ []

-- ---- the answer and the table

-- how many rows are placed, or the refusal
abbrev pub restored : Option Reason → ℕ → Result ℕ Refusal
restored reason n = writing reason n

-- the answer, which goes by the bytes alone
unfoldable pub restore_of : List ℕ → Result ℕ Refusal
restore_of bytes = restored (first (restoring_order bytes)) (record_count bytes)

-- a table with rows f 0 to f (n - 1) put from its first on
unfoldable pub with_rows : ℕ → (ℕ → Row) → List ℕ → List ℕ
with_rows zero f t = t
with_rows (suc n) f t = with_row (with_rows n f t) n (f n)

-- the table that bytes say: the rows of the records from the first on, all others free and zero
unfoldable pub restored_table : List ℕ → List ℕ
restored_table bytes = with_rows (record_count bytes) (row_from bytes) empty_table

-- it takes the place of the old one, all of which stays where restoring refuses
abbrev pub table_after : Result ℕ Refusal → List ℕ → List ℕ → List ℕ
table_after (Ok n) new old = new
table_after (Err r) new old = old

-- the table after restoring
unfoldable pub restore_table : List ℕ → List ℕ → List ℕ
restore_table bytes t = table_after (restore_of bytes) (restored_table bytes) t
