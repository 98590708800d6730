-- Removing a row ("Rows and verdicts"; refusal 21). Assumes nothing.
use Rattle.std.specs.Prelude.{ℕ, cond, List, ltb, Result, Ok, Err}
use Rattle.message.specs.Reasons.{refusal}
use Rattle.message.specs.declared.answers.Refusal.{Refusal}
use Rattle.message.specs.declared.answers.Reason.TheVariants.{NoRow}
use Rattle.table.specs.Table.{rows, freed, with_row, find_of}

-- 21 where the name has no row
unfoldable pub remove_of : List ℕ → ℕ → ℕ → Result (Unit {0}) Refusal
remove_of t node key = cond (ltb (find_of rows t node key) rows) (Ok tt) (Err (refusal NoRow))

-- the row of the name is free and zero in every field; where it has none the table is as it was
unfoldable pub remove_table : List ℕ → ℕ → ℕ → List ℕ
remove_table t node key = cond (ltb (find_of rows t node key) rows) (with_row t (find_of rows t node key) freed) t
