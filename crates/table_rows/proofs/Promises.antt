-- What a table's rows promise. The laws of rows in words are in `table`. Assumes nothing.

-- A row that was put is read back, and every other row and word is as it was.
pub use Rattle.table.proofs.Words.{same_row, other_row, other_word, length_put}
-- Putting ids alone into the row of a name, as rolling it gives them, comes to the row put whole.
pub use Rattle.table.proofs.Ids.{rolled_ids_put}
-- Only one outcome fits each public function.
pub use Rattle.table_rows.proofs.Outcomes.{one_row_at, one_row_under, one_put_row, one_put_ids}
