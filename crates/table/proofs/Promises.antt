-- What the table promises. The laws are in the other files of this folder. Assumes nothing.

-- A row that was put is read back, and every other row and word is as it was.
pub use Rattle.table.proofs.Words.{same_row, other_row, other_word, length_put}
-- Putting ids alone into the row of a name, as rolling it gives them, comes to the row put whole.
pub use Rattle.table.proofs.Ids.{rolled_ids_put}
-- Only one outcome fits each public function.
pub use Rattle.table.proofs.Outcomes.{one_put_at, one_put_words, one_row_from, one_state_of, one_use_bit, one_as_rows}
