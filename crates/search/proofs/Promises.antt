-- What the search promises. The laws of what it finds are in `table`, since they speak of its rows alone. Assumes nothing.

-- By its name the first row in use under it is found, and where none is found there is none.
pub use Rattle.table.proofs.Found.{found_is_in_use_under_the_name, none_before_the_found, none_found_none_there, none_there_none_found}
-- The free row found is the lowest, and where none is found all rows are in use.
pub use Rattle.table.proofs.Found.{free_found_is_free, free_found_is_the_lowest, none_free_all_in_use}
-- Only one outcome fits each public function.
pub use Rattle.search.proofs.Outcomes.{one_find, one_find_free}
