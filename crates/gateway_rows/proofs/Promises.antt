-- What the boundary of rows promises. Assumes nothing.

-- Only one outcome fits each exported function.
pub use Rattle.gateway_rows.proofs.Outcomes.{one_roll, one_row}
-- Rolling the row of three words leaves them and says the verdict as the rule of positions has it.
pub use Rattle.gateway_rows.proofs.Answered.{rolled_new, rolled_again}
