-- What the boundary of saved rows promises. Assumes nothing.

-- Only one outcome fits each exported function.
pub use Rattle.gateway_saved.proofs.Outcomes.{one_save, one_restore}
