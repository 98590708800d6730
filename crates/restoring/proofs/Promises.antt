-- What restoring promises. The laws of saved rows are in `records`, since they speak of its definitions alone. Assumes nothing.

-- Only one outcome fits `restore`.
pub use Rattle.restoring.proofs.Outcomes.{one_restore}
