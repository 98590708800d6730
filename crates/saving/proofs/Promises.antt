-- What saving promises. The laws of saved rows are in `records`, since they speak of its definitions alone. Assumes nothing.

-- Only one outcome fits `save`.
pub use Rattle.saving.proofs.Outcomes.{one_save}
