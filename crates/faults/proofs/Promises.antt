-- What the judging of saved bytes promises. When each refusal is given is in `records`, since that goes by its definitions alone. Assumes nothing.

-- Only one outcome fits `test_saved`.
pub use Rattle.faults.proofs.Outcomes.{one_test_saved}
