-- No record passed has the name. Assumes nothing.
use Prim.Native.Nat.{ℕ, ◌<◌}
use mathlib.Core.Path.{◌≡◌}
use mathlib.Core.Bool.{false}
use Rattle.records.specs.Records.{same_name}
use Rattle.records.specs.Restoring.{row_from}
use Rattle.faults.proofs.named_before.Given as goal

abbrev pub invariant-loop-before : goal.invariant-loop-before
invariant-loop-before l = (j : ℕ) → j < l.before → same_name (row_from l.bytes j) (row_from l.bytes l.number) ≡ false
