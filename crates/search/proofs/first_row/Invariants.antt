-- No row passed passes the test. Assumes nothing.
use Prim.Native.Nat.{ℕ, ◌<◌, ◌-◌}
use mathlib.Core.Path.{◌≡◌}
use mathlib.Core.Bool.{Bool}
use Rattle.table.specs.Table.{rows}
use Rattle.table.proofs.Least.{Tried}
use Rattle.search.proofs.first_row.Given as goal

abbrev pub invariant-loop-number : goal.invariant-loop-number
invariant-loop-number g l = (p : ℕ → Bool) → ((i : ℕ) (b : Bool) → i < rows → goal.F-post g l.test i b → b ≡ p i) → Tried rows p l.number

abbrev pub decreases-loop-number : goal.decreases-loop-number
decreases-loop-number g l = rows - l.number
