-- At each number the rows in use before it are counted. Assumes nothing.
use Rattle.saving.proofs.Loops.{Counted}
use Rattle.saving.proofs.rows_in_use.Given as goal

abbrev pub invariant-loop-number : goal.invariant-loop-number
invariant-loop-number l = Counted l.table l.number l.count
