-- At each number the records of the rows in use before it are written. Assumes nothing.
use Rattle.saving.proofs.Loops.{Written}
use Rattle.saving.proofs.put_records.Given as goal

abbrev pub invariant-loop-number : goal.invariant-loop-number
invariant-loop-number l = Written l.table l.fn.out l.out l.number l.at
