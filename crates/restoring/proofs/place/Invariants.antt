-- The rows of the records that came are put. Assumes nothing.
use Rattle.restoring.proofs.Placing.{Placing}
use Rattle.restoring.proofs.place.Given as goal

abbrev pub invariant-loop-number : goal.invariant-loop-number
invariant-loop-number l =
    (goal.iterator-loop-number).can_next l.number-iterator
    × Placing l.bytes l.fn.table l.table l.number-iterator.count l.number-iterator.iter.rest.now l.number-iterator.iter.size
