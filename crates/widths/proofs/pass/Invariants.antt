-- The chunks that are left have what the run has still to count, and no count is above the place. Assumes nothing.
use Rattle.std.proofs.Common.{◌≤◌, drop, map}
use Rattle.widths.specs.Trial.{ids_of}
use Rattle.widths.proofs.Recorded.{id_in}
use Rattle.widths.proofs.Running.{Left}
use Rattle.widths.proofs.pass.Given as goal

abbrev pub invariant-loop-id : goal.invariant-loop-id
invariant-loop-id l = record {
  found : l.run.found ≤ l.id-index;
  past : l.run.past ≤ l.id-index;
  beyond : l.run.beyond ≤ l.id-index;
  left : Left l.few l.more (ids_of l.ids) l.run (map id_in (drop l.id-index l.id-items));
}
