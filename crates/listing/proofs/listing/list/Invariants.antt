-- An ordinal for each message, of which there are no more than bytes, and what is left of the stream. Assumes nothing.
use Prim.Native.Nat.{◌+◌, ◌≤◌}
use mathlib.Core.Path.{◌≡◌}
use lib.ListN.{length}
use Rattle.listing.specs.Listing.{left_of}
use Rattle.listing.proofs.listing.list.Given as goal

abbrev pub invariant-loop-ordinal : goal.invariant-loop-ordinal
invariant-loop-ordinal g l = (l.ordinal-iterator.start + length l.rest ≤ length l.stream + 1) × (left_of l.stream ≡ left_of l.rest)
