-- What one pass of 63 marks says of any fewer. Assumes nothing.
use mathlib.Core.Path.{◌≡◌}
use mathlib.Core.List.{List, []}
use Prim.Native.Nat.{ℕ, ◌+◌, ◌-◌, ◌/◌, ◌≤◌}
use native.Mathlib.Omega.{arith}
use lib.ListN.{length}
use Rattle.window.specs.Windows.{most_marks}
use Rattle.window.specs.Rows.{behind_encrypted}
use Rattle.widths.specs.Trial.{ids_of, verdicts_with, new_among, duplicates_among, tally_of, lost_from}
use Rattle.widths.specs.Runs.{Passed, tallied_of}
use Rattle.widths.specs.declared.Run.{Run}
use Rattle.widths.proofs.More.{within_none, lost_besides}
use Rattle.widths.proofs.Recorded.{ids_length}
use Rattle.widths.proofs.Running.{counted_once}

-- the new ids are those of fewer marks, and what these lose
found : (u : ℕ) (ids : List ℕ) → u ≤ most_marks → new_among (verdicts_with u ids) + lost_from behind_encrypted most_marks u [] ids ≡ new_among (verdicts_with most_marks ids)
found u ids l = lost_besides behind_encrypted u most_marks l [] [] ids (within_none u)

module _ (v w : ℕ) (ids : List ℕ) (run : Run) (p : Passed v w ids run) where
  pub past_found : v ≤ most_marks → new_among (verdicts_with v ids) + run.past ≡ run.found
  past_found l = omega (arith, p.found, p.past, found v ids l)

  pub beyond_found : w ≤ most_marks → new_among (verdicts_with w ids) + run.beyond ≡ run.found
  beyond_found l = omega (arith, p.found, p.beyond, found w ids l)

-- there are no more of them than ids
pub found_most : (W : ℕ) (ids : List ℕ) → new_among (verdicts_with W ids) ≤ length ids
found_most W ids = omega (arith, counted_once behind_encrypted W [] ids)

-- and what is not new is a duplicate: what a count of the new ids says of u marks
pub record Tells (u : ℕ) (bytes : List ℕ) (new : ℕ) : Type 0 where
  pub most : new ≤ length bytes / 4
  pub tally : tallied_of u new (length bytes / 4) ≡ tally_of u (ids_of bytes)

pub told : (u : ℕ) (bytes : List ℕ) (new : ℕ) → new ≡ new_among (verdicts_with u (ids_of bytes)) → Tells u bytes new
unfolding tally_of
told u bytes new n =
    let ids : List ℕ = ids_of bytes in
    let d : length bytes / 4 - new ≡ duplicates_among (verdicts_with u ids) = omega (arith, n, ids_length bytes, counted_once behind_encrypted u [] ids) in
    record { most = omega (arith, n, ids_length bytes, found_most u ids); tally = λ i. record { held = u; new = n i; duplicate = d i } }
