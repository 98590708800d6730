-- One pass, and what it says of each number of marks: the tallies, and the least. Assumes nothing.
use Rattle.std.proofs.Common.{◌≡◌, ℕ, ◌+◌, ◌-◌, Ok, true, false, List, sym, ◌∙◌, arith}
use Rattle.widths.specs.Trial.{ids_of, verdicts_with, new_among}
use Rattle.widths.specs.Runs.{Passed}
use Rattle.widths.specs.declared.Run.{Run}
use Rattle.widths.proofs.Least.{least_is}
use Rattle.widths.proofs.Recorded.{decided}
use Rattle.widths.proofs.Passed.{past_found, beyond_found, Tells, told}
use Rattle.widths.proofs.trial.Goals as goal

-- the ids that 63 marks found new are those that fewer find, and what these would have lost
module _ (bytes : List ℕ) {run : Run} (p : Passed 15 31 (ids_of bytes) run) where
  past : new_among (verdicts_with 15 (ids_of bytes)) + run.past ≡ run.found
  past = past_found 15 31 (ids_of bytes) run p (omega arith)

  beyond : new_among (verdicts_with 31 (ids_of bytes)) + run.beyond ≡ run.found
  beyond = beyond_found 15 31 (ids_of bytes) run p (omega arith)

  few : Tells 15 bytes (run.found - run.past)
  few = told 15 bytes (run.found - run.past) (omega (arith, past))

  more : Tells 31 bytes (run.found - run.beyond)
  more = told 31 bytes (run.found - run.beyond) (omega (arith, beyond))

  most : Tells 63 bytes run.found
  most = told 63 bytes run.found p.found

pub returns-then-len : goal.returns-then-len
returns-then-len c = sym (decided c.args.ids.now true c.if-len.true)

pub overflow_sub-run : goal.overflow_sub-run
overflow_sub-run c = omega (arith, past c.args.ids.now c.pass-run.ensures)

pub tallied-requires : goal.tallied-requires
tallied-requires c = (few c.args.ids.now c.pass-run.ensures).most

pub overflow_sub-run-2 : goal.overflow_sub-run-2
overflow_sub-run-2 c = omega (arith, beyond c.args.ids.now c.pass-run.ensures)

pub tallied-requires-2 : goal.tallied-requires-2
tallied-requires-2 c = (more c.args.ids.now c.pass-run.ensures).most

pub tallied-requires-3 : goal.tallied-requires-3
tallied-requires-3 c = (most c.args.ids.now c.pass-run.ensures).most

pub returns : goal.returns
returns c =
    let bytes = c.args.ids.now in
    let p = c.pass-run.ensures in
    let low = c.tallied.ensures ∙ (few bytes p).tally in
    let middle = c.tallied-2.ensures ∙ (more bytes p).tally in
    let high = c.tallied-3.ensures ∙ (most bytes p).tally in
    let least = c.max.ensures ∙ omega (arith, p.farthest, least_is (ids_of bytes)) in
    (λ i. Ok (record { few = low i; more = middle i; most = high i; least = least i })) ∙ sym (decided bytes false c.if-len.false)
