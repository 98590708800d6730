-- One pass, and what it says of so many marks. Assumes nothing.
use Rattle.std.proofs.Common.{◌≡◌, ℕ, ◌+◌, ◌-◌, min, List, ap, ◌∙◌, arith}
use Rattle.window.specs.Windows.{most_marks}
use Rattle.widths.specs.Trial.{ids_of, verdicts_with, new_among, tally_of}
use Rattle.widths.specs.Runs.{Passed}
use Rattle.widths.specs.declared.Run.{Run}
use Rattle.widths.proofs.Passed.{past_found, Tells, told}
use Rattle.widths.proofs.count.Goals as goal

-- the ids that 63 marks found new are those that fewer find, and what these would have lost
found : (held : ℕ) {u : ℕ} (bytes : List ℕ) {run : Run} → u ≡ min held most_marks → Passed u u (ids_of bytes) run
    → new_among (verdicts_with u (ids_of bytes)) + run.past ≡ run.found
found held {u} bytes {run} e p = past_found u u (ids_of bytes) run p (omega arith)

fewer : (held : ℕ) {u : ℕ} (bytes : List ℕ) {run : Run} → u ≡ min held most_marks → Passed u u (ids_of bytes) run → Tells u bytes (run.found - run.past)
fewer held {u} bytes {run} e p = told u bytes (run.found - run.past) (omega (arith, found held bytes e p))

pub overflow_sub-run : goal.overflow_sub-run
overflow_sub-run c = omega (arith, found c.args.held c.args.ids.now c.min-held.ensures c.pass-run.ensures)

pub tallied-requires : goal.tallied-requires
tallied-requires c = (fewer c.args.held c.args.ids.now c.min-held.ensures c.pass-run.ensures).most

pub returns : goal.returns
returns c =
    c.tallied.ensures ∙ (fewer c.args.held c.args.ids.now c.min-held.ensures c.pass-run.ensures).tally
    ∙ ap (λ (W : ℕ). tally_of W (ids_of c.args.ids.now)) c.min-held.ensures
