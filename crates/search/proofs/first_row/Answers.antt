-- No row passed passes the test, so the first that does is the one found; past the last there is none. Assumes nothing.
use mathlib.Core.Path.{◌∙◌}
use borrow.Author.Tests.{lt-ltb}
use native.Mathlib.Omega.{arith}
use Rattle.table.proofs.Found.{is_found, none_is_found}
use Rattle.table.proofs.Least.{tried_all, tried_one, tried_till}
use Rattle.search.proofs.first_row.Goals.{then-number-ge-ROWS, else-number-ge-ROWS+then-test}
use Rattle.search.proofs.first_row.Goals as goal

pub loop-number-preserved : goal.loop-number-preserved
loop-number-preserved g c = λ p h. tried_one _ _ _ _ (c.loop-number.invariant p h) (omega arith) (h _ _ (omega arith) c.test.ensures) c.if-test.false

pub returns : goal.returns
returns g c = λ p h.
    let tried = c.loop-number.invariant p h in
    c.then_some.ensures ∙ elim c.if-number-ge-ROWS.branch [
      | then-number-ge-ROWS w ↦ rw w.found-is (none_is_found _ (tried_all _ _ _ tried w.if-number-ge-ROWS.true))
      | else-number-ge-ROWS+then-test w ↦
          let l = w.if-number-ge-ROWS.false in
          rw (w.found-is, lt-ltb _ _ l) (is_found _ _ (tried_till _ _ _ _ tried l (h _ _ l w.test.ensures) w.if-test.true) l)
    ]
