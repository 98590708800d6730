-- At each number the rows in use before it are counted. Assumes nothing.
use Prim.Native.Nat.{◌+◌}
use mathlib.Core.Path.{refl, subst⁻¹}
use native.Mathlib.Omega.{arith}
use borrow.Author.Rules.{rules}
use Rattle.table.specs.Table.{kept}
use Rattle.saving.proofs.Loops.{Counted, count_used, count_free, counted_most, counted_all}
use Rattle.saving.proofs.rows_in_use.Goals as goal
use Rattle.saving.proofs.rows_in_use.Goals.{then-row_at, else-row_at}

pub loop-number-init : goal.loop-number-init
unfolding kept
loop-number-init c = refl

pub overflow_add-count : goal.overflow_add-count
overflow_add-count c = omega (arith, counted_most _ _ _ (omega arith) c.loop-number.invariant)

pub loop-number-preserved : goal.loop-number-preserved
loop-number-preserved c =
    let t = c.args.table.now in
    let l = c.loop-number in
    let row = c.row_at in
    elim c.if-row_at.branch [
      | then-row_at w ↦
          subst⁻¹ (Counted t (l.number + 1)) w.count-is
          (count_used t l.number l.count row.result (search rules) row.ensures l.invariant w.if-row_at.true)
      | else-row_at w ↦
          subst⁻¹ (Counted t (l.number + 1)) w.count-is
          (count_free t l.number l.count row.result (search rules) row.ensures l.invariant w.if-row_at.false)
    ]

pub returns : goal.returns
returns c = counted_all _ _ _ (omega arith) (omega arith) c.loop-number.invariant
