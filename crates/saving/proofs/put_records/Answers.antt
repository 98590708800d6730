-- At each number the records of the rows in use before it are written. Assumes nothing.
use mathlib.Core.Path.{refl}
use native.Mathlib.Omega.{arith}
use borrow.Author.Rules.{rules}
use Rattle.table.specs.Table.{kept}
use Rattle.records.specs.Saving.{records_of}
use Rattle.saving.proofs.Filled.{part_length}
use Rattle.saving.proofs.Loops.{room_for, write_used, write_free, written_as, written_length, written_small}
use Rattle.saving.proofs.put_records.Goals as goal
use Rattle.saving.proofs.put_records.Goals.{then-row, else-row}

pub loop-number-init : goal.loop-number-init
unfolding kept records_of
loop-number-init c = record { buffer = refl; place = refl }

pub overflow_add-at : goal.overflow_add-at
overflow_add-at c = omega (arith, written_small _ _ _ _ _ (omega arith) c.loop-number.invariant)

pub slice_bounds-put_record-end : goal.slice_bounds-put_record-end
slice_bounds-put_record-end c =
    let a = c.args in
    let l = c.loop-number in
    let k = written_length a.table.now a.out.now l.out l.number l.at l.invariant in
    let r = room_for a.table.now a.out.now l.out l.number l.at c.row_at-row.result (search rules) c.row_at-row.ensures l.invariant c.requires c.if-row.true in
    omega (arith, k, r)

pub put_record-requires : goal.put_record-requires
put_record-requires c =
    let a = c.args in
    let l = c.loop-number in
    let k = written_length a.table.now a.out.now l.out l.number l.at l.invariant in
    let r = room_for a.table.now a.out.now l.out l.number l.at c.row_at-row.result (search rules) c.row_at-row.ensures l.invariant c.requires c.if-row.true in
    part_length l.out l.at 18 (omega (arith, k, r))

pub loop-number-preserved : goal.loop-number-preserved
loop-number-preserved c =
    let t = c.args.table.now in
    let old = c.args.out.now in
    let l = c.loop-number in
    let row = c.row_at-row in
    elim c.if-row.branch [
      | then-row w ↦
          written_as t old _ _ _ _ _ w.out-is w.at-is
          (write_used t old l.out l.number l.at row.result (search rules) row.ensures l.invariant c.requires w.put_record.new.out w.if-row.true w.put_record.ensures)
      | else-row w ↦
          written_as t old _ _ _ _ _ w.out-is w.at-is
          (write_free t old l.out l.number l.at row.result (search rules) row.ensures l.invariant c.requires w.if-row.false)
    ]
