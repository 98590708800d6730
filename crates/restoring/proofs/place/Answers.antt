-- The rows of the records that came are put, and past the last the words are zero. Assumes nothing.
use Prim.Native.Nat.{ℕ, ◌<◌}
use mathlib.Core.Path.{◌≡◌, ap, ◌∙◌}
use native.Mathlib.Omega.{arith}
use borrow.Author.Rules.{rules}
use lib.ListN.{length, length-drop}
use Rattle.restoring.proofs.Placing.{none_placed, one_placed, all_came}
use Rattle.restoring.proofs.Whole.{all_put}
use Rattle.records.proofs.Placed.{length_rows}
use Rattle.records.specs.Restoring.{record_count, row_from, with_rows, restored_table}
use Rattle.restoring.proofs.place.Goals as goal

pub loop-number-init : goal.loop-number-init
loop-number-init c = (search rules, none_placed _ _ _ _ _ (search rules) (search rules) (search rules))

pub loop-number-preserved : goal.loop-number-preserved
loop-number-preserved c =
    (search rules, one_placed c.loop-number.invariant.1 c.in-Some.record.now _ _ c.in-Some.number _ _ c.row_in.result c.requires (search rules) (search rules) (search rules) (search rules) (search rules) c.row_in.ensures c.put_row.ensures)

pub returns-clause-table : goal.returns-clause-table
unfolding restored_table
returns-clause-table c =
    let bytes = c.args.bytes.now in
    let old = c.args.table.now in
    let w = c.loop-number.invariant.1 in
    let last : length c.loop-number.number-iterator.iter.rest.now < c.loop-number.number-iterator.iter.size = search rules in
    let put : c.loop-number.table ≡ with_rows (record_count bytes) (row_from bytes) old = w.put ∙ ap (λ (n : ℕ). with_rows n (row_from bytes) old) (all_came w last) in
    rw put
    (all_put (record_count bytes) (row_from bytes) old c.fill.new.self _ c.requires c.told-table (search rules) (simp length-drop (omega (arith, length_rows (record_count bytes) (row_from bytes) old))))
