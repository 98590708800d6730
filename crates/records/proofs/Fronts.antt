-- What the functions of one record use: its front, whole or not. Assumes nothing.
use Prim.Native.Nat.{ℕ, ◌+◌, ◌-◌, ◌*◌, ◌≤◌, ◌<◌}
use mathlib.Core.Path.{◌≡◌, sym, ap, ◌∙◌}
use mathlib.Core.Bool.{Bool, true, cond, not, ◌&&◌, ◌||◌}
use mathlib.Core.List.{List}
use native.Mathlib.Omega.{arith}
use borrow.Author.Tests.{le-leb, lt-leb}
use lib.Dec.{eqb}
use lib.ListN.{length, take, drop, length-drop}
use lib.Seq.{length-take-le}
use Rattle.message.specs.Refusals.{nobody, bad_key_type}
use Rattle.window.specs.Rule.{bit_at}
use Rattle.window.specs.declared.Row.{Row}
use Rattle.table.specs.Table.{freed}
use Rattle.records.specs.Restoring.{record_count, record_at, row_from}
use Rattle.records.specs.Records.{record_bytes, row_in, front_row, bad_row}

pub front_row_lem : (bytes : List ℕ) → record_bytes ≤ length bytes → front_row bytes ≡ row_in bytes
unfolding front_row
front_row_lem bytes h = ap (λ (b : Bool). cond b (row_in bytes) freed) (le-leb _ _ h)

pub front_none : (bytes : List ℕ) → length bytes < record_bytes → front_row bytes ≡ freed
unfolding front_row
front_none bytes h = ap (λ (b : Bool). cond b (row_in bytes) freed) (lt-leb _ _ h)

-- ---- a record of several

-- the part that code takes is the record
pub record_part : (bytes : List ℕ) (i : ℕ) → take (18 * i + 18 - 18 * i) (drop (18 * i) bytes) ≡ record_at bytes i
record_part bytes i = let w : 18 * i + 18 - 18 * i ≡ 18 = omega arith in ap (λ (n : ℕ). take n (drop (18 * i) bytes)) w

-- and it is whole
pub record_row : (bytes : List ℕ) (i : ℕ) → i < record_count bytes → front_row (take (18 * i + 18 - 18 * i) (drop (18 * i) bytes)) ≡ row_from bytes i
record_row bytes i l =
    let k = length-drop (18 * i) bytes in
    let n = length-take-le 18 (drop (18 * i) bytes) (omega (arith, k, l)) in
    ap front_row (record_part bytes i) ∙ front_row_lem (record_at bytes i) (omega (arith, n))

-- ---- what is wrong with a row

-- a node that is nobody's is enough
pub bad_node : (row : Row) → nobody row.node ≡ true → true ≡ bad_row row
bad_node row e = sym (ap (λ (n : Bool). (n || (not (eqb row.key 0) && bad_key_type row.key)) || bit_at row.marks 15) e)
