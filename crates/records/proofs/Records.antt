-- One row as a record, there and back. Assumes nothing.
use Prim.Native.Nat.{ℕ, ◌/◌, ◌%◌, ◌^◌, ◌<◌}
use mathlib.Core.Path.{◌≡◌, refl, sym, ap, ◌∙◌}
use mathlib.Core.Bool.{true, false, not, ◌&&◌, ◌||◌}
use mathlib.Core.List.{List, ◌++◌}
use native.Mathlib.Omega.{arith}
use borrow.Author.Tests.{eqb-true, eqb-false, not-false}
use lib.Dec.{eqb}
use lib.ListN.{length}
use lib.Seq.{take_all}
use Rattle.wire.specs.Bytes.{little, big, little_bytes, big_bytes, part, front}
use Rattle.wire.proofs.Digits.{AllBytes, all_append, all_little, all_reverse, little_of, big_of}
use Rattle.wire.proofs.Fronts.{front_part, part_take}
use Rattle.wire.proofs.Parts.{byte_low, little_back, big_back}
use Rattle.message.specs.Refusals.{nobody, bad_key_type}
use Rattle.message.proofs.Logic.{or_false}
use Rattle.window.specs.Rows.{marks_held}
use Rattle.window.specs.Rule.{bit_at}
use Rattle.window.specs.declared.Row.{Row}
use Rattle.records.specs.Records.{record_mark, record_of, row_in, wrong_mark, bad_row}

-- ---- the record of a row

-- it is 18 bytes long
pub length_record : (row : Row) → length (record_of row) ≡ 18
unfolding record_of
length_record row = refl

pub bytes_of_record : (row : Row) → AllBytes (record_of row)
unfolding record_of
bytes_of_record row =
    all_append (all_append (all_append (all_append (all_little 2 record_mark) (all_reverse (all_little 8 row.node))) (all_little 2 row.key)) (all_little 4 row.highest))
    (all_little 2 (row.marks % 2 ^ marks_held))

-- its mark is right
pub mark_of_record : (row : Row) → wrong_mark (record_of row) ≡ false
unfolding record_of front
mark_of_record row = refl

-- bit 15 of the marks is saved as zero
pub marks_of_record : (row : Row) → (row_in (record_of row)).marks ≡ row.marks % 2 ^ marks_held
unfolding record_of row_in
marks_of_record row = little_of 2 (row.marks % 2 ^ marks_held) (omega arith)

-- it says the row, if that is in use and each of its numbers has room
pub row_of_record : (row : Row) → row.used ≡ true → row.node < 2 ^ 64 → row.key < 2 ^ 16 → row.highest < 2 ^ 32 → row.marks < 2 ^ marks_held → row_in (record_of row) ≡ row
unfolding record_of row_in
row_of_record row u n k h m =
    let node = big_of 8 row.node n in
    let key = little_of 2 row.key k in
    let highest = little_of 4 row.highest h in
    let low : row.marks % 2 ^ marks_held ≡ row.marks = omega arith in
    let marks = marks_of_record row ∙ low in
    λ i. record { used = sym u i; node = node i; key = key i; highest = highest i; marks = marks i }

-- ---- the row of a record

-- a row that 25 does not refuse has bit 15 of its marks clear
pub no_stray_mark : (row : Row) → bad_row row ≡ false → bit_at row.marks marks_held ≡ false
no_stray_mark row g = (or_false (nobody row.node || (not (eqb row.key 0) && bad_key_type row.key)) _ g).1

low_marks : (r : List ℕ) → AllBytes r → bad_row (row_in r) ≡ false → little (part r 16 2) < 2 ^ marks_held
unfolding row_in bit_at
low_marks r all g =
    let bit : little (part r 16 2) / 2 ^ marks_held % 2 ≡ 1 → ⊥ = eqb-false _ 1 (no_stray_mark (row_in r) g) in
    omega (arith, bit, byte_low all 16, byte_low all 17)

-- its record is that record again
pub record_of_row : (r : List ℕ) → AllBytes r → length r ≡ 18 → wrong_mark r ≡ false → bad_row (row_in r) ≡ false → record_of (row_in r) ≡ r
unfolding record_of row_in
record_of_row r all l w g =
    let m : little (front 2 r) ≡ record_mark = eqb-true _ _ (not-false _ w) in
    let mark : little_bytes 2 record_mark ≡ part r 0 2 = ap (little_bytes 2) (sym m ∙ ap little (front_part 2 r (omega arith))) ∙ little_back r all 0 2 in
    let node : big_bytes 8 (big (part r 2 8)) ≡ part r 2 8 = big_back r all 2 8 in
    let key = little_back r all 10 2 in
    let highest = little_back r all 12 4 in
    let h : little (part r 16 2) < 2 ^ marks_held = low_marks r all g in
    let low : little (part r 16 2) % 2 ^ marks_held ≡ little (part r 16 2) = omega arith in
    let marks : little_bytes 2 (little (part r 16 2) % 2 ^ marks_held) ≡ part r 16 2 = ap (little_bytes 2) low ∙ little_back r all 16 2 in
    (λ i. mark i ++ node i ++ key i ++ highest i ++ marks i)
    ∙ part_take r 0 18 (omega arith)
    ∙ take_all 18 r (omega arith)
