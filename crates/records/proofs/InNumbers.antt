-- Saved rows in numbers: a record, its row, and bytes that are refused, computed. Assumes nothing.
use Rattle.std.specs.Prelude.{Ok, Err}
use Prim.Native.Nat.{ℕ}
use mathlib.Core.Path.{◌≡◌, refl, ap, ◌∙◌}
use mathlib.Core.List.{List, [], ◌∷◌, ◌++◌}
use native.Mathlib.Omega.{arith}
use Rattle.wire.specs.Bytes.{front}
use Rattle.message.specs.Reasons.{refusal}
use Rattle.message.specs.declared.answers.Reason.TheVariants.{SavedMark, SavedLength, SavedRow, SavedTwice}
use Rattle.window.specs.Rule.{bit_at}
use Rattle.window.specs.Rows.{row_in_use}
use Rattle.window.specs.declared.Row.{Row}
use Rattle.table.specs.Table.{rows, empty_table, row_of, with_row, first_below, in_use, rows_in_use}
use Rattle.table.proofs.Kept.{kept_one}
use Rattle.table.proofs.Words.{same_row, other_row, empty_row}
use Rattle.records.specs.Records.{record_of, row_in}
use Rattle.records.specs.Saving.{records_of, saved_bytes}
use Rattle.records.specs.Restoring.{named_before, restoring_order, restore_of, restored_table}
use Rattle.records.specs.Sound.{Sound}
use Rattle.records.proofs.Placed.{restored_row}
use Rattle.records.proofs.Records.{bytes_of_record}
use Rattle.records.proofs.SaveRestore.{records_placed, records_restored}

-- node 02..0E, key id 1001, highest id 5, marks 1 and 2; and bit 15, which is no mark
abbrev stray : Row
stray = row_in_use 0x020000000000000E 0x1001 5 0x8003

-- the same without bit 15
abbrev clean : Row
clean = row_in_use 0x020000000000000E 0x1001 5 0x0003

-- the record of both
abbrev saved : List ℕ
saved =
    0x52 ∷ 0x57
    ∷ 0x02 ∷ 0x00 ∷ 0x00 ∷ 0x00 ∷ 0x00 ∷ 0x00 ∷ 0x00 ∷ 0x0E
    ∷ 0x01 ∷ 0x10
    ∷ 0x05 ∷ 0x00 ∷ 0x00 ∷ 0x00
    ∷ 0x03 ∷ 0x00 ∷ []

-- the record of a plain row: node 02..01, highest id 9, no marks
abbrev plain : List ℕ
plain =
    0x52 ∷ 0x57
    ∷ 0x02 ∷ 0x00 ∷ 0x00 ∷ 0x00 ∷ 0x00 ∷ 0x00 ∷ 0x00 ∷ 0x01
    ∷ 0x00 ∷ 0x00
    ∷ 0x09 ∷ 0x00 ∷ 0x00 ∷ 0x00
    ∷ 0x00 ∷ 0x00 ∷ []

-- a record of the node of all zeros
abbrev nobodys : List ℕ
nobodys =
    0x52 ∷ 0x57
    ∷ 0x00 ∷ 0x00 ∷ 0x00 ∷ 0x00 ∷ 0x00 ∷ 0x00 ∷ 0x00 ∷ 0x00
    ∷ 0x01 ∷ 0x10
    ∷ 0x05 ∷ 0x00 ∷ 0x00 ∷ 0x00
    ∷ 0x03 ∷ 0x00 ∷ []

-- a record with the two bytes of its mark in the other order
abbrev turned : List ℕ
turned =
    0x57 ∷ 0x52
    ∷ 0x02 ∷ 0x00 ∷ 0x00 ∷ 0x00 ∷ 0x00 ∷ 0x00 ∷ 0x00 ∷ 0x0F
    ∷ 0x01 ∷ 0x10
    ∷ 0x05 ∷ 0x00 ∷ 0x00 ∷ 0x00
    ∷ 0x03 ∷ 0x00 ∷ []

-- The record of the row, bit 15 zero in it.
pub record_of_the_row : (record_of stray ≡ saved) × (record_of clean ≡ saved)
unfolding record_of
record_of_the_row = (refl, refl)

-- Two rows have their records in the same order.
pub records_in_their_order : records_of (clean ∷ row_in_use 0x0200000000000001 0 9 0 ∷ []) ≡ saved ++ plain
unfolding records_of record_of
records_in_their_order = refl

-- A table with the row at number 7 alone saves to that record.
pub table_saves_to_the_record : saved_bytes (with_row empty_table 7 stray) ≡ saved
unfolding records_of record_of
table_saves_to_the_record =
    let t : List ℕ = with_row empty_table 7 stray in
    let here : row_of t 7 ≡ stray = same_row empty_table 7 stray (omega arith) (record { key = omega arith; highest = omega arith; marks = omega arith }) in
    let alone = kept_one rows in_use (row_of t) 7 (omega arith) (ap in_use here) (λ k l n. ap in_use (other_row empty_table 7 k stray n ∙ empty_row k)) in
    ap records_of (alone ∙ ap (λ (row : Row). row ∷ []) here)

-- Restoring it places one row, the first of the table, and no other: that row without bit 15.
pub record_is_restored : (restore_of saved ≡ Ok 1) × (rows_in_use (restored_table saved) ≡ clean ∷ []) × (row_of (restored_table saved) 0 ≡ clean)
unfolding records_of record_of row_in front bit_at
record_is_restored =
    let sound : Sound (clean ∷ []) = (
      record { used = refl; good = refl; node = omega arith; key = omega arith; highest = omega arith; marks = omega arith },
      tt,
      tt,
    ) in (
      records_placed (clean ∷ []) sound (omega arith),
      records_restored (clean ∷ []) sound (omega arith),
      restored_row saved (bytes_of_record clean) (omega arith) 0 (omega arith),
    )

-- The same name twice gives 26.
pub name_twice_gives_26 : restore_of (saved ++ saved) ≡ Err (refusal SavedTwice)
unfolding restore_of restoring_order named_before first_below row_in front bit_at
name_twice_gives_26 = refl

-- A bad node in the first record, and a wrong mark in the second, give 23; the bad node alone gives 25.
pub wrong_mark_before_bad_node : (restore_of (nobodys ++ turned) ≡ Err (refusal SavedMark)) × (restore_of (nobodys ++ saved) ≡ Err (refusal SavedRow))
unfolding restore_of restoring_order named_before first_below row_in front bit_at
wrong_mark_before_bad_node = (refl, refl)

-- A record cut short, or with a byte more, gives 24.
pub not_whole_gives_24 : (restore_of (0x52 ∷ []) ≡ Err (refusal SavedLength)) × (restore_of (saved ++ 0x52 ∷ []) ≡ Err (refusal SavedLength))
unfolding restore_of restoring_order named_before first_below row_in front bit_at
not_whole_gives_24 = (refl, refl)
