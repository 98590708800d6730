-- What saving and restoring promise, each as a theorem of its own. The laws behind them are in the other files of this folder. Assumes nothing.

-- Saving after restoring gives the same bytes back. Restoring after saving gives the same rows in use, in their order.
pub use Rattle.records.proofs.SaveRestore.{save_after_restore, restore_after_save}
-- A record is 18 bytes, with its mark, and says the row again if that is in use and its numbers have room; the row of a good record gives that record
-- again. Bit 15 of the marks is saved as zero.
pub use Rattle.records.proofs.Records.{length_record, bytes_of_record, mark_of_record, marks_of_record, row_of_record, record_of_row}
-- Only one outcome fits each public function.
pub use Rattle.records.proofs.Outcomes.{one_row_in, one_wrong_mark, one_bad_row}
-- Saved bytes are 18 for each row in use, and the record at a number is that of the row in use at that number.
pub use Rattle.records.proofs.Saved.{length_records, bytes_of_records, count_records, record_at_lem}
-- A restored table has the row of each record at its number; all that is behind them is free and zero.
pub use Rattle.records.proofs.Placed.{restored_length, restored_row, restored_free, restored_zero}
-- A right mark, a good row and one name in plain terms.
pub use Rattle.records.proofs.Plain.{right_mark_says, right_mark_when, GoodKey, good_row_says, good_row_when, same_name_says, same_name_when}
-- The conditions in plain terms; and where none of them holds, the rows of all records are placed.
pub use Rattle.records.proofs.Conditions.{Some, RightLength, WrongLength, AllMarked, SomeUnmarked, AllGood, SomeBad, NamesApart, NameTwice, placed_when}
use Rattle.std.specs.Prelude.{Option, Result, Ok, Err}
use Prim.Native.Nat.{ℕ, ◌*◌, ◌≤◌, ◌<◌}
use mathlib.Core.Path.{◌≡◌, refl, sym, ap, ap₂, ◌∙◌}
use mathlib.Core.Bool.{Bool, true, false}
use mathlib.Core.List.{List, [], ◌∷◌, ◌++◌}
use native.Mathlib.Omega.{arith}
use borrow.Author.Tests.{ltb-true, ltb-false, lt-ltb, le-ltb}
use lib.Dec.{ltb}
use lib.ListN.{length, take, drop, length-append, length-drop}
use lib.Seq.{take_at, drop_at}
use Rattle.wire.proofs.Digits.{AllBytes}
use Rattle.message.specs.Order.{◌when◌, first}
use Rattle.message.specs.Reasons.{number, refusal}
use Rattle.message.specs.Answers.{writing, buffer_after}
use Rattle.message.specs.declared.answers.Reason.{Reason}
use Rattle.message.specs.declared.answers.Refusal.{Refusal}
use Rattle.message.specs.declared.answers.Reason.TheVariants.{NoRoom, SavedMark, SavedLength, SavedRow, SavedTwice}
use Rattle.message.proofs.Order.{FirstToHold, reason_first, first_reason}
use Rattle.message.proofs.Writings.{at_no_byte}
use Rattle.table.specs.Table.{rows, empty_table, row_of, first_below, in_use, rows_in_use}
use Rattle.table.proofs.Kept.{kept_none}
use Rattle.table.proofs.Words.{empty_row}
use Rattle.records.specs.Records.{wrong_mark, bad_row}
use Rattle.records.specs.Saving.{records_of, saved_bytes, saving_order, save_of, save_buffer}
use Rattle.records.specs.Restoring.{record_count, record_at, row_from, bad_length, restoring_order, restored, restore_of, with_rows, restored_table, table_after, restore_table}
use Rattle.records.specs.Sound.{Sound}
use Rattle.records.proofs.Conditions.{some_says, some_when, none_when, right_says, right_when, wrong_says, wrong_when, twice_says, twice_when}
use Rattle.records.proofs.Decided.{unmarked, bad, twice, restored_reason, told, answered, within, is_24, is_23, is_25, is_26}
use Rattle.records.proofs.Placed.{none_below, is_taken}

-- ---- saving

module _ (t : List ℕ) where
  module _ (room : ℕ) where
    -- what was said, by whether the room is too short
    said : (b : Bool) → ltb room (length (saved_bytes t)) ≡ b → save_of t room ≡ writing (first (NoRoom when b ∷ [])) (length (saved_bytes t))
    unfolding save_of saving_order
    said b e = ap (λ (c : Bool). writing (first (NoRoom when c ∷ [])) (length (saved_bytes t))) e

    -- Saving refuses exactly when the room is shorter than 18 bytes for each row in use, and then with 19.
    pub saving_refused_when : room < 18 * length (rows_in_use t) → save_of t room ≡ Err (refusal NoRoom)
    saving_refused_when l = said true (lt-ltb room (length (saved_bytes t)) (omega (arith, length_records (rows_in_use t))))

    pub saving_refused_says : (reason : Reason) → save_of t room ≡ Err (refusal reason) → (reason ≡ NoRoom) × (room < 18 * length (rows_in_use t))
    saving_refused_says reason e = go (ltb room (length (saved_bytes t))) refl
      where
        go : (b : Bool) → ltb room (length (saved_bytes t)) ≡ b → (reason ≡ NoRoom) × (room < 18 * length (rows_in_use t))
        go true h =
            let f : NoRoom ≡ reason = cc (said true h, e) in
            (sym f, omega (arith, length_records (rows_in_use t), ltb-true room (length (saved_bytes t)) h))
        go false h = absurd (cc (said false h, e))

    -- A refusal of saving points at no byte.
    pub saving_points_at_no_byte : (r : Refusal) → save_of t room ≡ Err r → r.offset ≡ 0
    unfolding save_of
    saving_points_at_no_byte r e = at_no_byte (first (saving_order t room)) (length (saved_bytes t)) r e

    -- Where there is room it writes as many bytes.
    pub saving_written_when : 18 * length (rows_in_use t) ≤ room → save_of t room ≡ Ok (18 * length (rows_in_use t))
    saving_written_when l = said false (le-ltb room (length (saved_bytes t)) (omega (arith, length_records (rows_in_use t)))) ∙ ap Ok (length_records (rows_in_use t))

    pub saving_written_says : (n : ℕ) → save_of t room ≡ Ok n → (n ≡ 18 * length (rows_in_use t)) × (n ≤ room)
    saving_written_says n e = go (ltb room (length (saved_bytes t))) refl
      where
        go : (b : Bool) → ltb room (length (saved_bytes t)) ≡ b → (n ≡ 18 * length (rows_in_use t)) × (n ≤ room)
        go true h = absurd (cc (said true h, e))
        go false h =
            let f : length (saved_bytes t) ≡ n = cc (said false h, e) in
            (sym f ∙ length_records (rows_in_use t), omega (arith, ltb-false room (length (saved_bytes t)) h))

  -- A refused save leaves the buffer as it was, all of it.
  pub refused_save_changes_nothing : (r : Refusal) (old : List ℕ) → save_of t (length old) ≡ Err r → save_buffer t old ≡ old
  unfolding save_buffer
  refused_save_changes_nothing r old e = ap (λ (w : Result ℕ Refusal). buffer_after w (saved_bytes t) old) e

  -- A save changes the first bytes only, as many as it says: they are those of the table, and the others stay.
  pub save_changes_the_front_only : (n : ℕ) (old : List ℕ) → save_of t (length old) ≡ Ok n
      → (take n (save_buffer t old) ≡ saved_bytes t) × (drop n (save_buffer t old) ≡ drop n old)
  unfolding save_buffer
  save_changes_the_front_only n old e =
      let b : save_buffer t old ≡ saved_bytes t ++ drop n old = ap (λ (w : Result ℕ Refusal). buffer_after w (saved_bytes t) old) e in
      let l : length (saved_bytes t) ≡ n = length_records (rows_in_use t) ∙ sym (saving_written_says (length old) n e).0 in
      (ap (take n) b ∙ take_at (saved_bytes t) (drop n old) n l, ap (drop n) b ∙ drop_at (saved_bytes t) (drop n old) n l)

  -- The buffer keeps its length, refused or not.
  pub save_keeps_the_length : (old : List ℕ) → length (save_buffer t old) ≡ length old
  unfolding save_buffer
  save_keeps_the_length old = go (save_of t (length old)) refl
    where
      go : (w : Result ℕ Refusal) → save_of t (length old) ≡ w → length (buffer_after w (saved_bytes t) old) ≡ length old
      go (Ok n) e =
          let s = saving_written_says (length old) n e in
          omega (arith, length-append (saved_bytes t) (drop n old), length-drop n old, length_records (rows_in_use t), s.0, s.1)
      go (Err r) e = refl

-- The empty table saves to no bytes, in any room, and no byte of the buffer changes.
pub empty_saves_to_nothing : saved_bytes empty_table ≡ []
unfolding records_of
empty_saves_to_nothing = ap records_of (kept_none rows in_use (row_of empty_table) (λ k l. ap in_use (empty_row k)))

pub empty_needs_no_room : (room : ℕ) → save_of empty_table room ≡ Ok 0
unfolding save_of saving_order
empty_needs_no_room room =
    ap (λ (l : List ℕ). writing (first (NoRoom when ltb room (length l) ∷ [])) (length l)) empty_saves_to_nothing
    ∙ ap (λ (b : Bool). writing (first (NoRoom when b ∷ [])) 0) (le-ltb room 0 (omega arith))

pub empty_changes_nothing : (old : List ℕ) → save_buffer empty_table old ≡ old
unfolding save_buffer
empty_changes_nothing old = ap₂ (λ (w : Result ℕ Refusal) (l : List ℕ). buffer_after w l old) (empty_needs_no_room (length old)) empty_saves_to_nothing

-- ---- restoring

module _ (bytes : List ℕ) where
  -- A reason is given only where its condition is the first to hold in the order.
  pub restoring_refused_first : (reason : Reason) → restore_of bytes ≡ Err (refusal reason) → FirstToHold (refusal reason) (restoring_order bytes)
  unfolding restore_of restoring_order
  restoring_refused_first reason e = reason_first reason (restoring_order bytes) refl (restored_reason (first (restoring_order bytes)) reason (record_count bytes) e)

  -- And wherever it is.
  pub restoring_first_refused : (reason : Reason) → FirstToHold (refusal reason) (restoring_order bytes) → restore_of bytes ≡ Err (refusal reason)
  unfolding restore_of
  restoring_first_refused reason w = ap (λ (given : Option Reason). restored given (record_count bytes)) (first_reason reason (restoring_order bytes) w)

  -- A refusal of restoring points at no byte.
  pub restoring_points_at_no_byte : (r : Refusal) → restore_of bytes ≡ Err r → r.offset ≡ 0
  unfolding restore_of
  restoring_points_at_no_byte r e = at_no_byte (first (restoring_order bytes)) (record_count bytes) r e

  -- 24 exactly when the bytes are not whole records, or the records are more than the rows.
  pub wrong_length_says : restore_of bytes ≡ Err (refusal SavedLength) → WrongLength bytes
  wrong_length_says e = wrong_says bytes (is_24 (bad_length bytes) (unmarked bytes) (bad bytes) (twice bytes) (told bytes SavedLength e))

  pub wrong_length_when : WrongLength bytes → restore_of bytes ≡ Err (refusal SavedLength)
  wrong_length_when h = answered bytes (wrong_when bytes h) refl refl refl

  -- 23 exactly when the length is right, and some record has a wrong mark.
  pub wrong_mark_says : restore_of bytes ≡ Err (refusal SavedMark) → RightLength bytes × SomeUnmarked bytes
  wrong_mark_says e =
      let w = is_23 (bad_length bytes) (unmarked bytes) (bad bytes) (twice bytes) (told bytes SavedMark e) in
      (right_says bytes w.0, some_says (record_count bytes) (λ i. wrong_mark (record_at bytes i)) w.1)

  pub wrong_mark_when : RightLength bytes → SomeUnmarked bytes → restore_of bytes ≡ Err (refusal SavedMark)
  wrong_mark_when l s = answered bytes (right_when bytes l) (some_when (record_count bytes) (λ i. wrong_mark (record_at bytes i)) s) refl refl

  -- 25 exactly when length and marks are right, and some row is bad.
  pub bad_row_says : restore_of bytes ≡ Err (refusal SavedRow) → RightLength bytes × AllMarked bytes × SomeBad bytes
  bad_row_says e =
      let w = is_25 (bad_length bytes) (unmarked bytes) (bad bytes) (twice bytes) (told bytes SavedRow e) in (
        right_says bytes w.0,
        none_below (record_count bytes) (λ i. wrong_mark (record_at bytes i)) w.1,
        some_says (record_count bytes) (λ i. bad_row (row_from bytes i)) w.2,
      )

  pub bad_row_when : RightLength bytes → AllMarked bytes → SomeBad bytes → restore_of bytes ≡ Err (refusal SavedRow)
  bad_row_when l m s =
      answered bytes (right_when bytes l) (none_when (record_count bytes) (λ i. wrong_mark (record_at bytes i)) m) (some_when (record_count bytes) (λ i. bad_row (row_from bytes i)) s) refl

  -- 26 exactly when length and marks are right and every row is good, and two rows have one name.
  pub name_twice_says : restore_of bytes ≡ Err (refusal SavedTwice) → RightLength bytes × AllMarked bytes × AllGood bytes × NameTwice bytes
  name_twice_says e =
      let w = is_26 (bad_length bytes) (unmarked bytes) (bad bytes) (twice bytes) (told bytes SavedTwice e) in (
        right_says bytes w.0,
        none_below (record_count bytes) (λ i. wrong_mark (record_at bytes i)) w.1,
        none_below (record_count bytes) (λ i. bad_row (row_from bytes i)) w.2,
        twice_says bytes w.3,
      )

  pub name_twice_when : RightLength bytes → AllMarked bytes → AllGood bytes → NameTwice bytes → restore_of bytes ≡ Err (refusal SavedTwice)
  name_twice_when l m g t =
      answered bytes (right_when bytes l) (none_when (record_count bytes) (λ i. wrong_mark (record_at bytes i)) m) (none_when (record_count bytes) (λ i. bad_row (row_from bytes i)) g)
      (twice_when bytes t)

  -- Restoring has no other refusal.
  pub restoring_numbers : (reason : Reason) → restore_of bytes ≡ Err (refusal reason) → (23 ≤ number reason) × (number reason ≤ 26)
  restoring_numbers reason e = within (bad_length bytes) (unmarked bytes) (bad bytes) (twice bytes) reason (told bytes reason e)

  -- Taken exactly when none of them holds, and then as many rows as there are records (`placed_when`).
  pub placed_says : (n : ℕ) → restore_of bytes ≡ Ok n → (n ≡ record_count bytes) × RightLength bytes × AllMarked bytes × AllGood bytes × NamesApart bytes
  placed_says n e = let k = is_taken bytes n e in (k.count, (omega (arith, k.whole), k.most), k.mark, k.good, k.alone)

  -- A refused restore leaves the table as it was, every word of it.
  pub refused_restore_changes_nothing : (r : Refusal) (t : List ℕ) → restore_of bytes ≡ Err r → restore_table bytes t ≡ t
  unfolding restore_table
  refused_restore_changes_nothing r t e = ap (λ (a : Result ℕ Refusal). table_after a (restored_table bytes) t) e

  -- What it places, whatever the table was before, is the table that the bytes say.
  pub restore_gives_the_table : (n : ℕ) (t : List ℕ) → restore_of bytes ≡ Ok n → restore_table bytes t ≡ restored_table bytes
  unfolding restore_table
  restore_gives_the_table n t e = ap (λ (a : Result ℕ Refusal). table_after a (restored_table bytes) t) e

  pub restore_forgets_the_table : (n : ℕ) (t other : List ℕ) → restore_of bytes ≡ Ok n → restore_table bytes t ≡ restore_table bytes other
  restore_forgets_the_table n t other e = restore_gives_the_table n t e ∙ sym (restore_gives_the_table n other e)

-- No bytes are legal, and empty the table.
pub nothing_is_taken : restore_of [] ≡ Ok 0
unfolding restore_of restoring_order first_below
nothing_is_taken = refl

pub nothing_empties_the_table : (t : List ℕ) → (restored_table [] ≡ empty_table) × (restore_table [] t ≡ empty_table)
unfolding restored_table with_rows
nothing_empties_the_table t = (refl, restore_gives_the_table [] 0 t nothing_is_taken)

-- ---- through a buffer and a table

-- What was restored is saved again, where there is room, to the same bytes, and the buffer's other bytes stay.
pub restored_then_saved : (bytes t old : List ℕ) → AllBytes bytes → (n : ℕ) → restore_of bytes ≡ Ok n → length bytes ≤ length old
    → (save_of (restore_table bytes t) (length old) ≡ Ok (length bytes)) × (save_buffer (restore_table bytes t) old ≡ bytes ++ drop (length bytes) old)
unfolding save_buffer
restored_then_saved bytes t old all n e l =
    let now : List ℕ = restore_table bytes t in
    let same : saved_bytes now ≡ bytes = ap saved_bytes (restore_gives_the_table bytes n t e) ∙ save_after_restore bytes all n e in
    let answer : save_of now (length old) ≡ Ok (length bytes) =
    said now (length old) false (le-ltb (length old) (length (saved_bytes now)) (rw same l)) ∙ ap (λ (b : List ℕ). Ok (length b)) same in
    (answer, ap₂ (λ (w : Result ℕ Refusal) (b : List ℕ). buffer_after w b old) answer same)

-- What was saved at the front of a buffer is restored, whatever table it takes the place of, to the same rows in use.
pub saved_then_restored : (t old other : List ℕ) (n : ℕ) → Sound (rows_in_use t) → save_of t (length old) ≡ Ok n
    → let bytes : List ℕ = take n (save_buffer t old) in
    (restore_of bytes ≡ Ok (length (rows_in_use t))) × (rows_in_use (restore_table bytes other) ≡ rows_in_use t)
saved_then_restored t old other n s e =
    let back = restore_after_save t s in
    rw (save_changes_the_front_only t n old e).0
    (back.0, ap rows_in_use (restore_gives_the_table (saved_bytes t) (length (rows_in_use t)) other back.0) ∙ back.1)
