-- A history in numbers: the theorem over histories, applied to the messages of the listing's example, a removal and a restore, and what it then
-- says computed. Assumes nothing.
use Rattle.std.specs.Prelude.{Result, Ok, Err}
use Prim.Native.Nat.{ℕ, ◌+◌, ◌%◌, ◌^◌, ◌<◌}
use mathlib.Core.Path.{◌≡◌, refl, ap, ap₂, ◌∙◌}
use mathlib.Core.Bool.{Bool, true, false, ◌&&◌}
use mathlib.Core.List.{List, [], ◌∷◌}
use native.Mathlib.Omega.{arith}
use borrow.Author.Tests.{ltb-true}
use lib.Dec.{ltb}
use Rattle.wire.specs.Bytes.{front}
use Rattle.wire.proofs.Digits.{AllBytes, none, more}
use Rattle.message.specs.Refusals.{stray, total}
use Rattle.message.specs.Value.{address_of, exchanged_by, message_of}
use Rattle.message.specs.Answers.{head_of}
use Rattle.message.specs.declared.value.Message.{Message}
use Rattle.message.specs.declared.answers.Reason.TheVariants.{OldTunnel}
use Rattle.message.specs.declared.answers.Refusal.{Refusal}
use Rattle.message.specs.Reasons.{refusal}
use Rattle.message.proofs.Logic.{clash}
use Rattle.judge.specs.Writing.{writing_order, write_of}
use Rattle.outer.specs.Outer.{outer_order}
use Rattle.reader.specs.Reading.{exchange_order, tunnel_order, body_order, reading_order}
use Rattle.window.specs.Rule.{member, greatest, position_of, position_after, is_new_position, accepts, number, marks_number, bit_at, marked}
use Rattle.window.specs.Rows.{marks_held, behind_of, list_of, opened}
use Rattle.window.specs.declared.Row.{Row}
use Rattle.window.specs.declared.Rolled.{Rolled}
use Rattle.table.specs.Table.{rows, empty_table, row_of, with_row, named, is_free, first_below, find_of, free_of, kept, in_use}
use Rattle.table.proofs.Found.{none_there_none_found}
use Rattle.table.proofs.Kept.{kept_one}
use Rattle.table.proofs.Least.{least_is}
use Rattle.table.proofs.Words.{same_row, other_row, empty_row}
use Rattle.reply.specs.Acknowledgement.{acknowledgement_of, acknowledging}
use Rattle.admission.specs.Admission.{row_for, rolled_in, admission_order, answer_of, table_after, table_by, as_new, as_duplicate}
use Rattle.admission.specs.declared.answers.Received.{Received}
use Rattle.reception.specs.Receiving.{Beside, beside, delivery_order, after_reading, receiving_order, receive_of, receive_table}
use Rattle.admission.proofs.Places.{opens}
use Rattle.records.specs.Records.{record_of, row_in}
use Rattle.records.specs.Saving.{records_of, saved_bytes}
use Rattle.records.specs.Restoring.{named_before, restoring_order, restore_of}
use Rattle.history.specs.History.{Step, arrives, leaves, restores, of_arrival, of_leaving, of_restoring, answer_at, table_at, answers_of, table_of, empty_book, under, receive_by, restored_book, book_at, answers_by, book_of}
use Rattle.history.specs.Telling.{Follows}
use Rattle.history.proofs.History.{history, told_empty}
use Rattle.history.proofs.Steps.{arrival}
use Rattle.history.proofs.Promises.{history_from_the_empty_table, row_shows_its_list, no_list_no_row, restored_goes_on_as_saved}

-- ---- the messages

-- message X with this id
abbrev message_under : ℕ → List ℕ
message_under n =
    0x00 ∷ 0x23 ∷ n ∷ 0x00 ∷ 0x00 ∷ 0x00
    ∷ 0x02 ∷ 0x00 ∷ 0x00 ∷ 0x00 ∷ 0x00 ∷ 0x00 ∷ 0x00 ∷ 0x0E
    ∷ 0x02 ∷ 0x00 ∷ 0x00 ∷ 0x00 ∷ 0x00 ∷ 0x00 ∷ 0x00 ∷ 0x01
    ∷ 0x15 ∷ 0x02 ∷ 0x02 ∷ 0x01 ∷ 0x00 ∷ 0x00 ∷ 0x00 ∷ 0x00 ∷ []

-- X itself, whose id is 5, the message after it, and the two bytes of the listing
abbrev x : List ℕ
x = message_under 0x05

abbrev next : List ℕ
next = message_under 0x06

abbrev short_one : List ℕ
short_one = 0x00 ∷ 0x14 ∷ []

-- the node 02 00 00 00 00 00 00 n
abbrev node : ℕ → ℕ
node n = 0x0200000000000000 + n

-- its value: from 02..0E to 02..01; I and R set; type 2 of profile 0, exchange id 0x0102
abbrev value_under : ℕ → Message
value_under n =
    record {
      version = 2;
      tunnelled = false;
      sourced = true;
      destined = true;
      encrypt = 0;
      id = n;
      source = node 14;
      destination = node 1;
      key = 0;
      initiator = true;
      acknowledges = false;
      wants = true;
      kind = 2;
      exchange = 0x0102;
      profile = 0;
      acknowledged = 0;
    }

abbrev value_of_x : Message
value_of_x = value_under 5

-- as the listing has it: own node 02..01, link node zero, check passed, acknowledgements under id 0, room of 64 bytes
abbrev there : Beside
there = beside 0x0200000000000001 0 true 0 64

abbrev example : List Step
example = arrives there x ∷ arrives there x ∷ arrives there short_one ∷ []

-- the removal of X's name
abbrev removal : Step
removal = leaves 0x020000000000000E 0

-- the example, and then the removal
abbrev with_removal : List Step
with_removal = arrives there x ∷ arrives there x ∷ arrives there short_one ∷ removal ∷ []

-- ---- they are bytes

abbrev within : List ℕ → Bool
within [] = true
within (b ∷ rest) = ltb b 256 && within rest

are_bytes : (l : List ℕ) → within l ≡ true → AllBytes l
are_bytes [] e = none
are_bytes (b ∷ rest) e = go (ltb b 256) refl e (are_bytes rest)
  where
    go : (h : Bool) → ltb b 256 ≡ h → (h && within rest) ≡ true → (within rest ≡ true → AllBytes rest) → AllBytes (b ∷ rest)
    go true k e those = more (ltb-true b 256 k) (those e)
    go false k e those = clash false e refl

-- ---- the history

-- the example, and the removal next
follows : Follows empty_table empty_book example removal
follows = history_from_the_empty_table example (are_bytes x refl, (are_bytes x refl, (are_bytes short_one refl, tt))) removal tt

-- the removal among the steps, and X once more
follows_removal : Follows empty_table empty_book with_removal (arrives there x)
follows_removal = history_from_the_empty_table with_removal (are_bytes x refl, (are_bytes x refl, (are_bytes short_one refl, (tt, tt)))) (arrives there x) (are_bytes x refl)

-- The listing's example is answered new, duplicate, and refused by 5; the first two with the value of X and 34 bytes of acknowledgement.
pub answers_to_the_example : answers_of empty_table example
    ≡ of_arrival (as_new value_of_x (head_of value_of_x) 34)
    ∷ of_arrival (as_duplicate value_of_x (head_of value_of_x) 34)
    ∷ of_arrival (Err (refusal OldTunnel))
    ∷ []
unfolding answers_by book_at receive_by under receiving_order reading_order outer_order body_order exchange_order tunnel_order after_reading delivery_order admission_order answer_of message_of exchanged_by address_of total acknowledgement_of acknowledging write_of writing_order stray member greatest position_of position_after is_new_position accepts behind_of
answers_to_the_example = follows.0 ∙ refl

-- The row of X's name then has 5 as its highest id, and no mark.
pub row_after_the_example : let t : List ℕ = table_of empty_table example in
    let row : Row = row_of t (find_of rows t 0x020000000000000E 0) in
    (row.used ≡ true) × (row.highest ≡ 5) × (row.marks % 2 ^ marks_held ≡ 0)
unfolding book_of number marks_number book_at receive_by under receiving_order reading_order outer_order body_order exchange_order tunnel_order after_reading delivery_order admission_order answer_of message_of exchanged_by address_of total acknowledgement_of acknowledging write_of writing_order stray member greatest position_of position_after is_new_position accepts behind_of
row_after_the_example = (row_shows_its_list follows.2 0x020000000000000E 0 ((5 + 2 ^ 32) ∷ []) [] refl).1

-- The name is removed, and has no row then.
pub removal_after_the_example : let t : List ℕ = table_of empty_table example in
    (answer_at t removal ≡ of_leaving (Ok tt)) × (find_of rows (table_at t removal) 0x020000000000000E 0 < rows → ⊥)
unfolding book_of book_at receive_by under receiving_order reading_order outer_order body_order exchange_order tunnel_order after_reading delivery_order admission_order answer_of message_of exchanged_by address_of total acknowledgement_of acknowledging write_of writing_order stray member greatest position_of position_after is_new_position accepts behind_of
removal_after_the_example = (follows.1 ∙ refl, no_list_no_row follows.3 0x020000000000000E 0 refl)

-- After that X is new again.
pub x_after_its_removal : answer_at (table_of empty_table with_removal) (arrives there x) ≡ of_arrival (as_new value_of_x (head_of value_of_x) 34)
unfolding book_of book_at receive_by under receiving_order reading_order outer_order body_order exchange_order tunnel_order after_reading delivery_order admission_order answer_of message_of exchanged_by address_of total acknowledgement_of acknowledging write_of writing_order stray member greatest position_of position_after is_new_position accepts behind_of
x_after_its_removal = follows_removal.1 ∙ refl

-- ---- saved and restored

-- the record of X's row: its mark, the node, key id 0, highest id 5 and no marks
abbrev saved : List ℕ
saved =
    0x52 ∷ 0x57
    ∷ 0x02 ∷ 0x00 ∷ 0x00 ∷ 0x00 ∷ 0x00 ∷ 0x00 ∷ 0x00 ∷ 0x0E
    ∷ 0x00 ∷ 0x00
    ∷ 0x05 ∷ 0x00 ∷ 0x00 ∷ 0x00
    ∷ 0x00 ∷ 0x00 ∷ []

-- X puts its row at number 0
abbrev row_of_x : Row
row_of_x = opened 0x020000000000000E 0 5

answer_to_x : receive_of there x empty_table ≡ as_new value_of_x (head_of value_of_x) 34
unfolding receive_by under receiving_order reading_order outer_order body_order exchange_order tunnel_order after_reading delivery_order admission_order answer_of message_of exchanged_by address_of total acknowledgement_of acknowledging write_of writing_order stray member greatest position_of position_after is_new_position accepts behind_of
answer_to_x = (arrival told_empty there x (are_bytes x refl)).0 ∙ refl

table_after_x : table_of empty_table (arrives there x ∷ []) ≡ with_row empty_table 0 row_of_x
unfolding table_of receive_table table_by message_of exchanged_by address_of free_of
table_after_x =
    let none = none_there_none_found empty_table 0x020000000000000E 0 (λ k l. ap (named 0x020000000000000E 0) (empty_row k)) in
    let o = opens empty_table 0x020000000000000E 0 5 (omega (arith, none)) in
    let lowest : free_of rows empty_table ≡ 0 = least_is rows (λ i. is_free (row_of empty_table i)) 0 (omega arith) (λ k l. let z : ⊥ = omega arith in absurd z) (ap is_free (empty_row 0)) in
    ap (λ (a : Result Received Refusal). table_after a empty_table (row_for empty_table 0x020000000000000E 0) (rolled_in empty_table 0x020000000000000E 0 5).row) answer_to_x
    ∙ ap₂ (λ (i : ℕ) (r : Rolled). with_row empty_table i r.row) (o.0 ∙ lowest) o.1

-- After X the table is saved as this record.
pub saved_after_x : saved_bytes (table_of empty_table (arrives there x ∷ [])) ≡ saved
unfolding records_of record_of
saved_after_x =
    let t : List ℕ = with_row empty_table 0 row_of_x in
    let here : row_of t 0 ≡ row_of_x = same_row empty_table 0 row_of_x (omega arith) (record { key = omega arith; highest = omega arith; marks = omega arith }) in
    let alone = kept_one rows in_use (row_of t) 0 (omega arith) (ap in_use here) (λ k l n. ap in_use (other_row empty_table 0 k row_of_x n ∙ empty_row k)) in
    ap saved_bytes table_after_x ∙ ap records_of (alone ∙ ap (λ (row : Row). row ∷ []) here)

-- Restored from it, the empty table, to which X is new, takes X for a duplicate.
pub x_after_its_restore : (answer_at empty_table (arrives there x) ≡ of_arrival (as_new value_of_x (head_of value_of_x) 34))
    × (answer_at (table_of empty_table (restores saved ∷ [])) (arrives there x) ≡ of_arrival (as_duplicate value_of_x (head_of value_of_x) 34))
unfolding book_of book_at restore_of restoring_order named_before first_below row_in front restored_book kept list_of marked bit_at receive_by receiving_order reading_order outer_order body_order exchange_order tunnel_order after_reading delivery_order admission_order answer_of message_of exchanged_by address_of total acknowledgement_of acknowledging write_of writing_order stray member greatest position_of position_after is_new_position accepts behind_of
x_after_its_restore =
    (ap of_arrival answer_to_x, (history_from_the_empty_table (restores saved ∷ []) (are_bytes saved refl, tt) (arrives there x) (are_bytes x refl)).1 ∙ refl)

-- The message after X, accepted after the save, is new again once the record is restored, and X is a duplicate.
pub next_after_the_restore : answers_of empty_table (arrives there x ∷ arrives there next ∷ restores saved ∷ arrives there next ∷ arrives there x ∷ [])
    ≡ of_arrival (as_new value_of_x (head_of value_of_x) 34)
    ∷ of_arrival (as_new (value_under 6) (head_of (value_under 6)) 34)
    ∷ of_restoring (Ok 1)
    ∷ of_arrival (as_new (value_under 6) (head_of (value_under 6)) 34)
    ∷ of_arrival (as_duplicate value_of_x (head_of value_of_x) 34)
    ∷ []
unfolding answers_by book_at restore_of restoring_order named_before first_below row_in front restored_book kept list_of marked bit_at receive_by under receiving_order reading_order outer_order body_order exchange_order tunnel_order after_reading delivery_order admission_order answer_of message_of exchanged_by address_of total acknowledgement_of acknowledging write_of writing_order stray member greatest position_of position_after is_new_position accepts behind_of
next_after_the_restore =
    (history told_empty (arrives there x ∷ arrives there next ∷ restores saved ∷ arrives there next ∷ arrives there x ∷ [])
    (are_bytes x refl, (are_bytes next refl, (are_bytes saved refl, (are_bytes next refl, (are_bytes x refl, tt)))))).0
    ∙ refl

-- a record of node 02..n with highest id 6 and these of the marks 1 to 8
abbrev record_with : ℕ → ℕ → List ℕ
record_with n marks =
    0x52 ∷ 0x57
    ∷ 0x02 ∷ 0x00 ∷ 0x00 ∷ 0x00 ∷ 0x00 ∷ 0x00 ∷ 0x00 ∷ n
    ∷ 0x00 ∷ 0x00
    ∷ 0x06 ∷ 0x00 ∷ 0x00 ∷ 0x00
    ∷ marks ∷ 0x00 ∷ []

-- X, one below the highest id of the record, is a duplicate where its mark is set in it, and new where it is not.
pub mark_after_the_restore : answers_of empty_table (restores (record_with 0x0E 1) ∷ arrives there x ∷ restores (record_with 0x0E 0) ∷ arrives there x ∷ [])
    ≡ of_restoring (Ok 1)
    ∷ of_arrival (as_duplicate value_of_x (head_of value_of_x) 34)
    ∷ of_restoring (Ok 1)
    ∷ of_arrival (as_new value_of_x (head_of value_of_x) 34)
    ∷ []
unfolding answers_by book_at restore_of restoring_order named_before first_below row_in front restored_book kept list_of marked bit_at receive_by under receiving_order reading_order outer_order body_order exchange_order tunnel_order after_reading delivery_order admission_order answer_of message_of exchanged_by address_of total acknowledgement_of acknowledging write_of writing_order stray member greatest position_of position_after is_new_position accepts behind_of
mark_after_the_restore =
    (history told_empty (restores (record_with 0x0E 1) ∷ arrives there x ∷ restores (record_with 0x0E 0) ∷ arrives there x ∷ [])
    (are_bytes (record_with 0x0E 1) refl, (are_bytes x refl, (are_bytes (record_with 0x0E 0) refl, (are_bytes x refl, tt))))).0
    ∙ refl

-- A restore without a record of X's name ends its list, and X is new again.
pub x_without_its_record : answers_of empty_table (arrives there x ∷ restores (record_with 0x0F 0) ∷ arrives there x ∷ [])
    ≡ of_arrival (as_new value_of_x (head_of value_of_x) 34)
    ∷ of_restoring (Ok 1)
    ∷ of_arrival (as_new value_of_x (head_of value_of_x) 34)
    ∷ []
unfolding answers_by book_at restore_of restoring_order named_before first_below row_in front restored_book kept list_of marked bit_at receive_by under receiving_order reading_order outer_order body_order exchange_order tunnel_order after_reading delivery_order admission_order answer_of message_of exchanged_by address_of total acknowledgement_of acknowledging write_of writing_order stray member greatest position_of position_after is_new_position accepts behind_of
x_without_its_record =
    (history told_empty (arrives there x ∷ restores (record_with 0x0F 0) ∷ arrives there x ∷ []) (are_bytes x refl, (are_bytes (record_with 0x0F 0) refl, (are_bytes x refl, tt)))).0
    ∙ refl

-- The table after the listing's example, saved and restored into the empty one, goes on: X is a duplicate, and the message after it is new.
pub goes_on_after_the_example : answers_of (table_at empty_table (restores (saved_bytes (table_of empty_table example)))) (arrives there x ∷ arrives there next ∷ [])
    ≡ of_arrival (as_duplicate value_of_x (head_of value_of_x) 34) ∷ of_arrival (as_new (value_under 6) (head_of (value_under 6)) 34) ∷ []
unfolding answers_by book_of book_at receive_by under receiving_order reading_order outer_order body_order exchange_order tunnel_order after_reading delivery_order admission_order answer_of message_of exchanged_by address_of total acknowledgement_of acknowledging write_of writing_order stray member greatest position_of position_after is_new_position accepts behind_of
goes_on_after_the_example =
    restored_goes_on_as_saved example (are_bytes x refl, (are_bytes x refl, (are_bytes short_one refl, tt))) (omega arith, (omega arith, (omega arith, tt))) empty_table
    (arrives there x ∷ arrives there next ∷ []) (are_bytes x refl, (are_bytes next refl, tt))
    ∙ (history follows.2 (arrives there x ∷ arrives there next ∷ []) (are_bytes x refl, (are_bytes next refl, tt))).0
    ∙ refl
