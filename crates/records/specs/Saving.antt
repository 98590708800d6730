-- Saving a table (request K1; refusal 19). Assumes nothing.
use Rattle.std.specs.Prelude.{ℕ, List, [], ◌∷◌, ◌++◌, ltb, length, Result}
use Rattle.message.specs.Order.{Condition, ◌when◌, first}
use Rattle.message.specs.Answers.{writing, buffer_after}
use Rattle.message.specs.declared.answers.Refusal.{Refusal}
use Rattle.message.specs.declared.answers.Reason.TheVariants.{NoRoom}
use Rattle.window.specs.declared.Row.{Row}
use Rattle.table.specs.Table.{rows_in_use}
use Rattle.records.specs.Records.{record_of}

-- the records of rows, one after the other
unfoldable pub records_of : List Row → List ℕ
records_of [] = []
records_of (row ∷ rs) = record_of row ++ records_of rs

-- the bytes of a table: the record of each row in use, in row order
abbrev pub saved_bytes : List ℕ → List ℕ
saved_bytes t = records_of (rows_in_use t)

-- 19: the room is too short for all of them
unfoldable pub saving_order : List ℕ → ℕ → List Condition
saving_order t room = NoRoom when ltb room (length (saved_bytes t)) ∷ []

-- how many bytes are written, or the refusal
unfoldable pub save_of : List ℕ → ℕ → Result ℕ Refusal
save_of t room = writing (first (saving_order t room)) (length (saved_bytes t))

-- the buffer: its first bytes are those of the table, and the others are as they were; all are where it refuses
unfoldable pub save_buffer : List ℕ → List ℕ → List ℕ
save_buffer t old = buffer_after (save_of t (length old)) (saved_bytes t) old
