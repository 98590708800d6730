-- Letting a message in whose nodes and check are good: where its name has its row, 22, 19 and 20, and what it leaves in the table and in the
-- buffer ("Order", "Rows and verdicts", "Acknowledgement"). Assumes nothing.
use Rattle.std.specs.Prelude.{ℕ, Bool, ◌&&◌, cond, List, [], ◌∷◌, ◌++◌, ltb, leb, drop, Option, Result, Ok, Err}
use Rattle.message.specs.Reasons.{refusal}
use Rattle.message.specs.Order.{Condition, ◌when◌, first_refusal}
use Rattle.message.specs.Layout.{only}
use Rattle.message.specs.Refusals.{total}
use Rattle.message.specs.Answers.{unless, with_head}
use Rattle.window.specs.Rows.{opened, rolled_of}
use Rattle.window.specs.declared.Row.{Row}
use Rattle.window.specs.declared.Rolled.{Rolled}
use Rattle.window.specs.declared.Verdict.{Verdict}
use Rattle.message.specs.declared.value.Message.{Message}
use Rattle.message.specs.declared.answers.Refusal.{Refusal}
use Rattle.message.specs.declared.answers.Head.{Head}
use Rattle.message.specs.declared.answers.Taken.{Taken}
use Rattle.message.specs.declared.answers.Reason.TheVariants.{NoRoom, Full, Unwritable}
use Rattle.table.specs.Table.{rows, row_of, with_row, find_of, free_of}
use Rattle.reply.specs.Acknowledgement.{acknowledgement_bytes, acknowledging}
use Rattle.reply.specs.Planning.{unwritable, lacks_room}
use Rattle.admission.specs.declared.answers.Received.{Received}

-- ---- the row of a name

-- where a message of this name has its row: the one found, else the lowest free one
unfoldable pub row_for : List ℕ → ℕ → ℕ → ℕ
row_for t node key = cond (ltb (find_of rows t node key) rows) (find_of rows t node key) (free_of rows t)

-- the verdict, and the row after it: the row found is rolled, else one is opened
unfoldable pub rolled_in : List ℕ → ℕ → ℕ → ℕ → Rolled
rolled_in t node key id =
    cond (ltb (find_of rows t node key) rows) (rolled_of (row_of t (find_of rows t node key)) id)
    (record { verdict = Verdict.New; row = opened node key id })

-- 20: the name has no row, and all rows are in use
abbrev pub no_row : List ℕ → ℕ → ℕ → Bool
no_row t node key = leb rows (row_for t node key)

-- the verdict of the table
abbrev pub verdict_in : List ℕ → ℕ → Message → Verdict
verdict_in t sender m = (rolled_in t sender m.key m.id).verdict

-- ---- the order

-- if R is set 22 and 19, then 20: of the acknowledgement's value and its room, the message, and whether there is no row to be had
unfoldable pub admission_order : Message → ℕ → Message → Bool → List Condition
admission_order value room m full =
    Unwritable when (m.wants && unwritable (acknowledging value room))
    ∷ NoRoom when (m.wants && lacks_room (acknowledging value room))
    ∷ Full when full
    ∷ []

-- ---- the answer, the table and the buffer

-- the verdict with the value, its head and the acknowledgement's length
abbrev pub received : Verdict → Message → Head → ℕ → Received
received verdict m h len = record { verdict = verdict; taken = with_head m h; reply = len }

abbrev pub as_new : Message → Head → ℕ → Result Received Refusal
as_new m h len = Ok (received Verdict.New m h len)

abbrev pub as_duplicate : Message → Head → ℕ → Result Received Refusal
as_duplicate m h len = Ok (received Verdict.Duplicate m h len)

-- the answer to a message, by the first refusal, if there is one, and the verdict; the acknowledgement's length is 0 where R is not set
unfoldable pub answer_of : Option Refusal → Verdict → Message → Message → Head → Result Received Refusal
answer_of r verdict value m h = unless r (received verdict m h (only m.wants (total value [])))

-- the answer to a message of this sender
abbrev pub admit_of : Message → ℕ → ℕ → Taken → List ℕ → Result Received Refusal
admit_of value room sender taken t =
    let m = taken.message in
    answer_of (first_refusal (admission_order value room m (no_row t sender m.key))) (verdict_in t sender m) value m taken.head

-- the answer where all rows are in use, by what the message would be answered with: 22 and 19 stand before 20
abbrev pub full_of : Result ℕ Refusal → Result Received Refusal
full_of (Ok n) = Err (refusal Full)
full_of (Err r) = Err r

-- only a new message changes the table, and it puts one row
abbrev pub put_if_new : Verdict → List ℕ → ℕ → Row → List ℕ
put_if_new Verdict.New t place row = with_row t place row
put_if_new Verdict.Duplicate t place row = t

abbrev pub table_after : Result Received Refusal → List ℕ → ℕ → Row → List ℕ
table_after (Ok answer) t place row = put_if_new answer.verdict t place row
table_after (Err r) t place row = t

-- the row is that of the name, after the message
unfoldable pub table_by : Result Received Refusal → ℕ → Message → List ℕ → List ℕ
table_by answer sender m t = table_after answer t (row_for t sender m.key) (rolled_in t sender m.key m.id).row

-- new or duplicate, the acknowledgement's bytes stand at the front of the buffer; there are none where R is not set
abbrev pub buffer_with : Result Received Refusal → List ℕ → List ℕ → List ℕ
buffer_with (Ok answer) bytes old = bytes ++ drop answer.reply old
buffer_with (Err r) bytes old = old

-- the bytes are those of the acknowledgement, if one is wanted
unfoldable pub buffer_by : Result Received Refusal → Message → Message → List ℕ → List ℕ
buffer_by answer value m old = buffer_with answer (cond m.wants (acknowledgement_bytes value) []) old
