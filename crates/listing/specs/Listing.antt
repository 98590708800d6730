-- What is printed of an answer, and how far a message reaches. Assumes nothing.
use Rattle.std.specs.Prelude.{ℕ, zero, suc, ◌+◌, true, cond, List, ltb, length, drop, Result, Ok, Err}
use Rattle.lines.specs.declared.Said.{Said}
use Rattle.admission.specs.declared.answers.Received.{Received}
use Rattle.message.specs.Reasons.{number}
use Rattle.message.specs.declared.answers.Refusal.{Refusal}
use Rattle.message.specs.declared.answers.Unframed.{Unframed}
use Rattle.message.specs.declared.answers.Unframed.TheVariants.{Whole, Incomplete}
use Rattle.reception.specs.Receiving.{beside, receive_of, receive_table}
use Rattle.stream.specs.Stream.{unframe_of, framed_message}
use Rattle.window.specs.declared.Verdict.{Verdict}

-- the verdict with the message id
abbrev pub verdict_of : Verdict → ℕ → Said
verdict_of Verdict.New id = Said.New id
verdict_of Verdict.Duplicate id = Said.Duplicate id

-- that, or the refusal's number and offset
abbrev pub said_of : Result Received Refusal → Said
said_of (Ok received) = verdict_of received.verdict received.taken.message.id
said_of (Err refusal) = Said.Refused (number refusal.reason) refusal.offset

-- what the line says of a message, and the table after it: own node 02 00 00 00 00 00 00 01, link node zero, the check passed, id 0, room of 64 bytes
abbrev pub heard_of : List ℕ → List ℕ → Said
heard_of message table = said_of (receive_of (beside 144115188075855873 0 true 0 64) message table)

abbrev pub heard_table : List ℕ → List ℕ → List ℕ
heard_table message table = receive_table (beside 144115188075855873 0 true 0 64) message table

-- the bytes of a whole message with its length before it; 0 where it is incomplete
abbrev pub passed_in : Unframed → ℕ
passed_in (Whole len) = 2 + len
passed_in (Incomplete wants) = 0

unfoldable pub passed_of : List ℕ → ℕ
passed_of stream = passed_in (unframe_of stream)

-- the table past the front of a stream: a message that is not whole changes nothing
abbrev pub table_in : Unframed → List ℕ → List ℕ → List ℕ
table_in (Whole len) stream table = heard_table (framed_message stream) table
table_in (Incomplete wants) stream table = table

unfoldable pub table_past : List ℕ → List ℕ → List ℕ
table_past stream table = table_in (unframe_of stream) stream table

-- the bytes left over once so many messages at most are passed
unfoldable pub left_within : ℕ → List ℕ → ℕ
left_within zero stream = length stream
left_within (suc most) stream = cond (ltb 0 (passed_of stream)) (left_within most (drop (passed_of stream) stream)) (length stream)

-- the bytes left over after the last whole message: there are no more messages than bytes
unfoldable pub left_of : List ℕ → ℕ
left_of stream = left_within (length stream) stream
