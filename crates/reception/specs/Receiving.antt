-- Receiving ("Order", "Refusal numbers"). Assumes nothing.
use Rattle.std.specs.Prelude.{ℕ, ◌-◌, ◌^◌, Bool, not, ◌&&◌, ◌||◌, cond, List, [], ◌∷◌, ◌++◌, eqb, Result}
use Rattle.message.specs.Order.{Condition, ◌when◌, first_refusal}
use Rattle.message.specs.Layout.{encrypted}
use Rattle.message.specs.Value.{message_of}
use Rattle.message.specs.Refusals.{nobody}
use Rattle.message.specs.Answers.{head_of}
use Rattle.reader.specs.Reading.{reading_order}
use Rattle.message.specs.declared.value.Message.{Message}
use Rattle.message.specs.declared.answers.Taken.{Taken}
use Rattle.message.specs.declared.answers.Refusal.{Refusal}
use Rattle.message.specs.declared.answers.Reason.TheVariants.{OwnNode, NotOurs, Sender, Check}
use Rattle.reply.specs.Acknowledgement.{acknowledgement_of}
use Rattle.admission.specs.Admission.{no_row, verdict_in, admission_order, answer_of, table_by, buffer_by}
use Rattle.admission.specs.declared.answers.Received.{Received}

-- what comes with a message: the own node, the link's node, the check result, the acknowledgement's id, and the room in the output buffer
pub record Beside : Type 0 where
  pub own : ℕ
  pub link : ℕ
  pub passed : Bool
  pub id : ℕ
  pub room : ℕ

-- the same, put together from its parts
abbrev pub beside : ℕ → ℕ → Bool → ℕ → ℕ → Beside
beside own link passed id room = record { own = own; link = link; passed = passed; id = id; room = room }

-- the sender: the message's own source, else the link's node
abbrev pub sender_of : ℕ → Message → ℕ
sender_of link m = cond m.sourced m.source link

-- 16: a destination that is neither the own node nor Any
abbrev pub not_ours : ℕ → Message → Bool
not_ours own m = m.destined && not (eqb m.destination own || eqb m.destination (2 ^ 64 - 1))

-- 17: no source, and the link's node is nobody's
abbrev pub bad_link : ℕ → Message → Bool
bad_link link m = not m.sourced && nobody link

-- 18: encrypted, and the check did not pass
abbrev pub unchecked : Bool → Message → Bool
unchecked passed m = encrypted m && not passed

-- ---- the order: 15, all of reading, and then

-- 16 to 18: what the nodes and the check result decide
unfoldable pub delivery_order : ℕ → ℕ → Bool → Message → List Condition
delivery_order own link passed m = NotOurs when not_ours own m ∷ Sender when bad_link link m ∷ Check when unchecked passed m ∷ []

-- the value of the acknowledgement
abbrev pub answer_to : Beside → Message → Message
answer_to b m = acknowledgement_of b.own (sender_of b.link m) b.id m

-- all that follows reading: those, and then whether the message is let in
unfoldable pub after_reading : Beside → Message → Bool → List Condition
after_reading b m full = delivery_order b.own b.link b.passed m ++ admission_order (answer_to b m) b.room m full

-- the whole order, of a message and whether there is no row to be had
unfoldable pub receiving_order : Beside → List ℕ → Bool → List Condition
receiving_order b bytes full = OwnNode when nobody b.own ∷ reading_order bytes ++ after_reading b (message_of bytes) full

-- ---- the answer, the table and the buffer

-- the answer to a message that was read
abbrev pub deliver_of : Beside → Taken → List ℕ → Result Received Refusal
deliver_of b taken t =
    let m = taken.message in
    let sender = sender_of b.link m in
    answer_of (first_refusal (after_reading b m (no_row t sender m.key))) (verdict_in t sender m) (answer_to b m) m taken.head

-- the answer to bytes, by the table
unfoldable pub receive_of : Beside → List ℕ → List ℕ → Result Received Refusal
receive_of b bytes t =
    let m = message_of bytes in
    let sender = sender_of b.link m in
    answer_of (first_refusal (receiving_order b bytes (no_row t sender m.key))) (verdict_in t sender m) (answer_to b m) m (head_of m)

-- the table after receiving
unfoldable pub receive_table : Beside → List ℕ → List ℕ → List ℕ
receive_table b bytes t = table_by (receive_of b bytes t) (sender_of b.link (message_of bytes)) (message_of bytes) t

-- the output buffer after receiving
unfoldable pub receive_buffer : Beside → List ℕ → List ℕ → List ℕ → List ℕ
receive_buffer b bytes t old = buffer_by (receive_of b bytes t) (answer_to b (message_of bytes)) (message_of bytes) old
