-- The stream: a length of two bytes, low byte first, before each message ("Stream"). Assumes nothing.
use Rattle.std.specs.Prelude.{ℕ, ◌+◌, ◌-◌, cond, List, [], ◌∷◌, ◌++◌, ltb, length, take, drop, Result}
use Rattle.wire.specs.Bytes.{part, little, little_bytes}
use Rattle.message.specs.Order.{Condition, ◌when◌, first}
use Rattle.message.specs.Refusals.{too_long}
use Rattle.message.specs.Answers.{writing}
use Rattle.message.specs.declared.answers.Refusal.{Refusal}
use Rattle.message.specs.declared.answers.Unframed.{Unframed}
use Rattle.message.specs.declared.answers.Unframed.TheVariants.{Whole, Incomplete}
use Rattle.message.specs.declared.answers.Reason.TheVariants.{TooLong, NoRoom}

-- what the length field demands
abbrev pub demanded : List ℕ → ℕ
demanded stream = little (part stream 0 2)

-- the bytes still wanted: for the length field alone while it is not whole, then for the message; 0 once it is there
abbrev pub wanted : List ℕ → ℕ
wanted stream = cond (ltb (length stream) 2) (2 - length stream) (2 + demanded stream - length stream)

-- the length of the message, or the bytes wanted
abbrev pub unframed : ℕ → ℕ → Unframed
unframed wants len = cond (ltb 0 wants) (Incomplete wants) (Whole len)

unfoldable pub unframe_of : List ℕ → Unframed
unframe_of stream = unframed (wanted stream) (demanded stream)

-- the message, and the rest; both empty where the message is incomplete
abbrev pub message_in : List ℕ → Unframed → List ℕ
message_in stream (Whole len) = take len (drop 2 stream)
message_in stream (Incomplete wants) = []

abbrev pub rest_in : List ℕ → Unframed → List ℕ
rest_in stream (Whole len) = drop (2 + len) stream
rest_in stream (Incomplete wants) = []

unfoldable pub framed_message : List ℕ → List ℕ
framed_message stream = message_in stream (unframe_of stream)

unfoldable pub framed_rest : List ℕ → List ℕ
framed_rest stream = rest_in stream (unframe_of stream)

-- a message with its length before it
unfoldable pub frame_bytes : List ℕ → List ℕ
frame_bytes message = little_bytes 2 (length message) ++ message

-- the order of framing; the contents are not judged
unfoldable pub framing_order : List ℕ → ℕ → List Condition
framing_order message room = TooLong when too_long (length message) ∷ NoRoom when ltb room (2 + length message) ∷ []

unfoldable pub frame_of : List ℕ → ℕ → Result ℕ Refusal
frame_of message room = writing (first (framing_order message room)) (2 + length message)
