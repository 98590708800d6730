-- Reading: the first refusal in its order with the byte at fault, else the value ("Order, reading"). Assumes nothing.
use Rattle.std.specs.Prelude.{ℕ, ◌+◌, cond, List, [], ◌∷◌, ◌++◌, length, get_or, Result}
use Rattle.message.specs.Order.{Condition, ◌when◌, ◌at_byte◌, first_refusal, NoneOf}
use Rattle.message.specs.Layout.{body_of, up_to_check}
use Rattle.message.specs.Value.{exchange_header, message_of}
use Rattle.message.specs.Refusals.{bad_exchange, old_asks, bad_tunnel, bad_packet, bad_packet_length, no_room}
use Rattle.message.specs.Answers.{reading}
use Rattle.message.specs.declared.value.Message.{Message}
use Rattle.message.specs.declared.answers.Taken.{Taken}
use Rattle.message.specs.declared.answers.Refusal.{Refusal}
use Rattle.message.specs.declared.answers.Reason.TheVariants.{TooShort, Exchange, OldAsks, Tunnel, Packet, PacketLength}
use Rattle.outer.specs.Outer.{outer_order}

-- after the order of outer reading, of a general message: of its exchange header, its length and its value
unfoldable pub exchange_order : ℕ → ℕ → Message → List Condition
exchange_order x n m =
    Exchange when bad_exchange x at_byte body_of m
    ∷ OldAsks when old_asks m.version m.acknowledges m.wants at_byte body_of m
    ∷ TooShort when no_room n m at_byte n
    ∷ []

-- and of a tunnelled one
unfoldable pub tunnel_order : List ℕ → Message → List Condition
tunnel_order bytes m =
    Tunnel when bad_tunnel (get_or bytes (body_of m) 0) at_byte body_of m
    ∷ Packet when bad_packet (get_or bytes (body_of m + 1) 0) at_byte (body_of m + 1)
    ∷ PacketLength when bad_packet_length (up_to_check m (body_of m + 1) bytes) at_byte (body_of m + 1)
    ∷ []

unfoldable pub body_order : List ℕ → Message → List Condition
body_order bytes m = cond m.tunnelled (tunnel_order bytes m) (exchange_order (exchange_header bytes) (length bytes) m)

-- the order of reading
unfoldable pub reading_order : List ℕ → List Condition
reading_order bytes = outer_order bytes (message_of bytes) ++ body_order bytes (message_of bytes)

-- a legal message: none of the conditions holds
abbrev pub Legal : List ℕ → Type 0
Legal bytes = NoneOf (reading_order bytes)

unfoldable pub read_of : List ℕ → Result Taken Refusal
read_of bytes = reading (first_refusal (reading_order bytes)) (message_of bytes)
