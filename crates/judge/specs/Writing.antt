-- Writing: the first refusal in its order, else the bytes of the value at the front of the buffer ("Writing"). Assumes nothing.
use Rattle.std.specs.Prelude.{ℕ, List, [], ◌∷◌, ltb, Result}
use Rattle.message.specs.Order.{Condition, ◌when◌, first, NoneOf}
use Rattle.message.specs.Refusals.{too_long, bad_version, old_tunnel, bad_encrypt, bad_key, bad_source, bad_destination, old_asks, empty_packet, wrong_packet, wrong_packet_length, stray, total}
use Rattle.message.specs.Answers.{writing}
use Rattle.message.specs.declared.value.Message.{Message}
use Rattle.message.specs.declared.answers.Refusal.{Refusal}
use Rattle.message.specs.declared.answers.Reason.TheVariants.{TooLong, TooShort, Version, OldTunnel, Encrypt, Key, Source, Destination, OldAsks, Packet, Stray, NoRoom, PacketLength}

-- the order of writing, of a value, its payload and check bytes, and the room that there is
unfoldable pub writing_order : Message → List ℕ → List ℕ → ℕ → List Condition
writing_order m payload check room =
    Version when bad_version m.version
    ∷ OldTunnel when old_tunnel m.version m.tunnelled
    ∷ Encrypt when bad_encrypt m.encrypt
    ∷ Key when bad_key m.encrypt m.key
    ∷ Source when bad_source m.sourced m.source
    ∷ Destination when bad_destination m.destined m.destination
    ∷ OldAsks when old_asks m.version m.acknowledges m.wants
    ∷ TooShort when empty_packet m payload
    ∷ Packet when wrong_packet m payload
    ∷ PacketLength when wrong_packet_length m payload
    ∷ Stray when stray m check
    ∷ TooLong when too_long (total m payload)
    ∷ NoRoom when ltb room (total m payload)
    ∷ []

-- what can be written: none of the conditions holds
abbrev pub Writable : Message → List ℕ → List ℕ → ℕ → Type 0
Writable m payload check room = NoneOf (writing_order m payload check room)

unfoldable pub write_of : Message → List ℕ → List ℕ → ℕ → Result ℕ Refusal
write_of m payload check room = writing (first (writing_order m payload check room)) (total m payload)
