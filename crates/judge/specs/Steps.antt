-- The steps in which the code judges what is to be written. `proofs/Steps.antt` ties them to the order of writing. Assumes nothing.
use Rattle.std.specs.Prelude.{ℕ, List, [], ◌∷◌, ◌++◌}
use Rattle.message.specs.Order.{Condition, ◌when◌}
use Rattle.message.specs.Refusals.{too_long, bad_version, old_tunnel, bad_encrypt, old_asks, empty_packet, wrong_packet, wrong_packet_length, stray, total, address_order}
use Rattle.message.specs.declared.value.Message.{Message}
use Rattle.message.specs.declared.answers.Reason.TheVariants.{TooLong, TooShort, Version, OldTunnel, Encrypt, OldAsks, Packet, Stray, PacketLength}

-- what the value alone decides, and what the payload and the check bytes decide; the room is left
unfoldable pub value_order : Message → List Condition
value_order m =
    Version when bad_version m.version
    ∷ OldTunnel when old_tunnel m.version m.tunnelled
    ∷ Encrypt when bad_encrypt m.encrypt
    ∷ (address_order m ++ (OldAsks when old_asks m.version m.acknowledges m.wants ∷ []))

unfoldable pub parts_order : Message → List ℕ → List ℕ → List Condition
parts_order m payload check =
    TooShort when empty_packet m payload
    ∷ Packet when wrong_packet m payload
    ∷ PacketLength when wrong_packet_length m payload
    ∷ Stray when stray m check
    ∷ TooLong when too_long (total m payload)
    ∷ []
