-- The conditions of the refusals, one by one ("Refusal numbers"). Most serve reading and writing alike. Assumes nothing.
use Rattle.std.specs.Prelude.{ℕ, ◌+◌, ◌-◌, ◌^◌, Bool, not, ◌&&◌, ◌||◌, cond, List, [], ◌∷◌, eqb, ltb, length, get_or}
use Rattle.wire.specs.Bytes.{part, big}
use Rattle.message.specs.Order.{Condition, ◌when◌}
use Rattle.message.specs.Layout.{longest, encrypted, check_length, head_length, fixed_length}
use Rattle.message.specs.Value.{bits, bit}
use Rattle.message.specs.declared.value.Message.{Message}
use Rattle.message.specs.declared.answers.Reason.TheVariants.{Key, Source, Destination}

-- 1, of a length
abbrev pub too_long : ℕ → Bool
too_long n = ltb longest n

-- 3, of a version
abbrev pub bad_version : ℕ → Bool
bad_version version = not (eqb version 1 || eqb version 2)

-- 4, of a header: bit 11, or one of bits 3 to 0
abbrev pub reserved : ℕ → Bool
reserved h = bit h 11 || not (eqb (bits h 0 4) 0)

-- 5: T in version 1
abbrev pub old_tunnel : ℕ → Bool → Bool
old_tunnel version tunnelled = tunnelled && eqb version 1

-- 6, of an encrypt type
abbrev pub bad_encrypt : ℕ → Bool
bad_encrypt encrypt = not (eqb encrypt 0 || eqb encrypt 1)

-- a key id of a type other than 1 and 2
abbrev pub bad_key_type : ℕ → Bool
bad_key_type key = not (eqb (bits key 12 4) 1 || eqb (bits key 12 4) 2)

-- 7: the key type of an encrypted message
abbrev pub bad_key : ℕ → ℕ → Bool
bad_key encrypt key = eqb encrypt 1 && bad_key_type key

-- a node that is nobody's: all zero or all ones
abbrev pub nobody : ℕ → Bool
nobody node = eqb node 0 || eqb node (2 ^ 64 - 1)

-- 8: a source that is present
abbrev pub bad_source : Bool → ℕ → Bool
bad_source sourced source = sourced && nobody source

-- 9: a destination that is present; all ones is Any
abbrev pub bad_destination : Bool → ℕ → Bool
bad_destination destined destination = destined && eqb destination 0

-- 10, of an exchange header: F, bit 4, is one; bits 3, 5, 6 and 7 are zero
abbrev pub bad_exchange : ℕ → Bool
bad_exchange x = not (bit x 4) || bit x 3 || not (eqb (bits x 5 3) 0)

-- 11: A or R in version 1
abbrev pub old_asks : ℕ → Bool → Bool → Bool
old_asks version acknowledges wants = eqb version 1 && (acknowledges || wants)

-- 12, of a tunnel version
abbrev pub bad_tunnel : ℕ → Bool
bad_tunnel version = not (eqb version 1)

-- 13, of a packet's first byte
abbrev pub bad_packet : ℕ → Bool
bad_packet b = not (eqb (bits b 4 4) 4 || eqb (bits b 4 4) 6)

-- a packet that is shorter than its header, or not as long as this says: the number in two bytes at a place, high byte first, plus what it does not count
abbrev pub other_length : ℕ → ℕ → ℕ → List ℕ → Bool
other_length header at uncounted packet = ltb (length packet) header || not (eqb (big (part packet at 2) + uncounted) (length packet))

-- 27, of a packet that 13 lets pass: IPv4 counts all of it, in bytes 2 and 3; IPv6 what follows its header of 40, in bytes 4 and 5
unfoldable pub bad_packet_length : List ℕ → Bool
bad_packet_length packet = cond (eqb (bits (get_or packet 0 0) 4 4) 4) (other_length 20 2 0 packet) (other_length 40 4 40 packet)

-- 2, reading: A without room for its four bytes before the check
abbrev pub no_room : ℕ → Message → Bool
no_room n m = m.acknowledges && ltb n (fixed_length m + 4)

-- 2, 13 and 27, writing: the packet of a tunnelled message
abbrev pub empty_packet : Message → List ℕ → Bool
empty_packet m payload = m.tunnelled && eqb (length payload) 0

abbrev pub wrong_packet : Message → List ℕ → Bool
wrong_packet m payload = m.tunnelled && bad_packet (get_or payload 0 0)

abbrev pub wrong_packet_length : Message → List ℕ → Bool
wrong_packet_length m payload = m.tunnelled && bad_packet_length payload

-- 14: a field that is absent and not zero
abbrev pub stray_address : Message → Bool
stray_address m =
    (not m.sourced && not (eqb m.source 0))
    || (not m.destined && not (eqb m.destination 0))
    || (not (encrypted m) && not (eqb m.key 0))

abbrev pub stray_exchange : Message → Bool
stray_exchange m =
    (not m.acknowledges && not (eqb m.acknowledged 0))
    || (m.tunnelled
    && (m.initiator || m.acknowledges || m.wants || not (eqb m.kind 0) || not (eqb m.exchange 0) || not (eqb m.profile 0)))

-- 14: such a field, or check bytes that are not 20 (encrypted) or 0 (plain)
unfoldable pub stray : Message → List ℕ → Bool
stray m check = stray_address m || stray_exchange m || not (eqb (length check) (check_length m))

-- the length of the message that is to be written
unfoldable pub total : Message → List ℕ → ℕ
total m payload = head_length m + length payload + check_length m

-- 7, 8, 9: what the address fields decide, in the order that reading and writing share; their own orders spell it out
unfoldable pub address_order : Message → List Condition
address_order m =
    Key when bad_key m.encrypt m.key
    ∷ Source when bad_source m.sourced m.source
    ∷ Destination when bad_destination m.destined m.destination
    ∷ []
