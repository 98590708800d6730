-- Outer reading: the first refusal in its order with the byte at fault, else where the protected part is ("Order, reading"; "Outer reading").
-- Assumes nothing.
use Rattle.std.specs.Prelude.{ℕ, ◌-◌, cond, List, [], ◌∷◌, ltb, length, Result}
use Rattle.message.specs.Order.{Condition, ◌when◌, ◌at_byte◌, first_refusal}
use Rattle.message.specs.Layout.{longest, source_at, destination_at, key_at, encrypted, body_of, fixed_length}
use Rattle.message.specs.Value.{header, message_of}
use Rattle.message.specs.Refusals.{too_long, bad_version, reserved, old_tunnel, bad_encrypt, bad_key, bad_source, bad_destination}
use Rattle.message.specs.Answers.{outer_reading}
use Rattle.message.specs.declared.value.Message.{Message}
use Rattle.message.specs.declared.answers.Refusal.{Refusal}
use Rattle.message.specs.declared.answers.Reason.TheVariants.{TooLong, TooShort, Version, Reserved, OldTunnel, Encrypt, Key, Source, Destination}

-- the order of outer reading, of bytes and their value
unfoldable pub outer_order : List ℕ → Message → List Condition
outer_order bytes m =
    TooLong when too_long (length bytes) at_byte longest
    ∷ TooShort when ltb (length bytes) 2 at_byte length bytes
    ∷ Version when bad_version m.version at_byte 0
    ∷ Reserved when reserved (header bytes) at_byte 0
    ∷ OldTunnel when old_tunnel m.version m.tunnelled at_byte 0
    ∷ Encrypt when bad_encrypt m.encrypt at_byte 0
    ∷ TooShort when ltb (length bytes) (fixed_length m) at_byte length bytes
    ∷ Key when bad_key m.encrypt m.key at_byte key_at m.sourced m.destined
    ∷ Source when bad_source m.sourced m.source at_byte source_at
    ∷ Destination when bad_destination m.destined m.destination at_byte destination_at m.sourced
    ∷ []

-- the protected part is all after the key id; of a plain message it is empty, at the end
abbrev pub start_of : List ℕ → Message → ℕ
start_of bytes m = cond (encrypted m) (body_of m) (length bytes)

unfoldable pub outer_of : List ℕ → Result (ℕ × ℕ) Refusal
outer_of bytes =
    outer_reading (first_refusal (outer_order bytes (message_of bytes))) (start_of bytes (message_of bytes)) (length bytes - start_of bytes (message_of bytes))
