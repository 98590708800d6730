-- The steps in which the code reads. `proofs/Steps.antt` ties them to the order of outer reading. Assumes nothing.
use Rattle.std.specs.Prelude.{ℕ, ◌+◌, Bool, cond, List, [], ◌∷◌, eqb, Result}
use Rattle.message.specs.Order.{Condition, ◌when◌, ◌at_byte◌, first_refusal}
use Rattle.message.specs.Answers.{unless}
use Rattle.message.specs.Layout.{only, check_bytes, source_at, destination_at, key_at}
use Rattle.message.specs.Value.{bits, bit, header, body_by, address_of, message_of}
use Rattle.message.specs.Refusals.{bad_version, reserved, old_tunnel, bad_encrypt}
use Rattle.message.specs.declared.value.Message.{Message}
use Rattle.message.specs.declared.answers.Reason.{Reason}
use Rattle.message.specs.declared.answers.Refusal.{Refusal}
use Rattle.message.specs.declared.answers.Reason.TheVariants.{Version, Reserved, OldTunnel, Encrypt}
use Rattle.outer.specs.Outer.{outer_order}

-- what the header alone decides
unfoldable pub header_order : ℕ → List Condition
header_order h =
    Version when bad_version (bits h 12 4) at_byte 0
    ∷ Reserved when reserved h at_byte 0
    ∷ OldTunnel when old_tunnel (bits h 12 4) (bit h 10) at_byte 0
    ∷ Encrypt when bad_encrypt (bits h 4 4) at_byte 0
    ∷ []

-- the length of the fixed part, by the header
abbrev pub fixed_at : ℕ → ℕ
fixed_at h = body_by h + cond (bit h 10) (1 + 1) (1 + 1 + 2 + 4) + only (eqb (bits h 4 4) 1) check_bytes

-- where the field stands that a refusal by the address fields is about, by whether source and destination are present
abbrev pub field_at : Reason → Bool → Bool → ℕ
field_at Reason.Source s d = source_at
field_at Reason.Key s d = key_at s d
field_at reason s d = destination_at s

-- what reading goes on from: the value up to the key id, or the refusal
unfoldable pub begun_of : List ℕ → Result Message Refusal
begun_of bytes = unless (first_refusal (outer_order bytes (message_of bytes))) (address_of bytes (header bytes))
