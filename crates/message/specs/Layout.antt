-- Where the fields of a message stand, and how long it is ("Bytes of a message"). Assumes nothing.
use Rattle.std.specs.Prelude.{ℕ, ◌+◌, ◌-◌, Bool, true, false, cond, List, eqb, length, take, drop}
use Rattle.message.specs.declared.value.Message.{Message}

-- n where the field is present, else 0: an absent field takes no bytes
abbrev pub only : Bool → ℕ → ℕ
only true n = n
only false n = 0

-- the longest message, and the length of the check
abbrev pub longest : ℕ
longest = 1232

abbrev pub check_bytes : ℕ
check_bytes = 20

-- the header at 0 and the message id at 2; then the source at 6, and each next field after those that are present
abbrev pub source_at : ℕ
source_at = 2 + 4

abbrev pub destination_at : Bool → ℕ
destination_at s = source_at + only s 8

abbrev pub key_at : Bool → Bool → ℕ
key_at s d = destination_at s + only d 8

-- the exchange header, or the tunnel version
abbrev pub body_at : Bool → Bool → Bool → ℕ
body_at s d e = key_at s d + only e 2

-- encrypt type 1
abbrev pub encrypted : Message → Bool
encrypted m = eqb m.encrypt 1

abbrev pub body_of : Message → ℕ
body_of m = body_at m.sourced m.destined (encrypted m)

abbrev pub check_length : Message → ℕ
check_length m = only (encrypted m) check_bytes

-- all that stands before the payload or the packet
abbrev pub head_length : Message → ℕ
head_length m = body_of m + cond m.tunnelled 1 (1 + 1 + 2 + 4 + only m.acknowledges 4)

-- the fixed part: of a tunnelled message the version and one byte of the packet; the check bytes belong to it
abbrev pub fixed_length : Message → ℕ
fixed_length m = body_of m + cond m.tunnelled (1 + 1) (1 + 1 + 2 + 4) + check_length m

-- the bytes of a message from a place on, up to its check: there the payload stands, or the packet
abbrev pub up_to_check : Message → ℕ → List ℕ → List ℕ
up_to_check m at bytes = take (length bytes - check_length m - at) (drop at bytes)
