-- The value that bytes stand for, and the bytes that a value stands for ("Bytes of a message"). Assumes nothing.
use Rattle.std.specs.Prelude.{ℕ, ◌+◌, ◌*◌, ◌/◌, ◌%◌, ◌^◌, Bool, false, not, cond, List, ◌++◌, eqb}
use Rattle.wire.specs.Bytes.{part, little, big, little_bytes, big_bytes}
use Rattle.message.specs.Layout.{only, source_at, destination_at, key_at, body_at, encrypted}
use Rattle.message.specs.declared.value.Message.{Message}

-- the n bits of x from bit k up, as a number; bit k of x, as a truth value
abbrev pub bits : ℕ → ℕ → ℕ → ℕ
bits x k n = x / 2 ^ k % 2 ^ n

abbrev pub bit : ℕ → ℕ → Bool
bit x k = eqb (x / 2 ^ k % 2) 1

-- the header
abbrev pub header : List ℕ → ℕ
header bytes = little (part bytes 0 2)

-- where the exchange header or the tunnel version stands, by the header
abbrev pub body_by : ℕ → ℕ
body_by h = body_at (bit h 9) (bit h 8) (eqb (bits h 4 4) 1)

-- the exchange header; 0 in a tunnelled message
abbrev pub exchange_header : List ℕ → ℕ
exchange_header bytes = little (part bytes (body_by (header bytes)) (only (not (bit (header bytes) 10)) 1))

-- the value up to the key id, from the header h: all exchange fields are zero
unfoldable pub address_of : List ℕ → ℕ → Message
address_of bytes h =
    record {
      version = bits h 12 4;
      tunnelled = bit h 10;
      sourced = bit h 9;
      destined = bit h 8;
      encrypt = bits h 4 4;
      id = little (part bytes 2 4);
      source = big (part bytes source_at (only (bit h 9) 8));
      destination = big (part bytes (destination_at (bit h 9)) (only (bit h 8) 8));
      key = little (part bytes (key_at (bit h 9) (bit h 8)) (only (eqb (bits h 4 4) 1) 2));
      initiator = false;
      acknowledges = false;
      wants = false;
      kind = 0;
      exchange = 0;
      profile = 0;
      acknowledged = 0;
    }

-- a value with the exchange fields besides, where it is general: of the exchange header x, which is 0 where it is not, and of what follows its
-- place `at`
unfoldable pub exchanged_by : Bool → Message → List ℕ → ℕ → ℕ → Message
exchanged_by general m bytes at x =
    record {
      version = m.version;
      tunnelled = m.tunnelled;
      sourced = m.sourced;
      destined = m.destined;
      encrypt = m.encrypt;
      id = m.id;
      source = m.source;
      destination = m.destination;
      key = m.key;
      initiator = bit x 0;
      acknowledges = bit x 1;
      wants = bit x 2;
      kind = little (part bytes (at + 1) (only general 1));
      exchange = little (part bytes (at + 2) (only general 2));
      profile = little (part bytes (at + 4) (only general 4));
      acknowledged = little (part bytes (at + 8) (only (bit x 1) 4));
    }

unfoldable pub message_of : List ℕ → Message
message_of bytes =
    exchanged_by (not (bit (header bytes) 10)) (address_of bytes (header bytes)) bytes (body_by (header bytes)) (exchange_header bytes)

-- the header of a value: version, T, S, D, encrypt type; bits 11 and 3 to 0 are zero
abbrev pub header_of : Message → ℕ
header_of m = m.version * 2 ^ 12 + only m.tunnelled (2 ^ 10) + only m.sourced (2 ^ 9) + only m.destined (2 ^ 8) + m.encrypt * 2 ^ 4

-- the bits I, A and R of a value
abbrev pub flags_of : Message → ℕ
flags_of m = only m.initiator (2 ^ 0) + only m.acknowledges (2 ^ 1) + only m.wants (2 ^ 2)

-- the exchange header of a value: F is one; I, A, R
abbrev pub exchange_header_of : Message → ℕ
exchange_header_of m = 2 ^ 4 + only m.initiator (2 ^ 0) + only m.acknowledges (2 ^ 1) + only m.wants (2 ^ 2)

-- header, message id, source, destination, key id
unfoldable pub address_bytes : Message → List ℕ
address_bytes m =
    little_bytes 2 (header_of m)
    ++ little_bytes 4 m.id
    ++ big_bytes (only m.sourced 8) m.source
    ++ big_bytes (only m.destined 8) m.destination
    ++ little_bytes (only (encrypted m) 2) m.key

-- exchange header, type, exchange id, profile id, acknowledged id
unfoldable pub exchange_bytes : Message → List ℕ
exchange_bytes m =
    little_bytes 1 (exchange_header_of m)
    ++ little_bytes 1 m.kind
    ++ little_bytes 2 m.exchange
    ++ little_bytes 4 m.profile
    ++ little_bytes (only m.acknowledges 4) m.acknowledged

-- of a tunnelled message the tunnel version, which is 1
unfoldable pub head_bytes : Message → List ℕ
head_bytes m = address_bytes m ++ cond m.tunnelled (little_bytes 1 1) (exchange_bytes m)

-- the whole message: the fields, the payload or the packet, the check
unfoldable pub bytes_of : Message → List ℕ → List ℕ → List ℕ
bytes_of m payload check = head_bytes m ++ payload ++ check
