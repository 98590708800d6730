-- The steps in which the code reads. `proofs/Steps.antt` ties them to the order of reading and to the value. Assumes nothing.
use Rattle.std.specs.Prelude.{ℕ, ◌+◌, ◌%◌, true, List, [], ◌∷◌, length, Result, Ok, Err}
use Rattle.wire.specs.Bytes.{part, little}
use Rattle.message.specs.Order.{◌when◌, ◌at_byte◌, first_refusal}
use Rattle.message.specs.Layout.{only, body_of}
use Rattle.message.specs.Value.{bit, exchanged_by}
use Rattle.message.specs.Refusals.{no_room}
use Rattle.message.specs.Answers.{with_head, reading}
use Rattle.reader.specs.Reading.{exchange_order, tunnel_order}
use Rattle.message.specs.declared.value.Message.{Message}
use Rattle.message.specs.declared.answers.Taken.{Taken}
use Rattle.message.specs.declared.answers.Refusal.{Refusal}
use Rattle.message.specs.declared.answers.Reason.TheVariants.{TooShort}
use Rattle.reader.specs.declared.reading.Exchange.{Exchange}

-- a value with the exchange fields that stand at a place
abbrev pub exchanged : Message → List ℕ → ℕ → Message
exchanged m bytes at = exchanged_by true m bytes at (little (part bytes at 1))

-- the answers for the two kinds of message that outer reading took, from its value
unfoldable pub tunnel_of : List ℕ → Message → Result Taken Refusal
tunnel_of bytes m = reading (first_refusal (tunnel_order bytes m)) m

-- of a general one whose exchange header is good, what is left to decide is A's room
unfoldable pub fields_of : List ℕ → Message → Result Taken Refusal
fields_of bytes m = reading (first_refusal (TooShort when no_room (length bytes) (exchanged m bytes (body_of m)) at_byte length bytes ∷ [])) (exchanged m bytes (body_of m))

unfoldable pub exchange_of : List ℕ → Message → Result Taken Refusal
exchange_of bytes m =
    reading (first_refusal (exchange_order (little (part bytes (body_of m) 1)) (length bytes) (exchanged m bytes (body_of m)))) (exchanged m bytes (body_of m))

-- the exchange fields that stand at a place, of a head that ends at n
abbrev pub exchange_at : List ℕ → ℕ → ℕ → Exchange
exchange_at bytes at n =
    record {
      header = little (part bytes at 1);
      kind = little (part bytes (at + 1) 1);
      exchange = little (part bytes (at + 2) 2);
      profile = little (part bytes (at + 4) 4);
      acknowledged = little (part bytes (at + 8) (only (bit (little (part bytes at 1)) 1) 4));
      length = n;
    }

-- those of a tunnelled message
abbrev pub no_exchange : ℕ → Exchange
no_exchange n = record { header = 0; kind = 0; exchange = 0; profile = 0; acknowledged = 0; length = n }

-- a value up to the key id, with exchange fields
unfoldable pub with_fields : Message → Exchange → Message
with_fields m e =
    record {
      version = m.version;
      tunnelled = m.tunnelled;
      sourced = m.sourced;
      destined = m.destined;
      encrypt = m.encrypt;
      id = m.id;
      source = m.source;
      destination = m.destination;
      key = m.key;
      initiator = bit e.header 0;
      acknowledges = bit e.header 1;
      wants = bit e.header 2;
      kind = e.kind;
      exchange = e.exchange;
      profile = e.profile;
      acknowledged = e.acknowledged;
    }

-- the answer: that value with its head, or the refusal
abbrev pub finished : Message → Result Exchange Refusal → Result Taken Refusal
finished m (Ok e) = Ok (with_head (with_fields m e) (record { flags = e.header % 8; length = e.length }))
finished m (Err r) = Err r
