-- The standalone acknowledgement of a message ("Acknowledgement"). Assumes nothing.
use Rattle.std.specs.Prelude.{ℕ, zero, suc, true, false, not, List, [], ◌∷◌, Result}
use Rattle.message.specs.Layout.{only, encrypted, check_length}
use Rattle.message.specs.Value.{bytes_of}
use Rattle.message.specs.declared.value.Message.{Message}
use Rattle.message.specs.declared.answers.Refusal.{Refusal}
use Rattle.judge.specs.Writing.{write_of}

-- its value, of the message m that it answers: version 2, general, from the own node to the sender, under the id given; encrypt type, key
-- id (0 if plain) and exchange id as received; I reversed, A and not R; type 2 of profile 0; the acknowledged id is the received one
unfoldable pub acknowledgement_of : ℕ → ℕ → ℕ → Message → Message
acknowledgement_of own sender id m =
    record {
      version = 2;
      tunnelled = false;
      sourced = true;
      destined = true;
      encrypt = m.encrypt;
      id = id;
      source = own;
      destination = sender;
      key = only (encrypted m) m.key;
      initiator = not m.initiator;
      acknowledges = true;
      wants = false;
      kind = 2;
      exchange = m.exchange;
      profile = 0;
      acknowledged = m.id;
    }

-- n zero bytes
abbrev pub zeros : ℕ → List ℕ
zeros zero = []
zeros (suc n) = 0 ∷ zeros n

-- its check bytes, for the module to fill: zero, and none if it is plain
abbrev pub blank_check : Message → List ℕ
blank_check value = zeros (check_length value)

-- its bytes: no payload
unfoldable pub acknowledgement_bytes : Message → List ℕ
acknowledgement_bytes value = bytes_of value [] (blank_check value)

-- what writing it into so much room answers
unfoldable pub acknowledging : Message → ℕ → Result ℕ Refusal
acknowledging value room = write_of value [] (blank_check value) room
