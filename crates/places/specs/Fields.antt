-- The fields of a message in sixteen places. Assumes nothing.
use Rattle.std.specs.Prelude.{ℕ, ◌+◌, ◌-◌, List, [], ◌∷◌}
use Rattle.message.specs.Layout.{check_length}
use Rattle.message.specs.Value.{header_of}
use Rattle.message.specs.declared.value.Message.{Message}
use Rattle.message.specs.declared.answers.Head.{Head}

-- the length of the payload, of a message of so many bytes
abbrev pub left_of : ℕ → Message → Head → ℕ
left_of len m h = len - check_length m - h.length

-- the places in their order, of a header, a value and its head, the length of its bytes, a verdict and the length of a reply: the payload
-- stands behind the head, and the check behind the payload
unfoldable pub fields_with : ℕ → Message → Head → ℕ → ℕ → ℕ → List ℕ
fields_with header m h len verdict reply =
    header
    ∷ h.flags
    ∷ m.id
    ∷ m.source
    ∷ m.destination
    ∷ m.key
    ∷ m.kind
    ∷ m.exchange
    ∷ m.profile
    ∷ m.acknowledged
    ∷ h.length
    ∷ left_of len m h
    ∷ (h.length + left_of len m h)
    ∷ check_length m
    ∷ verdict
    ∷ reply
    ∷ []

-- with the header of the value: version, T, S, D and encrypt type as the wire has them
abbrev pub fields_of : Message → Head → ℕ → ℕ → ℕ → List ℕ
fields_of m h len verdict reply = fields_with (header_of m) m h len verdict reply
