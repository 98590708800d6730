-- What the boundary of `reception` promises of the places: a message with a verdict was read, so they say its parts. Assumes nothing.

-- Only one outcome fits each exported function.
pub use Rattle.gateway.proofs.Outcomes.{one_receive, one_remove}
use Prim.Native.Nat.{ℕ}
use mathlib.Core.Path.{◌≡◌}
use mathlib.Core.List.{List}
use lib.ListN.{length, get_or, take, drop}
use Rattle.message.specs.declared.value.Message.{Message}
use Rattle.message.specs.declared.answers.Head.{Head}
use Rattle.admission.specs.Admission.{as_new, as_duplicate}
use Rattle.reader.specs.Reading.{read_of}
use Rattle.parts.specs.Parts.{payload_of, check_of}
use Rattle.reception.specs.Receiving.{Beside, receive_of}
use Rattle.reception.proofs.WasRead.{new_was_read, duplicate_was_read}
use Rattle.places.specs.Fields.{fields_of}
use Rattle.places.proofs.Promises.{payload_there, check_there}

-- the payload or the packet is where places 10 and 11 say, and the check where places 12 and 13 say
abbrev pub PartsThere : List ℕ → List ℕ → Type 0
PartsThere bytes fields =
    (take (get_or fields 11 0) (drop (get_or fields 10 0) bytes) ≡ payload_of bytes (read_of bytes))
    × (take (get_or fields 13 0) (drop (get_or fields 12 0) bytes) ≡ check_of bytes (read_of bytes))

module _ (b : Beside) (bytes t : List ℕ) (m : Message) (h : Head) (reply : ℕ) where
  pub new_parts : receive_of b bytes t ≡ as_new m h reply → PartsThere bytes (fields_of m h (length bytes) 1 reply)
  new_parts e =
      let r = new_was_read b bytes t m h reply e in
      (payload_there bytes m h r 1 reply, check_there bytes m h r 1 reply)

  pub duplicate_parts : receive_of b bytes t ≡ as_duplicate m h reply → PartsThere bytes (fields_of m h (length bytes) 2 reply)
  duplicate_parts e =
      let r = duplicate_was_read b bytes t m h reply e in
      (payload_there bytes m h r 2 reply, check_there bytes m h r 2 reply)
