-- The buffer after the acknowledgement that a message may want ("Acknowledgement"). Assumes nothing.
use Rattle.std.specs.Prelude.{ℕ, Bool, cond, List, length}
use Rattle.message.specs.Answers.{buffer_after}
use Rattle.message.specs.declared.value.Message.{Message}
use Rattle.reply.specs.Acknowledgement.{acknowledgement_bytes, acknowledging}

-- as it was where none is wanted, or none can be written
unfoldable pub answered_by : Bool → Message → List ℕ → List ℕ
answered_by wanted value old = cond wanted (buffer_after (acknowledging value (length old)) (acknowledgement_bytes value) old) old
