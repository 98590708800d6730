-- The payload or the packet, and the check, as parts of the bytes; empty where the bytes are refused or too few ("Bytes of a message").
-- Assumes nothing.
use Rattle.std.specs.Prelude.{ℕ, ◌+◌, ◌-◌, Bool, cond, List, [], leb, length, drop, Result, Ok, Err}
use Rattle.message.specs.Layout.{check_length, up_to_check}
use Rattle.message.specs.declared.answers.Taken.{Taken}

abbrev pub part_of : Bool → List ℕ → List ℕ
part_of there bytes = cond there bytes []

unfoldable pub payload_of : {E : Type 0} → List ℕ → Result Taken E → List ℕ
payload_of bytes (Ok taken) =
    part_of (leb (taken.head.length + check_length taken.message) (length bytes)) (up_to_check taken.message taken.head.length bytes)
payload_of bytes (Err r) = []

unfoldable pub check_of : {E : Type 0} → List ℕ → Result Taken E → List ℕ
check_of bytes (Ok taken) =
    part_of (leb (taken.head.length + check_length taken.message) (length bytes)) (drop (length bytes - check_length taken.message) bytes)
check_of bytes (Err r) = []
