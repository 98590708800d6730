-- The two parts of bytes that were taken, and their header. Assumes nothing.
use Rattle.std.specs.Prelude.{Result, Ok}
use Prim.Native.Nat.{◌-◌, ◌<◌}
use mathlib.Core.Path.{◌≡◌, sym, ap, subst, ◌∙◌}
use mathlib.Core.Bool.{Bool}
use mathlib.Core.List.{List}
use Prim.Native.Nat.{ℕ}
use native.Mathlib.Omega.{arith}
use borrow.Author.Tests.{le-leb}
use lib.ListN.{length, drop, length-drop}
use lib.Seq.{length-take-le}
use Rattle.message.specs.Layout.{head_length, check_length, up_to_check}
use Rattle.reader.specs.Reading.{read_of}
use Rattle.parts.specs.Parts.{part_of, payload_of, check_of}
use Rattle.message.specs.declared.value.Message.{Message}
use Rattle.message.specs.declared.answers.Head.{Head}
use Rattle.message.specs.declared.answers.Taken.{Taken}
use Rattle.message.specs.declared.answers.Refusal.{Refusal}
use Rattle.message.specs.Answers.{with_head, as_taken}
use Rattle.wire.specs.Bytes.{little, front}
use Rattle.wire.proofs.Fronts.{front_part}
use Rattle.message.specs.Value.{header, header_of, address_of, exchanged_by, message_of}
use Rattle.reader.proofs.Clear.{taken, fits, head_taken}
use Rattle.format.proofs.HeaderBack.{header_back}

-- whatever head reading gives with a value is the value's own
pub as_taken_lem : (bytes : List ℕ) (m : Message) (h : Head) → read_of bytes ≡ Ok (with_head m h) → read_of bytes ≡ as_taken m
as_taken_lem bytes m h e = e ∙ ap (λ (k : Head). Ok (with_head m k)) (head_taken bytes m h e)

module _ (bytes : List ℕ) (m : Message) (e : read_of bytes ≡ as_taken m) where
  pub payload_is : payload_of bytes (read_of bytes) ≡ up_to_check m (head_length m) bytes
  unfolding payload_of
  payload_is =
      ap (λ (r : Result Taken Refusal). payload_of bytes r) e
      ∙ ap (λ (b : Bool). part_of b (up_to_check m (head_length m) bytes)) (le-leb _ _ (fits bytes m e))

  pub check_is : check_of bytes (read_of bytes) ≡ drop (length bytes - check_length m) bytes
  unfolding check_of
  check_is =
      ap (λ (r : Result Taken Refusal). check_of bytes r) e
      ∙ ap (λ (b : Bool). part_of b (drop (length bytes - check_length m) bytes)) (le-leb _ _ (fits bytes m e))

  pub payload_length : length (payload_of bytes (read_of bytes)) ≡ length bytes - check_length m - head_length m
  payload_length =
      ap length payload_is ∙ length-take-le _ _ (rw (length-drop (head_length m) bytes) (let h = fits bytes m e in omega arith))

  pub check_length_lem : length (check_of bytes (read_of bytes)) ≡ check_length m
  check_length_lem = ap length check_is ∙ length-drop (length bytes - check_length m) bytes ∙ (let h = fits bytes m e in omega arith)

  -- the header h at the front of the bytes is that of the value
  pub header_is : (h : ℕ) → h ≡ little (front 2 bytes) → h < 65536 → h ≡ header_of m
  unfolding message_of exchanged_by address_of
  header_is h g l =
      let c = taken bytes m e in
      let s : h ≡ header bytes = g ∙ ap little (front_part 2 bytes c.1.outer.two) in
      s ∙ sym (header_back (header bytes) (subst (λ (n : ℕ). n < 65536) s l) c.1.outer.reserved) ∙ ap header_of c.0
