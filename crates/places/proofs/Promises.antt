-- What the places promise: the parts of a message are where they say. Assumes nothing.

-- Only one outcome fits each public contract.
pub use Rattle.places.proofs.Outcomes.{one_store, one_refused, one_settle, one_verdict_number}
use Rattle.std.specs.Prelude.{Ok}
use Prim.Native.Nat.{ℕ, ◌+◌, ◌-◌, ◌≤◌}
use mathlib.Core.Path.{◌≡◌, sym, ap, subst⁻¹, ◌∙◌}
use mathlib.Core.Bool.{Bool}
use mathlib.Core.List.{List}
use native.Mathlib.Omega.{arith}
use lib.ListN.{length, get_or, take, drop, length-drop}
use lib.Seq.{take_all}
use borrow.Author.Tests.{le-leb}
use Rattle.message.specs.Layout.{check_length}
use Rattle.message.specs.Value.{header_of}
use Rattle.message.specs.Answers.{with_head}
use Rattle.message.specs.declared.value.Message.{Message}
use Rattle.message.specs.declared.answers.Head.{Head}
use Rattle.reader.specs.Reading.{read_of}
use Rattle.parts.specs.Parts.{part_of, payload_of, check_of}
use Rattle.reader.proofs.Clear.{fits, head_taken}
use Rattle.places.specs.Fields.{fields_with, fields_of}

-- the places with the header of the value are those of the value
pub with_header : (m : Message) (h : Head) (header len verdict reply : ℕ) → header ≡ header_of m → fields_with header m h len verdict reply ≡ fields_of m h len verdict reply
with_header m h header len verdict reply e = ap (λ (n : ℕ). fields_with n m h len verdict reply) e

module _ (bytes : List ℕ) (m : Message) (h : Head) (taken : read_of bytes ≡ Ok (with_head m h)) (verdict reply : ℕ) where
  abbrev fields : List ℕ
  fields = fields_of m h (length bytes) verdict reply

  within : h.length + check_length m ≤ length bytes
  within = subst⁻¹ (λ (g : Head). g.length + check_length m ≤ length bytes) (head_taken bytes m h taken) (fits bytes m taken)

  -- the payload or the packet is where places 10 and 11 say
  pub payload_there : take (get_or fields 11 0) (drop (get_or fields 10 0) bytes) ≡ payload_of bytes (read_of bytes)
  unfolding fields_with payload_of
  payload_there =
      sym (ap (payload_of bytes) taken
      ∙ ap (λ (b : Bool). part_of b (take (length bytes - check_length m - h.length) (drop h.length bytes))) (le-leb (h.length + check_length m) (length bytes) within))

  -- the check is where places 12 and 13 say
  pub check_there : take (get_or fields 13 0) (drop (get_or fields 12 0) bytes) ≡ check_of bytes (read_of bytes)
  unfolding fields_with check_of
  check_there =
      let w = within in
      let n : h.length + (length bytes - check_length m - h.length) ≡ length bytes - check_length m = omega arith in
      ap (λ (k : ℕ). take (check_length m) (drop k bytes)) n
      ∙ take_all (check_length m) (drop (length bytes - check_length m) bytes) (omega (arith, length-drop (length bytes - check_length m) bytes))
      ∙ sym (ap (check_of bytes) taken
      ∙ ap (λ (b : Bool). part_of b (drop (length bytes - check_length m) bytes)) (le-leb (h.length + check_length m) (length bytes) within))
