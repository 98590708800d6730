-- What the boundary of `format` promises: what was read can be written. Assumes nothing.

-- Only one outcome fits each function of the format over numbers and lent arrays.
pub use Rattle.gateway_format.proofs.Outcomes.{one_read_outer, one_read, one_write, one_unframe, one_frame}
use Rattle.std.specs.Prelude.{Option, Result, Ok}
use Prim.Native.Nat.{ℕ, ◌≤◌}
use mathlib.Core.Path.{◌≡◌, sym, ap, ap₂, ◌∙◌}
use mathlib.Core.Bool.{true}
use mathlib.Core.List.{List, ◌++◌}
use lib.ListN.{length, drop}
use Rattle.wire.proofs.Digits.{AllBytes}
use Rattle.message.specs.Value.{bytes_of}
use Rattle.message.specs.Answers.{head_of, as_taken, buffer_after}
use Rattle.message.specs.declared.value.Message.{Message}
use Rattle.message.specs.declared.answers.Refusal.{Refusal}
use Rattle.message.specs.declared.answers.Taken.{Taken}
use Rattle.reader.specs.Reading.{read_of}
use Rattle.parts.specs.Parts.{payload_of, check_of}
use Rattle.judge.specs.Writing.{write_of}
use Rattle.format.proofs.Promises.{read_then_written}
use Rattle.places.specs.Fields.{fields_of}
use Rattle.values.specs.Values.{fits, value_from}
use Rattle.values.proofs.Fitted.{loaded}
use Rattle.values.proofs.Promises.{Typed, value_back, value_fits, read_is_typed}
use Rattle.gateway_format.specs.Messages.{read_after, write_loaded, write_from}

module _ (bytes : List ℕ) (all : AllBytes bytes) (m : Message) (e : read_of bytes ≡ as_taken m) where
  typed : Typed m
  typed = read_is_typed bytes all m e

  -- The places that reading fills say its value, and none of them is refused.
  pub read_places_say_the_value : (before : List ℕ)
      → let fields : List ℕ = read_after (read_of bytes) (length bytes) before in (value_from fields ≡ m) × (fits fields ≡ true)
  read_places_say_the_value before =
      let is : read_after (read_of bytes) (length bytes) before ≡ fields_of m (head_of m) (length bytes) 0 0 = ap (λ (r : Result Taken Refusal). read_after r (length bytes) before) e in
      (ap value_from is ∙ value_back m typed (length bytes) 0 0, ap fits is ∙ value_fits m typed (length bytes) 0 0)

  -- Written with the payload and the check that were read, they give the same bytes, where there is room, and the buffer's other bytes stay.
  pub read_places_are_written_back : (before old : List ℕ) → length bytes ≤ length old
      → let fields : List ℕ = read_after (read_of bytes) (length bytes) before in
      let payload : List ℕ = payload_of bytes (read_of bytes) in
      let check : List ℕ = check_of bytes (read_of bytes) in
      let answer : Result ℕ Refusal = write_from fields payload check (length old) in
      (answer ≡ Ok (length bytes)) × (buffer_after answer (bytes_of (value_from fields) payload check) old ≡ bytes ++ drop (length bytes) old)
  unfolding write_from
  read_places_are_written_back before old room =
      let said = read_places_say_the_value before in
      let fields : List ℕ = read_after (read_of bytes) (length bytes) before in
      let payload : List ℕ = payload_of bytes (read_of bytes) in
      let check : List ℕ = check_of bytes (read_of bytes) in
      let w = read_then_written bytes old all m e room in
      let same : write_from fields payload check (length old) ≡ write_of m payload check (length old) = ap (λ (l : Option Message). write_loaded l payload check (length old)) (sym (loaded fields m said.1 (sym said.0))) in
      (same ∙ w.0, ap₂ (λ (a : Result ℕ Refusal) (x : Message). buffer_after a (bytes_of x payload check) old) same said.0 ∙ w.1)
