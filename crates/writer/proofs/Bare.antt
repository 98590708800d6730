-- The head and the blank check of an acknowledgement, stored one after the other, are its bytes. Assumes nothing.
use Rattle.std.specs.Prelude.{Result, Ok}
use Prim.Native.Nat.{ℕ, zero, suc}
use mathlib.Core.Path.{◌≡◌, refl, sym, ap, ◌∙◌}
use mathlib.Core.Bool.{Bool}
use mathlib.Core.List.{List, [], ◌++◌}
use native.Mathlib.Omega.{arith}
use lib.ListN.{length, drop}
use lib.Seq.{sets}
use Rattle.wire.proofs.Runs.{sets_front}
use Rattle.wire.specs.Bytes.{placed}
use Rattle.message.specs.Order.{first}
use Rattle.message.specs.Layout.{only, check_length, head_length}
use Rattle.message.specs.Refusals.{total}
use Rattle.message.specs.Value.{head_bytes, bytes_of}
use Rattle.message.specs.Answers.{writing, buffer_after}
use Rattle.message.specs.declared.value.Message.{Message}
use Rattle.message.specs.declared.answers.Refusal.{Refusal}
use Rattle.reply.specs.Steps.{acknowledging_order}
use Rattle.reply.specs.Acknowledgement.{acknowledgement_of, zeros, acknowledgement_bytes, acknowledging}
use Rattle.message.proofs.Lengths.{length_bytes, total_is}
use Rattle.reply.proofs.Steps.{judged_is}
use Rattle.writer.proofs.Fields.{field}
use Rattle.writer.proofs.Stored.{Storable, storable, run_lands}

pub length_zeros : (n : ℕ) → length (zeros n) ≡ n
length_zeros zero = refl
length_zeros (suc n) = ap suc (length_zeros n)

-- a part as long as the blank check becomes it
pub blank_field : (present : Bool) (old : List ℕ) {last : List ℕ} → length old ≡ only present 20 → last ≡ placed (zeros 20) old → last ≡ zeros (only present 20)
blank_field present old {last} = field (λ w x. zeros w) (λ w x. length_zeros w) present 20 0 old last

-- what storing it asks for
pub bare_storable : (own sender id : ℕ) (m : Message) (room : ℕ) {value : Message} {answer : Result ℕ Refusal} {n : ℕ} → value ≡ acknowledgement_of own sender id m
    → answer ≡ writing (first (acknowledging_order value room)) (total value []) → answer ≡ Ok n → Storable value [] (zeros (check_length value)) room n
unfolding acknowledging
bare_storable own sender id m room is by e = storable (judged_is own sender id m room is by ∙ ap (λ (v : Message). acknowledging v room) (sym is)) e

-- its head and its blank check from the front of a buffer
pub lands : {value same : Message} {n : ℕ} {buffer : List ℕ} (old : List ℕ) → value ≡ same → Storable value [] (zeros (check_length value)) (length old) n
    → buffer ≡ sets old 0 (head_bytes value ++ [] ++ zeros (check_length value)) → buffer ≡ buffer_after (Ok n) (acknowledgement_bytes same) old
unfolding acknowledgement_bytes bytes_of
lands {value} {n = n} old is s b =
    let check = zeros (check_length value) in
    let z = length_zeros (check_length value) in
    let l = length_bytes value [] check z in
    let k = total_is value [] in
    let p = s.parts in
    let f = s.fits in
    let e : length (head_bytes value ++ [] ++ check) ≡ n = omega arith in
    b
    ∙ sets_front old (head_bytes value ++ [] ++ check) (omega arith)
    ∙ ap (λ (i : ℕ). head_bytes value ++ [] ++ check ++ drop i old) e
    ∙ ap (λ (v : Message). buffer_after (Ok n) (acknowledgement_bytes v) old) is

-- the same where each is put into its part of the buffer, before what was not touched
pub parts_land : {value same : Message} {a c r rest : List ℕ} {n h k : ℕ} (old : List ℕ) → value ≡ same → Storable value [] (zeros (check_length value)) (length old) n
    → h ≡ head_length value → k ≡ check_length value → r ≡ drop h old → rest ≡ drop k r → a ≡ head_bytes value → c ≡ zeros (check_length value)
    → a ++ (c ++ rest) ≡ buffer_after (Ok n) (acknowledgement_bytes same) old
unfolding acknowledgement_bytes
parts_land {value} {n = n} old is s e f p t first second =
    run_lands old s e (f ∙ sym (length_zeros (check_length value))) p refl t first refl second
    ∙ ap (λ (v : Message). buffer_after (Ok n) (acknowledgement_bytes v) old) is
