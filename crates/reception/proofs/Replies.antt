-- What receiving writes: the acknowledgement at the front of the buffer, and nothing else. Assumes nothing.
use Rattle.std.specs.Prelude.{Result, Ok, Err}
use Prim.Native.Nat.{ℕ, ◌+◌, ◌^◌, ◌≤◌, ◌<◌}
use mathlib.Core.Path.{◌≡◌, refl, sym, ap, subst, subst⁻¹, ◌∙◌}
use mathlib.Core.Logic.{◌⊎◌, ⊎_elim}
use mathlib.Core.Bool.{Bool, true, false, cond}
use mathlib.Core.List.{List, [], ◌++◌}
use native.Mathlib.Omega.{arith}
use lib.Dec.{eqb}
use lib.ListN.{length, take, drop, length-append, length-drop}
use lib.Seq.{take_at}
use Rattle.wire.proofs.Digits.{AllBytes}
use Rattle.message.specs.Layout.{only, encrypted}
use Rattle.message.specs.Value.{message_of}
use Rattle.message.specs.Refusals.{total}
use Rattle.message.specs.Answers.{with_head}
use Rattle.message.specs.declared.value.Message.{Message}
use Rattle.message.specs.declared.answers.Head.{Head}
use Rattle.message.proofs.Lengths.{length_bytes}
use Rattle.reader.specs.Reading.{read_of}
use Rattle.format.proofs.Sized.{Sized, sized_of}
use Rattle.format.proofs.WriteRead.{SameRead, write_read}
use Rattle.reply.specs.Acknowledgement.{acknowledgement_of, blank_check, acknowledgement_bytes, acknowledging}
use Rattle.writer.proofs.Bare.{length_zeros}
use Rattle.admission.specs.Admission.{received, as_new, as_duplicate, buffer_with, buffer_by}
use Rattle.window.specs.declared.Verdict.{Verdict}
use Rattle.message.specs.declared.answers.Refusal.{Refusal}
use Rattle.admission.specs.declared.answers.Received.{Received}
use Rattle.reception.specs.Receiving.{Beside, sender_of, answer_to, receive_of, receive_buffer}
use Rattle.reception.proofs.Cleared.{acknowledgement_fits, is_acknowledged}
use Rattle.reception.proofs.WasRead.{Said, new_said, duplicate_said, new_was_read, duplicate_was_read}

-- ---- the acknowledgement

-- It has 34 bytes, or 56 if it is encrypted.
pub acknowledgement_length : (own sender id : ℕ) (m : Message) → total (acknowledgement_of own sender id m) [] ≡ cond (encrypted m) 56 34
unfolding total acknowledgement_of
acknowledgement_length own sender id m = go (eqb m.encrypt 1)
  where
    go : (e : Bool) → (6 + 8 + 8 + only e 2) + (1 + 1 + 2 + 4 + 4) + 0 + only e 20 ≡ cond e 56 34
    go true = refl
    go false = refl

-- Read again, it gives back exactly its fields, no payload, and the blank check bytes.
pub acknowledgement_reads_back : (value : Message) (room n : ℕ) → Sized value → acknowledging value room ≡ Ok n → SameRead value [] (blank_check value) (acknowledgement_bytes value)
unfolding acknowledging acknowledgement_bytes
acknowledgement_reads_back value room n sized e = write_read value [] (blank_check value) room n sized e

-- It is within the types of its fields where the nodes and the id that it is made of are.
pub acknowledgement_is_sized : (own sender id : ℕ) (m : Message) → Sized m → own < 256 ^ 8 → sender < 256 ^ 8 → id < 256 ^ 4 → Sized (acknowledgement_of own sender id m)
unfolding acknowledgement_of
acknowledgement_is_sized own sender id m sized ours theirs given =
    record {
      id = given;
      source = ours;
      destination = theirs;
      key = go (encrypted m);
      kind = omega arith;
      exchange = sized.exchange;
      profile = omega arith;
      acknowledged = sized.id;
    }
  where
    go : (e : Bool) → only e m.key < 256 ^ 2
    go true = sized.key
    go false = omega arith

-- ---- what a call leaves in the buffer

length_acknowledgement : (b : Beside) (bytes : List ℕ) → length (acknowledgement_bytes (answer_to b (message_of bytes))) ≡ total (answer_to b (message_of bytes)) []
unfolding acknowledgement_bytes
length_acknowledgement b bytes = length_bytes (answer_to b (message_of bytes)) [] (blank_check (answer_to b (message_of bytes))) (length_zeros _)

module _ (b : Beside) (bytes t : List ℕ) where
  -- What a call writes is the front of the buffer, as long as its answer says: nothing where R is not set.
  pub changes_the_front_only : (old : List ℕ) (m : Message) (h : Head) (n : ℕ) → (receive_of b bytes t ≡ as_new m h n) ⊎ (receive_of b bytes t ≡ as_duplicate m h n)
      → receive_buffer b bytes t old ≡ cond (message_of bytes).wants (acknowledgement_bytes (answer_to b (message_of bytes))) [] ++ drop n old
  unfolding receive_buffer buffer_by
  changes_the_front_only old m h n = ⊎_elim by by
    where
      by : {a : (Result Received Refusal)} → receive_of b bytes t ≡ a → buffer_by (receive_of b bytes t) (answer_to b (message_of bytes)) (message_of bytes) old ≡ buffer_by a (answer_to b (message_of bytes)) (message_of bytes) old
      by e = ap (λ (x : Result Received Refusal). buffer_by x (answer_to b (message_of bytes)) (message_of bytes) old) e

  -- A verdict comes with the value that reading gives, its head, and the acknowledgement's length: 34 bytes, 56 if encrypted, none where R is not set.
  pub gives_value_and_length : (m : Message) (h : Head) (n : ℕ) → (receive_of b bytes t ≡ as_new m h n) ⊎ (receive_of b bytes t ≡ as_duplicate m h n)
      → (read_of bytes ≡ Ok (with_head m h)) × (message_of bytes ≡ m) × (n ≡ cond m.wants (cond (encrypted m) 56 34) 0)
  gives_value_and_length m h n =
      ⊎_elim (λ e. let w = new_said b bytes t m h n e in (new_was_read b bytes t m h n e, w.value, long w)) (λ e. let w = duplicate_said b bytes t m h n e in (duplicate_was_read b bytes t m h n e, w.value, long w))
    where
      go : (wants : Bool) → only wants (total (answer_to b (message_of bytes)) []) ≡ cond wants (cond (encrypted (message_of bytes)) 56 34) 0
      go true = acknowledgement_length b.own (sender_of b.link (message_of bytes)) b.id (message_of bytes)
      go false = refl

      long : Said b bytes t m h n → n ≡ cond m.wants (cond (encrypted m) 56 34) 0
      long w = sym w.reply ∙ go (message_of bytes).wants ∙ ap (λ (x : Message). cond x.wants (cond (encrypted x) 56 34) 0) w.value

  -- No call changes the buffer's length.
  pub keeps_the_buffer_length : (old : List ℕ) → b.room ≡ length old → length (receive_buffer b bytes t old) ≡ length old
  unfolding receive_buffer buffer_by
  keeps_the_buffer_length old room = go (receive_of b bytes t) refl
    where
      sized : (wants : Bool) → length (cond wants (acknowledgement_bytes (answer_to b (message_of bytes))) []) ≡ only wants (total (answer_to b (message_of bytes)) [])
      sized true = length_acknowledgement b bytes
      sized false = refl

      fits : (m : Message) (h : Head) (n : ℕ) → Said b bytes t m h n
          → length (cond (message_of bytes).wants (acknowledgement_bytes (answer_to b (message_of bytes))) [] ++ drop n old) ≡ length old
      fits m h n w =
          let room_for : n ≤ length old = omega (arith, room, w.reply, acknowledgement_fits b bytes _ w.clear) in
          length-append (cond (message_of bytes).wants (acknowledgement_bytes (answer_to b (message_of bytes))) []) (drop n old)
          ∙ omega (arith, sized (message_of bytes).wants, w.reply, length-drop n old, room_for)

      by : (v : Verdict) (m : Message) (h : Head) (n : ℕ) → receive_of b bytes t ≡ Ok (received v m h n)
          → length (buffer_with (Ok (received v m h n)) (cond (message_of bytes).wants (acknowledgement_bytes (answer_to b (message_of bytes))) []) old) ≡ length old
      by Verdict.New m h n e = fits m h n (new_said b bytes t m h n e)
      by Verdict.Duplicate m h n e = fits m h n (duplicate_said b bytes t m h n e)

      go : (a : Result Received Refusal) → receive_of b bytes t ≡ a → length (buffer_with a (cond (message_of bytes).wants (acknowledgement_bytes (answer_to b (message_of bytes))) []) old) ≡ length old
      go (Ok a) e = by a.verdict a.taken.message a.taken.head a.reply e
      go (Err r) e = refl

  -- Where R is set, the bytes at the front of the buffer, as many as the answer says, read back as the acknowledgement of the message.
  pub what_is_written_reads_back : AllBytes bytes → b.own < 256 ^ 8 → b.link < 256 ^ 8 → b.id < 256 ^ 4
      → (old : List ℕ) (m : Message) (h : Head) (n : ℕ) → (receive_of b bytes t ≡ as_new m h n) ⊎ (receive_of b bytes t ≡ as_duplicate m h n) → m.wants ≡ true
      → SameRead (answer_to b m) [] (blank_check (answer_to b m)) (take n (receive_buffer b bytes t old))
  what_is_written_reads_back all ours theirs given old m h n answer wants =
      subst (λ (x : Message). SameRead (answer_to b x) [] (blank_check (answer_to b x)) (take n (receive_buffer b bytes t old))) said.value
      (subst⁻¹ (SameRead (answer_to b (message_of bytes)) [] (blank_check (answer_to b (message_of bytes)))) front
      (acknowledgement_reads_back (answer_to b (message_of bytes)) b.room (total (answer_to b (message_of bytes)) []) sized (is_acknowledged b bytes _ said.clear asked)))
    where
      said : Said b bytes t m h n
      said = ⊎_elim (new_said b bytes t m h n) (duplicate_said b bytes t m h n) answer

      asked : (message_of bytes).wants ≡ true
      asked = ap (λ (x : Message). x.wants) said.value ∙ wants

      sender : (sourced : Bool) → cond sourced (message_of bytes).source b.link < 256 ^ 8
      sender true = (sized_of bytes all).source
      sender false = theirs

      sized : Sized (answer_to b (message_of bytes))
      sized = acknowledgement_is_sized b.own (sender_of b.link (message_of bytes)) b.id (message_of bytes) (sized_of bytes all) ours (sender (message_of bytes).sourced) given

      long : length (acknowledgement_bytes (answer_to b (message_of bytes))) ≡ n
      long = length_acknowledgement b bytes ∙ sym (ap (λ (w : Bool). only w (total (answer_to b (message_of bytes)) [])) asked) ∙ said.reply

      front : take n (receive_buffer b bytes t old) ≡ acknowledgement_bytes (answer_to b (message_of bytes))
      front =
          ap (take n) (changes_the_front_only old m h n answer ∙ ap (λ (w : Bool). cond w (acknowledgement_bytes (answer_to b (message_of bytes))) [] ++ drop n old) asked)
          ∙ take_at (acknowledgement_bytes (answer_to b (message_of bytes))) (drop n old) n long
