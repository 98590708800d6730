-- What the message format promises, each as a theorem of its own. The laws behind them are in the other files of this folder. Assumes nothing.

-- Only one outcome fits each public contract.
pub use Rattle.format.proofs.Outcomes.{one_read, one_read_outer, one_split, one_payload, one_check, one_would_write, one_write, one_would_acknowledge, one_acknowledge, one_unframe, one_framed_message, one_framed_rest, one_frame}
-- The value that bytes say, and so every value that reading takes, is within the types of its fields.
pub use Rattle.format.proofs.Sized.{sized_of, read_is_sized}
use Rattle.std.specs.Prelude.{Option, Result, Ok, Err}
use Prim.Native.Nat.{ℕ, ◌+◌, ◌-◌, ◌≤◌, ◌<◌}
use mathlib.Core.Path.{◌≡◌, refl, ap, ap₂, ◌∙◌}
use mathlib.Core.Bool.{Bool, true, false, cond}
use mathlib.Core.List.{List, ◌++◌}
use native.Mathlib.Nat.{le_refl}
use native.Mathlib.Omega.{arith}
use lib.ListN.{length, get_or, take, drop}
use lib.Seq.{take_at}
use Rattle.wire.proofs.Digits.{AllBytes}
use Rattle.message.specs.Reasons.{number, refusal}
use Rattle.message.specs.Order.{first_refusal, first}
use Rattle.message.specs.Layout.{only, check_bytes, body_at, encrypted, check_length, head_length, fixed_length}
use Rattle.message.specs.Value.{message_of, bytes_of}
use Rattle.message.specs.Refusals.{bad_packet, bad_packet_length, stray_address, stray_exchange, total}
use Rattle.message.specs.Answers.{head_of, with_head, as_taken, reading, outer_reading, writing, buffer_after}
use Rattle.message.specs.declared.value.Message.{Message}
use Rattle.message.specs.declared.answers.Reason.{Reason}
use Rattle.message.specs.declared.answers.Refusal.{Refusal}
use Rattle.message.specs.declared.answers.Head.{Head}
use Rattle.message.specs.declared.answers.Unframed.TheVariants.{Whole, Incomplete}
use Rattle.message.proofs.Order.{FirstToHold, first_none, refusal_none, first_holds, holds_first, reason_first, first_reason, first_hit, first_pass}
use Rattle.message.proofs.Writings.{at_no_byte, unless_err}
use Rattle.message.proofs.Lengths.{length_bytes}
use Rattle.outer.specs.Outer.{outer_order, start_of, outer_of}
use Rattle.reader.specs.Reading.{body_order, reading_order, Legal, read_of}
use Rattle.parts.specs.Parts.{payload_of, check_of}
use Rattle.reader.proofs.Clear.{taken_legal, taken, head_taken}
use Rattle.judge.specs.Writing.{writing_order, Writable, write_of}
use Rattle.judge.proofs.Clear.{written_legal, written}
use Rattle.stream.specs.Stream.{demanded, wanted, unframe_of, framed_message, framed_rest, frame_bytes, framing_order, frame_of}
use Rattle.format.proofs.ReadWrite.{read_back}
use Rattle.format.proofs.Accepted.{accept}
use Rattle.format.proofs.Sized.{Sized}
use Rattle.format.proofs.WriteRead.{SameRead, write_read}
use Rattle.format.proofs.Framing as framing
use Rattle.format.proofs.Offsets.{AtFault, at_fault, within}
use Rattle.format.proofs.Packets.{WholePacket, whole_passes, passed_is_whole, NoTail, no_tail, LengthRefused, padded, cut}
use Rattle.format.proofs.Outer.{Protects, outer_place, protects}

-- ---- taken exactly when legal

-- Bytes are taken exactly when none of the conditions holds, and then with the value that the fields say and its head.
pub taken_when_legal : (bytes : List ℕ) → Legal bytes → read_of bytes ≡ as_taken (message_of bytes)
unfolding read_of
taken_when_legal bytes h = ap (λ (r : Option Refusal). reading r (message_of bytes)) (refusal_none (reading_order bytes) h)

pub legal_when_taken : (bytes : List ℕ) (m : Message) (h : Head) → read_of bytes ≡ Ok (with_head m h) → Legal bytes × (message_of bytes ≡ m) × (h ≡ head_of m)
legal_when_taken bytes m h e = (taken_legal bytes m e, (taken bytes m e).0, head_taken bytes m h e)

-- A value is written exactly when none of the conditions holds, and then as many bytes as the message has.
pub written_when_writable : (m : Message) (payload check : List ℕ) (room : ℕ) → Writable m payload check room → write_of m payload check room ≡ Ok (total m payload)
unfolding write_of
written_when_writable m payload check room h = ap (λ (o : Option Reason). writing o (total m payload)) (first_none (writing_order m payload check room) h)

pub writable_when_written : (m : Message) (payload check : List ℕ) (room n : ℕ) → write_of m payload check room ≡ Ok n
    → Writable m payload check room × (total m payload ≡ n)
writable_when_written m payload check room n e = (written_legal m payload check room n e, (written m payload check room n e).0)

-- The fixed part of a general message: 14 bytes, with both nodes 30, encrypted 36 and 52, the check included.
pub fixed_lengths : (m : Message) → m.tunnelled ≡ false
    → (m.sourced ≡ false → m.destined ≡ false → encrypted m ≡ false → fixed_length m ≡ 14)
    × (m.sourced ≡ true → m.destined ≡ true → encrypted m ≡ false → fixed_length m ≡ 30)
    × (m.sourced ≡ false → m.destined ≡ false → encrypted m ≡ true → fixed_length m ≡ 36)
    × (m.sourced ≡ true → m.destined ≡ true → encrypted m ≡ true → fixed_length m ≡ 52)
fixed_lengths m t = (by false false false, by true true false, by false false true, by true true true)
  where
    by : (s d e : Bool) → m.sourced ≡ s → m.destined ≡ d → encrypted m ≡ e → fixed_length m ≡ body_at s d e + (1 + 1 + 2 + 4) + only e check_bytes
    by s d e x y z = λ i. body_at (x i) (y i) (z i) + cond (t i) (1 + 1) (1 + 1 + 2 + 4) + only (z i) check_bytes

-- An acknowledged id adds 4: what a general message has besides its payload is its fixed part, and 4 bytes more where A is set.
pub acknowledged_id_adds_4 : (m : Message) → m.tunnelled ≡ false → head_length m + check_length m ≡ fixed_length m + only m.acknowledges 4
acknowledged_id_adds_4 m t = omega (arith, ap (λ (b : Bool). cond b 1 (1 + 1 + 2 + 4 + only m.acknowledges 4)) t, ap (λ (b : Bool). cond b (1 + 1) (1 + 1 + 2 + 4)) t)

-- ---- each refusal exactly when its condition is the first in its order to hold

-- Reason and offset are those of that condition.
module _ (bytes : List ℕ) (r : Refusal) where
  -- Reading.
  pub reading_refused_first : read_of bytes ≡ Err r → FirstToHold r (reading_order bytes)
  unfolding read_of
  reading_refused_first e = holds_first r (reading_order bytes) (unless_err _ _ r e)

  pub reading_first_refused : FirstToHold r (reading_order bytes) → read_of bytes ≡ Err r
  unfolding read_of
  reading_first_refused w = ap (λ (q : Option Refusal). reading q (message_of bytes)) (first_holds r (reading_order bytes) w)

  -- Outer reading: its order is the front of reading's.
  pub outer_refused_first : outer_of bytes ≡ Err r → FirstToHold r (outer_order bytes (message_of bytes))
  unfolding outer_of
  outer_refused_first e = holds_first r (outer_order bytes (message_of bytes)) (unless_err _ _ r e)

  pub outer_first_refused : FirstToHold r (outer_order bytes (message_of bytes)) → outer_of bytes ≡ Err r
  unfolding outer_of
  outer_first_refused w =
      ap (λ (q : Option Refusal). outer_reading q (start_of bytes (message_of bytes)) (length bytes - start_of bytes (message_of bytes))) (first_holds r (outer_order bytes (message_of bytes)) w)

-- Writing.
module _ (m : Message) (payload check : List ℕ) (room : ℕ) (reason : Reason) where
  pub writing_refused_first : write_of m payload check room ≡ Err (refusal reason) → FirstToHold (refusal reason) (writing_order m payload check room)
  unfolding write_of writing_order
  writing_refused_first e = reason_first reason (writing_order m payload check room) refl (framing.writing_err _ (total m payload) reason e)

  pub writing_first_refused : FirstToHold (refusal reason) (writing_order m payload check room) → write_of m payload check room ≡ Err (refusal reason)
  unfolding write_of
  writing_first_refused w = ap (λ (o : Option Reason). writing o (total m payload)) (first_reason reason (writing_order m payload check room) w)

-- Framing.
module _ (message : List ℕ) (room : ℕ) (reason : Reason) where
  pub framing_refused_first : frame_of message room ≡ Err (refusal reason) → FirstToHold (refusal reason) (framing_order message room)
  unfolding frame_of framing_order
  framing_refused_first e = reason_first reason (framing_order message room) refl (framing.writing_err _ (2 + length message) reason e)

  pub framing_first_refused : FirstToHold (refusal reason) (framing_order message room) → frame_of message room ≡ Err (refusal reason)
  unfolding frame_of
  framing_first_refused w = ap (λ (o : Option Reason). writing o (2 + length message)) (first_reason reason (framing_order message room) w)

-- ---- where a refusal points

-- Where reading refuses, its offset is where the bytes end (2), or within the message, where the field at fault begins; 0 for the header, and of
-- a message that is too long the length that it may have.
pub refusal_points_at_the_fault : (bytes : List ℕ) (r : Refusal) → read_of bytes ≡ Err r → AtFault bytes r.reason r.offset
unfolding read_of
refusal_points_at_the_fault bytes r e = at_fault bytes r (unless_err _ _ r e)

-- It is never past the end of the bytes, and from number 7 on it is within them.
pub offset_is_within : (bytes : List ℕ) (r : Refusal) → read_of bytes ≡ Err r → (r.offset ≤ length bytes) × (7 ≤ number r.reason → r.offset < length bytes)
offset_is_within bytes r e = within bytes (refusal_points_at_the_fault bytes r e)

-- The writers' refusals point at no byte.
pub writing_points_at_no_byte : (m : Message) (payload check : List ℕ) (room : ℕ) (r : Refusal) → write_of m payload check room ≡ Err r → r.offset ≡ 0
unfolding write_of
writing_points_at_no_byte m payload check room r e = at_no_byte (first (writing_order m payload check room)) (total m payload) r e

pub framing_points_at_no_byte : (message : List ℕ) (room : ℕ) (r : Refusal) → frame_of message room ≡ Err r → r.offset ≡ 0
unfolding frame_of
framing_points_at_no_byte message room r e = at_no_byte (first (framing_order message room)) (2 + length message) r e

-- ---- read, then written

-- What was read is written with its payload and check, where there is room, to the same bytes, and the buffer's other bytes stay.
pub read_then_written : (bytes old : List ℕ) → AllBytes bytes → (m : Message) → read_of bytes ≡ as_taken m → length bytes ≤ length old
    → let r = read_of bytes in
    let answer = write_of m (payload_of bytes r) (check_of bytes r) (length old) in
    (answer ≡ Ok (length bytes)) × (buffer_after answer (bytes_of m (payload_of bytes r) (check_of bytes r)) old ≡ bytes ++ drop (length bytes) old)
read_then_written bytes old all m e h =
    let a = accept bytes m (length old) e h in
    (a, ap₂ (λ (w : Result ℕ Refusal) (l : List ℕ). buffer_after w l old) a (read_back bytes all m e))

-- A value that was read has zero in every absent field, all exchange fields of a tunnelled message among them.
pub absent_fields_are_zero : (bytes : List ℕ) (m : Message) → read_of bytes ≡ as_taken m → (stray_address m ≡ false) × (stray_exchange m ≡ false)
absent_fields_are_zero bytes m e =
    let k = (written m _ _ _ _ (accept bytes m (length bytes) e (le_refl (length bytes)))).1 in
    (k.address, k.exchange)

-- ---- written, then read

-- What was written at the front of a buffer reads back to the same value, the same payload and the same check. `Sized` says that the fields
-- are within their types, as those of every value are (`read_is_sized`).
pub written_then_read : (m : Message) (payload check old : List ℕ) (n : ℕ) → Sized m → write_of m payload check (length old) ≡ Ok n
    → SameRead m payload check (take n (buffer_after (Ok n) (bytes_of m payload check) old))
written_then_read m payload check old n z e =
    let w = written m payload check (length old) n e in
    let l : length (bytes_of m payload check) ≡ n = length_bytes m payload check w.1.check ∙ w.0 in
    rw (take_at (bytes_of m payload check) (drop n old) n l) (write_read m payload check (length old) n z e)

-- ---- the packet of a tunnelled message

-- Exactly the whole packets pass both 13 and 27: IPv4 or IPv6, with their header, and as long as this says.
pub passes_when_whole : (packet : List ℕ) → WholePacket packet → (bad_packet (get_or packet 0 0) ≡ false) × (bad_packet_length packet ≡ false)
passes_when_whole = whole_passes

pub whole_when_passed : (packet : List ℕ) → bad_packet (get_or packet 0 0) ≡ false → bad_packet_length packet ≡ false → WholePacket packet
whole_when_passed = passed_is_whole

-- A tunnelled message that was taken has no byte after its packet: it is the head, the packet, as long as its own header says, and the check.
pub no_byte_after_the_packet : (bytes : List ℕ) (m : Message) → read_of bytes ≡ as_taken m → m.tunnelled ≡ true → NoTail bytes m (payload_of bytes (read_of bytes))
no_byte_after_the_packet = no_tail

-- A packet that can be written, with any bytes behind it, is refused with 27, to be written and, up to the longest message, read, whether a check
-- follows or not. So is one that can be written, without its last bytes, while one is left.
pub padded_packet_is_refused : (m : Message) (packet tail check : List ℕ) (room n : ℕ) → Sized m → m.tunnelled ≡ true → write_of m packet check room ≡ Ok n
    → 0 < length tail → LengthRefused m (packet ++ tail) check
padded_packet_is_refused = padded

pub cut_packet_is_refused : (m : Message) (packet tail check : List ℕ) (room n : ℕ) → Sized m → m.tunnelled ≡ true → write_of m (packet ++ tail) check room ≡ Ok n
    → 0 < length tail → 0 < length packet → LengthRefused m packet check
cut_packet_is_refused = cut

-- ---- outer reading and reading

-- What outer reading refuses, reading refuses for the same reason and at the same byte.
pub outer_agrees : (bytes : List ℕ) (r : Refusal) → outer_of bytes ≡ Err r → read_of bytes ≡ Err r
unfolding outer_of read_of reading_order
outer_agrees bytes r e =
    ap (λ (q : Option Refusal). reading q (message_of bytes)) (first_hit (outer_order bytes (message_of bytes)) (body_order bytes (message_of bytes)) r (unless_err _ _ r e))

-- Where outer reading refuses nothing, what is left of reading's order decides.
pub reading_after_outer : (bytes : List ℕ) (start len : ℕ) → outer_of bytes ≡ Ok (start, len)
    → read_of bytes ≡ reading (first_refusal (body_order bytes (message_of bytes))) (message_of bytes)
unfolding outer_of read_of reading_order
reading_after_outer bytes start len e =
    ap (λ (r : Option Refusal). reading r (message_of bytes))
    (first_pass (outer_order bytes (message_of bytes)) (body_order bytes (message_of bytes)) (outer_place _ _ _ start len e).0)

-- The protected part runs to the end. It starts after the key id, and of a plain message it is empty, at the end.
pub protected_part : (bytes : List ℕ) (start len : ℕ) → outer_of bytes ≡ Ok (start, len) → Protects bytes start len
unfolding outer_of
protected_part bytes start len e =
    let p = outer_place _ _ _ start len e in
    protects bytes start len p.0 p.1 p.2

-- ---- the stream

-- Framed, then unframed: the message and what follows it, for every message that is framed.
pub framed_then_unframed : (message rest : List ℕ) (room n : ℕ) → frame_of message room ≡ Ok n → framing.Unframes (frame_bytes message ++ rest) message rest
framed_then_unframed message rest room n e = framing.framed_unframes message rest (framing.framed_short message room n e)

-- Unframed, then framed: the same bytes; and a message of up to 1,232 bytes is framed where there is room.
pub unframed_then_framed : (stream : List ℕ) → AllBytes stream → (n : ℕ) → unframe_of stream ≡ Whole n → frame_bytes (framed_message stream) ++ framed_rest stream ≡ stream
unframed_then_framed = framing.reframed

pub framed_up_to_the_longest : (message : List ℕ) (room : ℕ) → length message ≤ 1232 → 2 + length message ≤ room → frame_of message room ≡ Ok (2 + length message)
framed_up_to_the_longest = framing.framing_taken

-- The bytes wanted make the length field whole, no longer; then they make the message whole; fewer leave as many wanted as are missing.
pub wanted_for_the_length_field : (stream more : List ℕ) → length stream < 2 → length more ≡ wanted stream → length (stream ++ more) ≡ 2
wanted_for_the_length_field = framing.length_field_first

pub wanted_makes_whole : (stream more : List ℕ) → 2 ≤ length stream → length more ≡ wanted stream → unframe_of (stream ++ more) ≡ Whole (demanded stream)
wanted_makes_whole = framing.wanted_makes_whole

pub fewer_leave_the_rest : (stream more : List ℕ) → 2 ≤ length stream → length more < wanted stream → unframe_of (stream ++ more) ≡ Incomplete (wanted stream - length more)
fewer_leave_the_rest = framing.fewer_leave_the_rest
