-- Framed, then unframed, and back; and what the bytes wanted do. Assumes nothing.
use Rattle.std.specs.Prelude.{Option, Some, None, Ok, Err}
use Prim.Native.Nat.{ℕ, ◌+◌, ◌-◌, ◌≤◌, ◌<◌}
use mathlib.Core.Path.{◌≡◌, refl, sym, ap, ap₂, ◌∙◌}
use mathlib.Core.List.{List, ◌++◌, append_assoc}
use native.Mathlib.Omega.{arith}
use borrow.Author.Tests.{le-ltb, ltb-false}
use lib.ListN.{length, take, drop, length-append, length-drop, take-append-drop, get_or-append}
use lib.Seq.{take_at, drop_at, take-add, length-take-le}
use Rattle.wire.specs.Bytes.{part, little, little_bytes}
use Rattle.wire.proofs.Digits.{AllBytes, little_of}
use Rattle.wire.proofs.Fronts.{part_take}
use Rattle.wire.proofs.Parts.{part_front, little_back}
use Rattle.message.specs.Reasons.{refusal}
use Rattle.message.specs.Answers.{writing}
use Rattle.message.specs.declared.answers.Reason.{Reason}
use Rattle.message.specs.declared.answers.Refusal.{Refusal}
use Rattle.message.proofs.Order.{none_first}
use Rattle.message.specs.declared.answers.Unframed.{Unframed}
use Rattle.message.specs.declared.answers.Unframed.TheVariants.{Whole, Incomplete}
use Rattle.stream.specs.Stream.{demanded, wanted, unframe_of, message_in, rest_in, framed_message, framed_rest, frame_bytes, framing_order, frame_of}
use Rattle.stream.proofs.Streams.{wanted_short, wanted_long, unframe_wants, unframe_whole, whole_there}

frame_length : (message : List ℕ) → length (frame_bytes message) ≡ 2 + length message
unfolding frame_bytes
frame_length message = length-append (little_bytes 2 (length message)) message

-- the three answers for a stream with the whole message m at its front and r after it
pub record Unframes (stream m r : List ℕ) : Type 0 where
  pub whole : unframe_of stream ≡ Whole (length m)
  pub message : framed_message stream ≡ m
  pub rest : framed_rest stream ≡ r

module _ (message rest : List ℕ) (short : length message < 65536) where
  stream : List ℕ
  stream = frame_bytes message ++ rest

  shape : stream ≡ little_bytes 2 (length message) ++ (message ++ rest)
  unfolding stream frame_bytes
  shape = append_assoc (little_bytes 2 (length message)) message rest

  demands : demanded stream ≡ length message
  demands =
      ap (λ (s : List ℕ). little (part s 0 2)) shape
      ∙ ap little (part_front (little_bytes 2 (length message)) (message ++ rest))
      ∙ little_of 2 (length message) short

  long : length stream ≡ 2 + length message + length rest
  long = ap length shape ∙ simp length-append (omega arith)

  whole_is : unframe_of stream ≡ Whole (length message)
  whole_is =
      let l = long in
      let d = demands in
      let w : 2 + demanded stream - length stream ≡ 0 = omega arith in
      unframe_whole stream (wanted_long stream (omega arith) ∙ w) ∙ ap Whole d

  pub framed_unframes : Unframes (frame_bytes message ++ rest) message rest
  unfolding stream framed_message framed_rest
  framed_unframes =
      record {
        whole = whole_is;
        message =
            ap (λ (u : Unframed). message_in stream u) whole_is
            ∙ ap (λ (s : List ℕ). take (length message) (drop 2 s)) shape
            ∙ ap (λ (s : List ℕ). take (length message) s) (drop_at (little_bytes 2 (length message)) (message ++ rest) 2 refl)
            ∙ take_at message rest (length message) refl;
        rest =
            ap (λ (u : Unframed). rest_in stream u) whole_is
            ∙ drop_at (frame_bytes message) rest (2 + length message) (frame_length message);
      }

-- ---- back: what was unframed, framed again

module _ (stream : List ℕ) (all : AllBytes stream) (n : ℕ) (e : unframe_of stream ≡ Whole n) where
  there : 2 + n ≤ length stream
  there = (whole_there stream n e).1

  message_is : framed_message stream ≡ take n (drop 2 stream)
  unfolding framed_message
  message_is = ap (λ (u : Unframed). message_in stream u) e

  rest_is : framed_rest stream ≡ drop (2 + n) stream
  unfolding framed_rest
  rest_is = ap (λ (u : Unframed). rest_in stream u) e

  pub message_length : length (framed_message stream) ≡ n
  message_length = ap length message_is ∙ length-take-le n (drop 2 stream) (rw (length-drop 2 stream) (let h = there in omega arith))

  field_is : little_bytes 2 (length (framed_message stream)) ≡ take 2 stream
  field_is =
      let h = there in
      let two : 0 + 2 ≤ length stream = omega arith in
      ap (λ (k : ℕ). little_bytes 2 k) (message_length ∙ sym (whole_there stream n e).0)
      ∙ little_back stream all 0 2
      ∙ part_take stream 0 2 two

  pub reframed : frame_bytes (framed_message stream) ++ framed_rest stream ≡ stream
  unfolding frame_bytes
  reframed =
      ap (λ (l : List ℕ). l ++ framed_message stream ++ framed_rest stream) field_is
      ∙ ap₂ (λ (m r : List ℕ). take 2 stream ++ m ++ r) message_is rest_is
      ∙ ap (λ (l : List ℕ). l ++ drop (2 + n) stream) (sym (take-add 2 n stream))
      ∙ take-append-drop (2 + n) stream

-- a message of at most 1,232 bytes is framed where there is room
pub framing_taken : (message : List ℕ) (room : ℕ) → length message ≤ 1232 → 2 + length message ≤ room → frame_of message room ≡ Ok (2 + length message)
unfolding frame_of framing_order
framing_taken message room s h = simp (le-ltb _ _ s, le-ltb _ _ h)

-- what an answer of writing or framing tells: nothing refused it, or this did
pub writing_ok : (o : Option Reason) (len n : ℕ) → writing o len ≡ Ok n → o ≡ None
writing_ok None len n e = refl
writing_ok (Some reason) len n e = let z : ◌≡◌ {A = ℕ} 0 1 = cc in let w : ⊥ = omega arith in absurd w

pub writing_err : (o : Option Reason) (len : ℕ) (reason : Reason) → writing o len ≡ Err (refusal reason) → o ≡ Some reason
writing_err None len reason e = let z : ◌≡◌ {A = ℕ} 0 1 = cc in let w : ⊥ = omega arith in absurd w
writing_err (Some given) len reason e = let same : refusal given ≡ refusal reason = cc in ap (λ (r : Refusal). Some r.reason) same

-- what is framed is short enough for its length field
pub framed_short : (message : List ℕ) (room n : ℕ) → frame_of message room ≡ Ok n → length message < 65536
unfolding frame_of framing_order
framed_short message room n e =
    let k : length message ≤ 1232 = ltb-false _ _ (none_first (framing_order message room) (writing_ok _ _ n e)).0 in
    omega arith

-- ---- what is wanted

-- more bytes do not change what the length field demands
demands_still : (s more : List ℕ) → 2 ≤ length s → demanded (s ++ more) ≡ demanded s
demands_still s more h = simp (get_or-append s more 0 0 (omega arith), get_or-append s more 0 1 (omega arith))

-- while the length field is not whole, the bytes wanted make it so and no longer
pub length_field_first : (s more : List ℕ) → length s < 2 → length more ≡ wanted s → length (s ++ more) ≡ 2
length_field_first s more h e =
    let w : length more ≡ 2 - length s = e ∙ wanted_short s h in
    length-append s more ∙ omega arith

module _ (s more : List ℕ) (h : 2 ≤ length s) where
  total : length (s ++ more) ≡ length s + length more
  total = length-append s more

  still : wanted (s ++ more) ≡ wanted s - length more
  still =
      let l = total in
      let d : demanded (s ++ more) ≡ demanded s = demands_still s more h in
      let a : wanted s ≡ 2 + demanded s - length s = wanted_long s h in
      let b : wanted (s ++ more) ≡ 2 + demanded (s ++ more) - length (s ++ more) = wanted_long (s ++ more) (omega arith) in
      omega arith

  -- then the bytes wanted, once supplied, make the message whole, and nothing is left over
  pub wanted_makes_whole : length more ≡ wanted s → unframe_of (s ++ more) ≡ Whole (demanded s)
  wanted_makes_whole e =
      let w = still in
      let z : wanted (s ++ more) ≡ 0 = omega arith in
      unframe_whole (s ++ more) z ∙ ap Whole (demands_still s more h)

  -- and fewer leave as many wanted as are missing
  pub fewer_leave_the_rest : length more < wanted s → unframe_of (s ++ more) ≡ Incomplete (wanted s - length more)
  fewer_leave_the_rest l = unframe_wants (s ++ more) (wanted s - length more) still (omega arith)
