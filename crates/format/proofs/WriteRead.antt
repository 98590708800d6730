-- What was written reads back to the same value and parts: nothing refuses it. Assumes nothing.
use Rattle.std.specs.Prelude.{Ok, Err, None}
use Prim.Native.Nat.{ℕ, ◌+◌, ◌-◌, ◌≤◌, ◌<◌}
use mathlib.Core.Path.{◌≡◌, refl, sym, ap, ap₂, ◌∙◌}
use mathlib.Core.Bool.{Bool, true, false, ◌&&◌, cond}
use mathlib.Core.List.{List, [], ◌∷◌, ◌++◌, append_assoc}
use native.Mathlib.Omega.{arith}
use native.Mathlib.Nat.{add-zero}
use lib.ListN.{length, get_or, take, drop, length-append, get_or-append}
use lib.Seq.{take_at, drop_at, get_or-append-add}
use lib.Dec.{ltb}
use borrow.Author.Tests.{eqb-false, le-ltb}
use Rattle.wire.specs.Bytes.{little_bytes}
use Rattle.message.specs.Order.{Condition, ◌when◌, ◌at_byte◌, first_refusal, first}
use Rattle.message.specs.Layout.{only, body_of, head_length, check_length, fixed_length, up_to_check}
use Rattle.message.specs.Value.{exchange_header, address_bytes, exchange_bytes, head_bytes, bytes_of}
use Rattle.message.specs.Refusals.{bad_exchange, bad_packet_length, wrong_packet_length, total}
use Rattle.outer.specs.Outer.{outer_order}
use Rattle.reader.specs.Reading.{exchange_order, tunnel_order, body_order, reading_order, read_of}
use Rattle.parts.specs.Parts.{payload_of, check_of}
use Rattle.judge.specs.Writing.{write_of}
use Rattle.message.specs.declared.value.Message.{Message}
use Rattle.message.specs.Answers.{as_taken, reading}
use Rattle.message.specs.declared.answers.Reason.TheVariants.{PacketLength}
use Rattle.message.proofs.Logic.{clash, and_false}
use Rattle.message.proofs.Order.{first_pass}
use Rattle.judge.proofs.Clear.{ClearWrite, written, written_sized}
use Rattle.message.proofs.Lengths.{length_address, length_head, length_bytes, total_is}
use Rattle.format.proofs.HeaderForth.{exchange_clean}
use Rattle.format.proofs.Sized.{Sized}
use Rattle.format.proofs.TakenParts as parts
use Rattle.format.proofs.ValueBack.{body, found, exchange_is, shape_2, message_is}

-- the fixed part is within the message, and so is an acknowledged id
fixed_by : (t a : Bool) (body check n : ℕ) → (t ≡ true → 0 < n) → body + cond t 2 8 + check ≤ body + cond t 1 (8 + only a 4) + n + check
fixed_by true a body check n f = let g : 0 < n = f refl in omega arith
fixed_by false a body check n f = omega arith

room_by : (t a : Bool) (body check n len : ℕ) → t ≡ false → len ≡ body + cond t 1 (8 + only a 4) + n + check
    → (a && ltb len (body + cond t 2 8 + check + 4)) ≡ false
room_by true a body check n len e h = clash true refl e
room_by false true body check n len e h = le-ltb len (body + 8 + check + 4) (omega arith)
room_by false false body check n len e h = refl

module _ (m : Message) (p c : List ℕ) (room : ℕ) (z : Sized m) (k : ClearWrite m p c room) where
  length_is : length (bytes_of m p c) ≡ head_length m + length p + check_length m
  length_is = length_bytes m p c k.check ∙ total_is m p

  packet_there : m.tunnelled ≡ true → 0 < length p
  packet_there t = let f : length p ≡ 0 → ⊥ = eqb-false _ _ (and_false m.tunnelled _ k.empty t) in omega arith

  outer_none : first (outer_order (bytes_of m p c) m) ≡ None
  unfolding outer_order
  outer_none =
      let l = length_is in
      let s : length (bytes_of m p c) ≡ total m p = length_bytes m p c k.check in
      let short : length (bytes_of m p c) ≤ 1232 = omega (arith, k.short) in
      let two : 2 ≤ length (bytes_of m p c) = omega arith in
      let fixed : fixed_length m ≤ length (bytes_of m p c) = omega (arith, fixed_by m.tunnelled m.acknowledges (body_of m) (check_length m) (length p) packet_there) in
      simp (le-ltb _ _ short, le-ltb _ _ two, k.version, (found m p c room z k).clean, k.tunnel, k.encrypt, le-ltb _ _ fixed, k.key, k.source, k.destination)

  exchange_none : m.tunnelled ≡ false → first_refusal (exchange_order (exchange_header (bytes_of m p c)) (length (bytes_of m p c)) m) ≡ first_refusal []
  unfolding exchange_order
  exchange_none t =
      let x : bad_exchange (exchange_header (bytes_of m p c)) ≡ false = ap bad_exchange (exchange_is m p c room z k t) ∙ exchange_clean m in
      simp (x, k.asks, room_by m.tunnelled m.acknowledges (body_of m) (check_length m) (length p) (length (bytes_of m p c)) t length_is)

  shape_t : m.tunnelled ≡ true → bytes_of m p c ≡ address_bytes m ++ (1 ∷ (p ++ c))
  unfolding body
  shape_t t = shape_2 m p c room z k ∙ ap (λ (b : Bool). address_bytes m ++ (cond b (little_bytes 1 1) (exchange_bytes m) ++ (p ++ c))) t

  byte_at : m.tunnelled ≡ true → (j : ℕ) → get_or (bytes_of m p c) (body_of m + j) 0 ≡ get_or (1 ∷ (p ++ c)) j 0
  byte_at t j =
      ap₂ (λ (l : List ℕ) (n : ℕ). get_or l (n + j) 0) (shape_t t) (sym (length_address m)) ∙ get_or-append-add (address_bytes m) (1 ∷ (p ++ c)) j 0

  head_is : m.tunnelled ≡ true → head_length m ≡ body_of m + 1
  head_is t = ap (λ (b : Bool). body_of m + cond b 1 (8 + only m.acknowledges 4)) t

  -- what stands behind the head, up to the check
  between_is : up_to_check m (head_length m) (bytes_of m p c) ≡ p
  unfolding bytes_of
  between_is =
      let bs = bytes_of m p c in
      let n : length p ≡ length bs - check_length m - head_length m = let l = length_is in omega arith in
      ap (λ (l : List ℕ). take (length bs - check_length m - head_length m) (drop (head_length m) l)) (append_assoc (head_bytes m) p c)
      ∙ ap (λ (l : List ℕ). take (length bs - check_length m - head_length m) l) (drop_at (head_bytes m) (p ++ c) (head_length m) (length_head m))
      ∙ take_at p c _ n

  -- what is left to decide is the length of the packet
  sized_order : List Condition
  sized_order = PacketLength when wrong_packet_length m p at_byte (body_of m + 1) ∷ []

  tunnel_sized : m.tunnelled ≡ true → first_refusal (tunnel_order (bytes_of m p c) m) ≡ first_refusal sized_order
  unfolding tunnel_order sized_order
  tunnel_sized t =
      let version : get_or (bytes_of m p c) (body_of m) 0 ≡ 1 = ap (λ (i : ℕ). get_or (bytes_of m p c) i 0) (sym (add-zero (body_of m))) ∙ byte_at t 0 in
      let packet : get_or (bytes_of m p c) (body_of m + 1) 0 ≡ get_or p 0 0 = byte_at t 1 ∙ get_or-append p c 0 0 (packet_there t) in
      let whole : up_to_check m (body_of m + 1) (bytes_of m p c) ≡ p = ap (λ (n : ℕ). up_to_check m n (bytes_of m p c)) (sym (head_is t)) ∙ between_is in
      simp (version, packet, and_false m.tunnelled _ k.packet t, whole, t)

  body_sized : (t : Bool) → m.tunnelled ≡ t → first_refusal (body_order (bytes_of m p c) m) ≡ first_refusal sized_order
  unfolding body_order sized_order
  body_sized true t = ap (λ (b : Bool). first_refusal (cond b (tunnel_order (bytes_of m p c) m) (exchange_order (exchange_header (bytes_of m p c)) (length (bytes_of m p c)) m))) t ∙ tunnel_sized t
  body_sized false t =
      ap (λ (b : Bool). first_refusal (cond b (tunnel_order (bytes_of m p c) m) (exchange_order (exchange_header (bytes_of m p c)) (length (bytes_of m p c)) m))) t
      ∙ exchange_none t
      ∙ ap (λ (b : Bool). first_refusal (PacketLength when (b && bad_packet_length p) at_byte (body_of m + 1) ∷ [])) (sym t)

  order_sized : first_refusal (reading_order (bytes_of m p c)) ≡ first_refusal sized_order
  unfolding reading_order
  order_sized =
      ap (λ (v : Message). first_refusal (outer_order (bytes_of m p c) v ++ body_order (bytes_of m p c) v)) (message_is m p c room z k)
      ∙ first_pass (outer_order (bytes_of m p c) m) (body_order (bytes_of m p c) m) outer_none
      ∙ body_sized m.tunnelled refl

  by_length : (l : Bool) → wrong_packet_length m p ≡ l → read_of (bytes_of m p c) ≡ reading (first_refusal (PacketLength when l at_byte (body_of m + 1) ∷ [])) m
  unfolding read_of sized_order
  by_length l e =
      ap₂ reading (order_sized ∙ ap (λ (b : Bool). first_refusal (PacketLength when b at_byte (body_of m + 1) ∷ [])) e) (message_is m p c room z k)

  read_is : wrong_packet_length m p ≡ false → read_of (bytes_of m p c) ≡ as_taken m
  read_is = by_length false

  pub read_refused : wrong_packet_length m p ≡ true → read_of (bytes_of m p c) ≡ Err (record { reason = PacketLength; offset = body_of m + 1 })
  read_refused = by_length true

  payload_same : wrong_packet_length m p ≡ false → payload_of (bytes_of m p c) (read_of (bytes_of m p c)) ≡ p
  payload_same e = parts.payload_is (bytes_of m p c) m (read_is e) ∙ between_is

  check_same : wrong_packet_length m p ≡ false → check_of (bytes_of m p c) (read_of (bytes_of m p c)) ≡ c
  unfolding bytes_of
  check_same e =
      let bs = bytes_of m p c in
      let n : length (head_bytes m ++ p) ≡ length bs - check_length m = let l = length_is in omega (arith, length-append (head_bytes m) p, length_head m) in
      parts.check_is bs m (read_is e) ∙ drop_at (head_bytes m ++ p) c _ n

-- what was written reads back to the same value and parts
pub record SameRead (m : Message) (p c bytes : List ℕ) : Type 0 where
  pub value : read_of bytes ≡ as_taken m
  pub payload : payload_of bytes (read_of bytes) ≡ p
  pub check : check_of bytes (read_of bytes) ≡ c

pub write_read : (m : Message) (p c : List ℕ) (room n : ℕ) → Sized m → write_of m p c room ≡ Ok n → SameRead m p c (bytes_of m p c)
write_read m p c room n z e =
    let k = (written m p c room n e).1 in
    let s = written_sized m p c room n e in
    record { value = read_is m p c room z k s; payload = payload_same m p c room z k s; check = check_same m p c room z k s }
