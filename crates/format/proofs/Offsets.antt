-- Where a refusal of reading points: at the end where bytes are missing, else at the first byte of the field at fault, which is within the
-- message. Assumes nothing.
use Rattle.std.specs.Prelude.{Some}
use Prim.Native.Nat.{ℕ, ◌+◌, ◌≤◌, ◌<◌}
use mathlib.Core.Path.{◌≡◌, refl, ap, subst}
use mathlib.Core.Bool.{Bool, true, false, not, ◌||◌, cond}
use mathlib.Core.List.{List, [], ◌∷◌}
use native.Mathlib.Omega.{arith}
use borrow.Author.Tests.{ltb-true, ltb-false, eqb-true}
use lib.Dec.{eqb}
use lib.ListN.{length, get_or}
use Rattle.wire.specs.Bytes.{part, little, big}
use Rattle.message.specs.Reasons.{number}
use Rattle.message.specs.Order.{Condition, condition, first_refusal}
use Rattle.message.specs.Layout.{only, longest, source_at, destination_at, key_at, encrypted, body_of, fixed_length, up_to_check}
use Rattle.message.specs.Value.{bit, header, exchange_header, address_of, exchanged_by, message_of}
use Rattle.message.specs.Refusals.{bad_version, reserved, old_tunnel, bad_encrypt, bad_key_type, bad_key, nobody, bad_source, bad_destination, bad_exchange, old_asks, bad_tunnel, bad_packet, bad_packet_length, no_room}
use Rattle.message.specs.declared.answers.Reason.{Reason}
use Rattle.message.specs.declared.answers.Reason.TheVariants.{TooLong, TooShort, Version, Reserved, OldTunnel, Encrypt, Key, Source, Destination, Exchange, OldAsks, Tunnel, Packet, PacketLength}
use Rattle.message.specs.declared.answers.Refusal.{Refusal}
use Rattle.message.proofs.Logic.{and_true}
use Rattle.message.proofs.Order.{none_some, same_some}
use Rattle.outer.specs.Outer.{outer_order}
use Rattle.reader.specs.Reading.{exchange_order, tunnel_order, body_order, reading_order}

-- where the key id, the destination, and the exchange header or the tunnel version of a message stand
abbrev key_in : List ℕ → ℕ
key_in bytes = key_at (message_of bytes).sourced (message_of bytes).destined

abbrev destination_in : List ℕ → ℕ
destination_in bytes = destination_at (message_of bytes).sourced

abbrev body_in : List ℕ → ℕ
body_in bytes = body_of (message_of bytes)

-- a refusal's reason and offset, and what is in the bytes where it points; from number 7 on: the field that stands there is present, its bytes are
-- there, and it is at fault
pub data AtFault (bytes : List ℕ) : Reason → ℕ → Type 0 where
  -- the longest message would end there
  too_long : longest < length bytes → AtFault bytes TooLong longest
  -- the bytes end there: they are less than the header, or than the fixed part, or A has no room
  no_header : length bytes < 2 → AtFault bytes TooShort (length bytes)
  too_short : length bytes < fixed_length (message_of bytes) → AtFault bytes TooShort (length bytes)
  no_place : no_room (length bytes) (message_of bytes) ≡ true → AtFault bytes TooShort (length bytes)
  -- the header: another version than 1 and 2, a reserved bit, T in version 1, another encrypt type than 0 and 1
  version : 2 ≤ length bytes → bad_version (message_of bytes).version ≡ true → AtFault bytes Version 0
  reserve : 2 ≤ length bytes → reserved (header bytes) ≡ true → AtFault bytes Reserved 0
  old : 2 ≤ length bytes → old_tunnel (message_of bytes).version (message_of bytes).tunnelled ≡ true → AtFault bytes OldTunnel 0
  encrypt : 2 ≤ length bytes → bad_encrypt (message_of bytes).encrypt ≡ true → AtFault bytes Encrypt 0
  -- a key id of another type than 1 and 2
  key : encrypted (message_of bytes) ≡ true → key_in bytes + 2 ≤ length bytes → bad_key_type (little (part bytes (key_in bytes) 2)) ≡ true → AtFault bytes Key (key_in bytes)
  -- a source that is nobody's
  source : (message_of bytes).sourced ≡ true → source_at + 8 ≤ length bytes → nobody (big (part bytes source_at 8)) ≡ true → AtFault bytes Source source_at
  -- a destination that is all zero
  destination : (message_of bytes).destined ≡ true → destination_in bytes + 8 ≤ length bytes → big (part bytes (destination_in bytes) 8) ≡ 0
      → AtFault bytes Destination (destination_in bytes)
  -- an exchange header with F zero or a reserved bit set
  exchange : (message_of bytes).tunnelled ≡ false → body_in bytes + 1 ≤ length bytes → bad_exchange (little (part bytes (body_in bytes) 1)) ≡ true
      → AtFault bytes Exchange (body_in bytes)
  -- one with A or R, in version 1
  asks : (message_of bytes).tunnelled ≡ false → body_in bytes + 1 ≤ length bytes → (message_of bytes).version ≡ 1
      → (bit (little (part bytes (body_in bytes) 1)) 1 || bit (little (part bytes (body_in bytes) 1)) 2) ≡ true
      → AtFault bytes OldAsks (body_in bytes)
  -- a tunnel version other than 1
  tunnel : (message_of bytes).tunnelled ≡ true → body_in bytes + 1 ≤ length bytes → bad_tunnel (get_or bytes (body_in bytes) 0) ≡ true → AtFault bytes Tunnel (body_in bytes)
  -- the first byte of a packet that is neither IPv4 nor IPv6
  packet : (message_of bytes).tunnelled ≡ true → body_in bytes + 1 + 1 ≤ length bytes → bad_packet (get_or bytes (body_in bytes + 1) 0) ≡ true
      → AtFault bytes Packet (body_in bytes + 1)
  -- the first byte of one that is shorter than its own header, or of another length than that gives
  packet_length : (message_of bytes).tunnelled ≡ true → body_in bytes + 1 + 1 ≤ length bytes → bad_packet_length (up_to_check (message_of bytes) (body_in bytes + 1) bytes) ≡ true
      → AtFault bytes PacketLength (body_in bytes + 1)

-- ---- within the message

pub within : (bytes : List ℕ) {reason : Reason} {k : ℕ} → AtFault bytes reason k → (k ≤ length bytes) × (7 ≤ number reason → k < length bytes)
within bytes (too_long l) = (omega arith, λ s. absurd (omega arith))
within bytes (no_header l) = (omega arith, λ s. absurd (omega arith))
within bytes (too_short l) = (omega arith, λ s. absurd (omega arith))
within bytes (no_place e) = (omega arith, λ s. absurd (omega arith))
within bytes (version l e) = (omega arith, λ s. absurd (omega arith))
within bytes (reserve l e) = (omega arith, λ s. absurd (omega arith))
within bytes (old l e) = (omega arith, λ s. absurd (omega arith))
within bytes (encrypt l e) = (omega arith, λ s. absurd (omega arith))
within bytes (key p l e) = (omega arith, λ s. omega arith)
within bytes (source p l e) = (omega arith, λ s. omega arith)
within bytes (destination p l e) = (omega arith, λ s. omega arith)
within bytes (exchange p l e) = (omega arith, λ s. omega arith)
within bytes (asks p l v e) = (omega arith, λ s. omega arith)
within bytes (tunnel p l e) = (omega arith, λ s. omega arith)
within bytes (packet p l e) = (omega arith, λ s. omega arith)
within bytes (packet_length p l e) = (omega arith, λ s. omega arith)

-- ---- the fields

module _ (bytes : List ℕ) (fixed : fixed_length (message_of bytes) ≤ length bytes) where
  at_key : bad_key (message_of bytes).encrypt (message_of bytes).key ≡ true → AtFault bytes Key (key_in bytes)
  unfolding message_of exchanged_by address_of
  at_key e =
      let p = and_true (eqb (message_of bytes).encrypt 1) (bad_key_type (message_of bytes).key) e in
      key p.0 (let w : only (eqb (message_of bytes).encrypt 1) 2 ≡ 2 = ap (λ (b : Bool). only b 2) p.0 in omega (arith, fixed))
      (subst (λ (b : Bool). bad_key_type (little (part bytes (key_in bytes) (only b 2))) ≡ true) p.0 p.1)

  at_source : bad_source (message_of bytes).sourced (message_of bytes).source ≡ true → AtFault bytes Source source_at
  unfolding message_of exchanged_by address_of
  at_source e =
      let p = and_true (message_of bytes).sourced (nobody (message_of bytes).source) e in
      source p.0 (let w : only (message_of bytes).sourced 8 ≡ 8 = ap (λ (b : Bool). only b 8) p.0 in omega (arith, fixed))
      (subst (λ (b : Bool). nobody (big (part bytes source_at (only b 8))) ≡ true) p.0 p.1)

  at_destination : bad_destination (message_of bytes).destined (message_of bytes).destination ≡ true → AtFault bytes Destination (destination_in bytes)
  unfolding message_of exchanged_by address_of
  at_destination e =
      let p = and_true (message_of bytes).destined (eqb (message_of bytes).destination 0) e in
      destination p.0 (let w : only (message_of bytes).destined 8 ≡ 8 = ap (λ (b : Bool). only b 8) p.0 in omega (arith, fixed))
      (eqb-true _ _ (subst (λ (b : Bool). eqb (big (part bytes (destination_in bytes) (only b 8))) 0 ≡ true) p.0 p.1))

  module _ (general : (message_of bytes).tunnelled ≡ false) where
    room : body_in bytes + 1 ≤ length bytes
    room = let w : ◌≡◌ {A = ℕ} (cond (message_of bytes).tunnelled 2 8) 8 = ap {B = ℕ} (λ (b : Bool). cond b 2 8) general in omega (arith, fixed)

    header_is : exchange_header bytes ≡ little (part bytes (body_in bytes) 1)
    unfolding message_of exchanged_by address_of
    header_is = ap (λ (b : Bool). little (part bytes (body_in bytes) (only (not b) 1))) general

    at_exchange : bad_exchange (exchange_header bytes) ≡ true → AtFault bytes Exchange (body_in bytes)
    at_exchange e = exchange general room (subst (λ (x : ℕ). bad_exchange x ≡ true) header_is e)

    at_asks : old_asks (message_of bytes).version (message_of bytes).acknowledges (message_of bytes).wants ≡ true → AtFault bytes OldAsks (body_in bytes)
    unfolding message_of exchanged_by address_of
    at_asks e =
        let p = and_true (eqb (message_of bytes).version 1) ((message_of bytes).acknowledges || (message_of bytes).wants) e in
        asks general room (eqb-true _ _ p.0) (subst (λ (x : ℕ). (bit x 1 || bit x 2) ≡ true) header_is p.1)

  tunnel_room : (message_of bytes).tunnelled ≡ true → body_in bytes + 1 + 1 ≤ length bytes
  tunnel_room t = let w : ◌≡◌ {A = ℕ} (cond (message_of bytes).tunnelled 2 8) 2 = ap {B = ℕ} (λ (b : Bool). cond b 2 8) t in omega (arith, fixed)

-- ---- the order

-- the first condition of an order to hold points at what is at fault, if there is one
record Points (bytes : List ℕ) (order : List Condition) : Type 0 where
  points : (r : Refusal) → first_refusal order ≡ Some r → AtFault bytes r.reason r.offset

none : {bytes : List ℕ} → Points bytes []
none = record { points = λ r e. none_some e }

either : {bytes : List ℕ} {reason : Reason} {k : ℕ} {holds : Bool} {rest : List Condition}
    → (holds ≡ true → AtFault bytes reason k) → (holds ≡ false → Points bytes rest) → Points bytes (condition reason holds k ∷ rest)
either {bytes} {holds = true} here later = record { points = λ r e. subst (λ (q : Refusal). AtFault bytes q.reason q.offset) (same_some e) (here refl) }
either {holds = false} here later = record { points = (later refl).points }

module _ (bytes : List ℕ) where
  by_kind : fixed_length (message_of bytes) ≤ length bytes → (t : Bool) → (message_of bytes).tunnelled ≡ t
      → Points bytes (cond t (tunnel_order bytes (message_of bytes)) (exchange_order (exchange_header bytes) (length bytes) (message_of bytes)))
  unfolding tunnel_order exchange_order
  by_kind fixed true t =
      let room = tunnel_room bytes fixed t in
      either (tunnel t (omega arith)) (λ _. either (packet t room) (λ _. either (packet_length t room) (λ _. none)))
  by_kind fixed false t = either (at_exchange bytes fixed t) (λ _. either (at_asks bytes fixed t) (λ _. either no_place (λ _. none)))

  in_order : Points bytes (reading_order bytes)
  unfolding reading_order outer_order body_order
  in_order =
      either (λ l. too_long (ltb-true _ _ l))
      (λ _. either (λ s. no_header (ltb-true _ _ s))
      (λ two. either (version (ltb-false _ _ two))
      (λ _. either (reserve (ltb-false _ _ two))
      (λ _. either (old (ltb-false _ _ two))
      (λ _. either (encrypt (ltb-false _ _ two))
      (λ _. either (λ s. too_short (ltb-true _ _ s))
      (λ short. either (at_key bytes (ltb-false _ _ short))
      (λ _. either (at_source bytes (ltb-false _ _ short))
      (λ _. either (at_destination bytes (ltb-false _ _ short))
      (λ _. by_kind (ltb-false _ _ short) (message_of bytes).tunnelled refl))))))))))

  pub at_fault : (r : Refusal) → first_refusal (reading_order bytes) ≡ Some r → AtFault bytes r.reason r.offset
  at_fault = in_order.points
