-- The steps in which the code reads are the order of reading and the value of the definitions. Assumes nothing.
use Rattle.std.specs.Prelude.{Result, Err}
use Prim.Native.Nat.{ℕ, ◌+◌, ◌≤◌, ◌<◌}
use mathlib.Core.Path.{◌≡◌, refl, sym, ap, ap₂, ◌∙◌}
use mathlib.Core.Bool.{Bool, true, false, ◌&&◌}
use mathlib.Core.List.{List, [], ◌∷◌}
use native.Mathlib.Omega.{arith}
use borrow.Author.Tests.{lt-ltb, le-ltb}
use lib.Dec.{ltb}
use lib.ListN.{length, get_or}
use Rattle.wire.specs.Bytes.{part, little}
use Rattle.message.specs.Order.{◌when◌, ◌at_byte◌, first_refusal}
use Rattle.message.specs.Layout.{only, body_of, check_length, up_to_check}
use Rattle.message.specs.Value.{bit, header, body_by, address_of, exchanged_by, message_of}
use Rattle.message.specs.Refusals.{bad_exchange, old_asks, bad_tunnel, bad_packet, bad_packet_length, no_room}
use Rattle.message.specs.Answers.{as_taken, reading}
use Rattle.message.specs.declared.value.Message.{Message}
use Rattle.message.specs.declared.answers.Taken.{Taken}
use Rattle.message.specs.declared.answers.Refusal.{Refusal}
use Rattle.message.specs.declared.answers.Reason.TheVariants.{TooShort, Exchange, OldAsks, Tunnel, Packet, PacketLength}
use Rattle.reader.specs.Reading.{exchange_order, tunnel_order}
use Rattle.reader.specs.Steps.{exchanged, exchange_at, fields_of, exchange_of, tunnel_of}

-- the value of a tunnelled message is that up to its key id
pub address_tunnelled : (bytes : List ℕ) → bit (header bytes) 10 ≡ true → address_of bytes (header bytes) ≡ message_of bytes
unfolding address_of message_of exchanged_by
address_tunnelled bytes t = simp t

-- the value of a general message has the exchange fields besides
pub address_exchanged : (bytes : List ℕ) → bit (header bytes) 10 ≡ false
    → exchanged (address_of bytes (header bytes)) bytes (body_by (header bytes)) ≡ message_of bytes
unfolding address_of message_of exchanged_by
address_exchanged bytes t = simp t

-- those fields, each as the code gets it
pub exchange_at_lem : (bytes : List ℕ) (at x kind exchange profile acknowledged n : ℕ) → x ≡ little (part bytes at 1)
    → kind ≡ little (part bytes (at + 1) 1) → exchange ≡ little (part bytes (at + 2) 2) → profile ≡ little (part bytes (at + 4) 4)
    → acknowledged ≡ little (part bytes (at + 8) (only (bit x 1) 4))
    → record { header = x; kind = kind; exchange = exchange; profile = profile; acknowledged = acknowledged; length = n } ≡ exchange_at bytes at n
exchange_at_lem bytes at x kind exchange profile acknowledged n a b c d e = simp (e, ← a, b, c, d)

-- a tunnelled message, whose version stands at `at`: the version is refused, the packet is, its length is, none of them is
module _ (bytes : List ℕ) (m : Message) (at : ℕ) (e : at ≡ body_of m) where
  -- the answer by the three conditions
  by_three : ℕ → Bool → Bool → Bool → Result Taken Refusal
  by_three at v p l = reading (first_refusal (Tunnel when v at_byte at ∷ Packet when p at_byte (at + 1) ∷ PacketLength when l at_byte (at + 1) ∷ [])) m

  by_tunnel : (v p l : Bool) → bad_tunnel (get_or bytes at 0) ≡ v → bad_packet (get_or bytes (at + 1) 0) ≡ p → bad_packet_length (up_to_check m (at + 1) bytes) ≡ l → tunnel_of bytes m ≡ by_three at v p l
  unfolding tunnel_of tunnel_order by_three
  by_tunnel v p l f g h =
      ap (λ (i : ℕ). by_three i (bad_tunnel (get_or bytes i 0)) (bad_packet (get_or bytes (i + 1) 0)) (bad_packet_length (up_to_check m (i + 1) bytes))) (sym e)
      ∙ ap₂ (λ (a b : Bool). by_three at a b (bad_packet_length (up_to_check m (at + 1) bytes))) f g
      ∙ ap (by_three at v p) h

  pub tunnel_version : bad_tunnel (get_or bytes at 0) ≡ true → tunnel_of bytes m ≡ Err (record { reason = Tunnel; offset = at })
  unfolding by_three
  tunnel_version f = by_tunnel true _ _ f refl refl

  pub tunnel_packet : bad_tunnel (get_or bytes at 0) ≡ false → bad_packet (get_or bytes (at + 1) 0) ≡ true → tunnel_of bytes m ≡ Err (record { reason = Packet; offset = at + 1 })
  unfolding by_three
  tunnel_packet f g = by_tunnel false true _ f g refl

  pub tunnel_length : bad_tunnel (get_or bytes at 0) ≡ false → bad_packet (get_or bytes (at + 1) 0) ≡ false → bad_packet_length (up_to_check m (at + 1) bytes) ≡ true
      → tunnel_of bytes m ≡ Err (record { reason = PacketLength; offset = at + 1 })
  unfolding by_three
  tunnel_length f g h = by_tunnel false false true f g h

  pub tunnel_whole : bad_tunnel (get_or bytes at 0) ≡ false → bad_packet (get_or bytes (at + 1) 0) ≡ false → bad_packet_length (up_to_check m (at + 1) bytes) ≡ false
      → tunnel_of bytes m ≡ as_taken m
  unfolding by_three
  tunnel_whole f g h = by_tunnel false false false f g h

-- a general one, whose exchange header is x: the header is refused, A or R is, what is left to decide is A's room
module _ (bytes : List ℕ) (m : Message) (x : ℕ) (e : x ≡ little (part bytes (body_of m) 1)) where
  by_header : (b o : Bool) → bad_exchange x ≡ b → old_asks m.version (bit x 1) (bit x 2) ≡ o
      → exchange_of bytes m ≡ reading (first_refusal (Exchange when b at_byte body_of m ∷ OldAsks when o at_byte body_of m ∷ TooShort when no_room (length bytes) (exchanged m bytes (body_of m)) at_byte length bytes ∷ [])) (exchanged m bytes (body_of m))
  unfolding exchange_of exchange_order exchanged_by
  by_header b o f g =
      ap₂ (λ (c d : Bool). reading (first_refusal (Exchange when c at_byte body_of m ∷ OldAsks when d at_byte body_of m ∷ TooShort when no_room (length bytes) (exchanged m bytes (body_of m)) at_byte length bytes ∷ [])) (exchanged m bytes (body_of m)))
      (ap bad_exchange (sym e) ∙ f)
      (ap (λ (y : ℕ). old_asks m.version (bit y 1) (bit y 2)) (sym e) ∙ g)

  pub exchange_header_lem : bad_exchange x ≡ true → exchange_of bytes m ≡ Err (record { reason = Exchange; offset = body_of m })
  exchange_header_lem f = by_header true _ f refl

  pub exchange_asks : bad_exchange x ≡ false → old_asks m.version (bit x 1) (bit x 2) ≡ true → exchange_of bytes m ≡ Err (record { reason = OldAsks; offset = body_of m })
  exchange_asks f g = by_header false true f g

  pub exchange_fields : bad_exchange x ≡ false → old_asks m.version (bit x 1) (bit x 2) ≡ false → exchange_of bytes m ≡ fields_of bytes m
  unfolding fields_of
  exchange_fields f g = by_header false false f g

-- that room: the four bytes end before the check
room_steps : (n : ℕ) (m : Message) (bytes : List ℕ) (at x end : ℕ) → m.tunnelled ≡ false → end ≡ body_of m + 8 + 4 + check_length m
    → no_room n (exchanged_by true m bytes at x) ≡ (bit x 1 && ltb n end)
unfolding exchanged_by
room_steps n m bytes at x end t e =
    let f : body_of m + 8 + check_length m + 4 ≡ end = omega arith in
    simp (t, f)

-- what it decides: x is the exchange header, and A's four bytes would end at end
module _ (bytes : List ℕ) (m : Message) (end : ℕ) (t : m.tunnelled ≡ false) (n : end ≡ body_of m + 8 + 4 + check_length m) where
  x : ℕ
  x = little (part bytes (body_of m) 1)

  by_room : (r : Bool) → (bit x 1 && ltb (length bytes) end) ≡ r → fields_of bytes m ≡ reading (first_refusal (TooShort when r at_byte length bytes ∷ [])) (exchanged m bytes (body_of m))
  unfolding x fields_of
  by_room r h =
      ap (λ (b : Bool). reading (first_refusal (TooShort when b at_byte length bytes ∷ [])) (exchanged m bytes (body_of m)))
      (room_steps (length bytes) m bytes (body_of m) (little (part bytes (body_of m) 1)) end t n ∙ h)

  -- without A; with A and no room for its bytes; with A and room
  pub fields_bare : bit (little (part bytes (body_of m) 1)) 1 ≡ false → fields_of bytes m ≡ as_taken (exchanged m bytes (body_of m))
  unfolding x
  fields_bare h = by_room false (ap (λ (a : Bool). a && ltb (length bytes) end) h)

  pub fields_lack : bit (little (part bytes (body_of m) 1)) 1 ≡ true → length bytes < end → fields_of bytes m ≡ Err (record { reason = TooShort; offset = length bytes })
  unfolding x
  fields_lack h l = by_room true (ap (λ (a : Bool). a && ltb (length bytes) end) h ∙ lt-ltb _ _ l)

  pub fields_whole : bit (little (part bytes (body_of m) 1)) 1 ≡ true → end ≤ length bytes → fields_of bytes m ≡ as_taken (exchanged m bytes (body_of m))
  unfolding x
  fields_whole h l = by_room false (ap (λ (a : Bool). a && ltb (length bytes) end) h ∙ le-ltb _ _ l)
