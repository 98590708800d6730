-- Reading after outer reading: what its answer is, and which bytes are there. Assumes nothing.
use Rattle.std.specs.Prelude.{Option, Ok, Err}
use Prim.Native.Nat.{ℕ, ◌+◌, ◌≤◌}
use mathlib.Core.Path.{◌≡◌, refl, sym, ap, ap₂, subst, ◌∙◌}
use mathlib.Core.Bool.{Bool, true, false, not, ◌||◌, cond}
use mathlib.Core.List.{List}
use native.Mathlib.Omega.{arith}
use borrow.Author.Tests.{eqb-true, not-false}
use lib.Dec.{eqb}
use lib.ListN.{length}
use Rattle.wire.specs.Bytes.{part, little}
use Rattle.message.specs.Order.{first_refusal}
use Rattle.message.specs.Layout.{only, check_bytes, body_of, check_length}
use Rattle.message.specs.Value.{bit, header, body_by, exchange_header, address_of, exchanged_by, message_of}
use Rattle.message.specs.Refusals.{bad_encrypt}
use Rattle.message.specs.Answers.{reading}
use Rattle.message.specs.declared.value.Message.{Message}
use Rattle.message.specs.declared.answers.Refusal.{Refusal}
use Rattle.message.proofs.Order.{none_first, first_pass, first_hit}
use Rattle.outer.specs.Outer.{outer_order}
use Rattle.outer.specs.Steps.{fixed_at, begun_of}
use Rattle.outer.proofs.Beginning.{refused_first, outer_fixed}
use Rattle.outer.proofs.Clear.{outer_clear}
use Rattle.outer.proofs.Answers.{outer_none, outer_given, outer_body}
use Rattle.reader.specs.Reading.{exchange_order, tunnel_order, body_order, reading_order, read_of}
use Rattle.reader.specs.Steps.{exchanged, no_exchange, with_fields, exchange_of, tunnel_of}
use Rattle.reader.proofs.Steps.{address_tunnelled, address_exchanged}

-- ---- outer reading refused

pub read_refused : (bytes : List ℕ) (r : Refusal) → begun_of bytes ≡ Err r → read_of bytes ≡ Err r
unfolding read_of reading_order
read_refused bytes r e =
    ap (λ (q : Option Refusal). reading q (message_of bytes)) (first_hit (outer_order bytes (message_of bytes)) (body_order bytes (message_of bytes)) r (refused_first bytes r e).0)

-- ---- outer reading gave the value up to the key id

-- an encrypt type that was let pass is 1 where it is not 0
not_plain : (type n : ℕ) → bad_encrypt type ≡ false → only (eqb type 1) n ≡ only (not (eqb type 0)) n
not_plain type n e = go (eqb type 0) refl
  where
    go : (plain : Bool) → eqb type 0 ≡ plain → only (eqb type 1) n ≡ only (not plain) n
    go true z = ap (λ (t : ℕ). only (eqb t 1) n) (eqb-true type 0 z)
    go false z = ap (λ (b : Bool). only b n) (subst (λ (b : Bool). (b || eqb type 1) ≡ true) z (not-false _ e))

module _ (bytes : List ℕ) (m : Message) (e : begun_of bytes ≡ Ok m) where
  given : address_of bytes (header bytes) ≡ m
  given = outer_given bytes m e

  body_is : body_of m ≡ body_by (header bytes)
  body_is = outer_body bytes m e

  fixed : fixed_at (header bytes) ≤ length bytes
  fixed = outer_fixed bytes (outer_none bytes m e)

  kind : m.tunnelled ≡ bit (header bytes) 10
  unfolding address_of
  kind = ap (λ (v : Message). v.tunnelled) (sym given)

  check_is : check_length m ≡ check_length (address_of bytes (header bytes))
  check_is = ap check_length (sym given)

  pub no_fields : with_fields m (no_exchange 0) ≡ m
  unfolding address_of with_fields
  no_fields = subst (λ (v : Message). with_fields v (no_exchange 0) ≡ v) given refl

  pub check_unless_plain : check_length m ≡ only (not (eqb m.encrypt 0)) check_bytes
  unfolding message_of exchanged_by address_of
  check_unless_plain =
      let clear = outer_clear bytes (message_of bytes) (none_first (outer_order bytes (message_of bytes)) (outer_none bytes m e)) in
      subst (λ (v : Message). check_length v ≡ only (not (eqb v.encrypt 0)) check_bytes) given (not_plain (address_of bytes (header bytes)).encrypt check_bytes clear.encrypt)

  room : (tunnelled : Bool) → m.tunnelled ≡ tunnelled → body_of m + cond tunnelled 2 8 + check_length m ≤ length bytes
  unfolding address_of
  room tunnelled t =
      let f = fixed in
      let b = body_is in
      let k = check_is in
      omega (arith, ap {B = ℕ} (λ (k : Bool). cond k 2 8) (sym kind ∙ t))

  pub tunnel_room : m.tunnelled ≡ true → body_of m + 2 + check_length m ≤ length bytes
  tunnel_room = room true

  pub exchange_room : m.tunnelled ≡ false → body_of m + 8 + check_length m ≤ length bytes
  exchange_room = room false

  to_body : read_of bytes ≡ reading (first_refusal (body_order bytes (message_of bytes))) (message_of bytes)
  unfolding read_of reading_order
  to_body =
      ap (λ (r : Option Refusal). reading r (message_of bytes)) (first_pass (outer_order bytes (message_of bytes)) (body_order bytes (message_of bytes)) (outer_none bytes m e))

  by_tunnel : m.tunnelled ≡ true → reading (first_refusal (body_order bytes m)) m ≡ reading (first_refusal (tunnel_order bytes m)) m
  unfolding body_order
  by_tunnel t = ap (λ (k : Bool). reading (first_refusal (cond k (tunnel_order bytes m) (exchange_order (exchange_header bytes) (length bytes) m))) m) t

  pub read_tunnelled : m.tunnelled ≡ true → read_of bytes ≡ tunnel_of bytes m
  unfolding tunnel_of
  read_tunnelled t =
      let v : m ≡ message_of bytes = sym given ∙ address_tunnelled bytes (sym kind ∙ t) in
      to_body ∙ subst (λ (w : Message). reading (first_refusal (body_order bytes w)) w ≡ reading (first_refusal (tunnel_order bytes m)) m) v (by_tunnel t)

  value_is : m.tunnelled ≡ false → message_of bytes ≡ exchanged m bytes (body_of m)
  value_is t =
      sym (address_exchanged bytes (sym kind ∙ t))
      ∙ ap₂ (λ (v : Message) (n : ℕ). exchanged v bytes n) given (sym body_is)

  header_is : m.tunnelled ≡ false → exchange_header bytes ≡ little (part bytes (body_of m) 1)
  header_is t = ap₂ (λ (b : Bool) (n : ℕ). little (part bytes n (only (not b) 1))) (sym kind ∙ t) (sym body_is)

  by_exchange : m.tunnelled ≡ false
      → reading (first_refusal (body_order bytes (exchanged m bytes (body_of m)))) (exchanged m bytes (body_of m))
      ≡ reading (first_refusal (exchange_order (exchange_header bytes) (length bytes) (exchanged m bytes (body_of m)))) (exchanged m bytes (body_of m))
  unfolding body_order exchanged_by
  by_exchange t =
      ap (λ (k : Bool). reading (first_refusal (cond k (tunnel_order bytes (exchanged m bytes (body_of m))) (exchange_order (exchange_header bytes) (length bytes) (exchanged m bytes (body_of m))))) (exchanged m bytes (body_of m))) t

  pub read_general : m.tunnelled ≡ false → read_of bytes ≡ exchange_of bytes m
  unfolding exchange_of
  read_general t =
      to_body
      ∙ ap (λ (w : Message). reading (first_refusal (body_order bytes w)) w) (value_is t)
      ∙ by_exchange t
      ∙ ap (λ (x : ℕ). reading (first_refusal (exchange_order x (length bytes) (exchanged m bytes (body_of m)))) (exchanged m bytes (body_of m))) (header_is t)
