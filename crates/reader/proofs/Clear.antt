-- What bytes that are taken have: each condition of a refusal is false. Assumes nothing.
use Rattle.std.specs.Prelude.{Option, None, Ok}
use Prim.Native.Nat.{ℕ, ◌+◌, ◌≤◌}
use mathlib.Core.Path.{◌≡◌, refl, sym, ap, subst, ◌∙◌}
use mathlib.Core.Bool.{Bool, true, false, ◌&&◌, cond}
use mathlib.Core.List.{List, [], ◌∷◌, ◌++◌}
use native.Mathlib.Omega.{arith}
use borrow.Author.Tests.{ltb-false, eqb-true, not-false}
use lib.Dec.{ltb}
use lib.ListN.{length, get_or}
use Rattle.message.specs.Order.{Condition, condition, first_refusal, reason_of, NoneOf}
use Rattle.message.specs.Layout.{only, body_of, check_length, head_length, up_to_check}
use Rattle.message.specs.Value.{exchange_header, message_of}
use Rattle.message.specs.Refusals.{bad_exchange, old_asks, bad_packet, bad_packet_length, no_room}
use Rattle.message.specs.Answers.{head_of, with_head, reading}
use Rattle.reader.specs.Reading.{exchange_order, tunnel_order, body_order, reading_order, read_of}
use Rattle.message.specs.declared.value.Message.{Message}
use Rattle.message.specs.declared.answers.Head.{Head}
use Rattle.message.specs.declared.answers.Taken.{Taken}
use Rattle.message.specs.declared.answers.Refusal.{Refusal}
use Rattle.message.proofs.Order.{none_first}
use Rattle.message.proofs.Writings.{unless_ok}
use Rattle.outer.specs.Outer.{outer_order}
use Rattle.outer.proofs.Clear.{ClearOuter, outer_clear}

pub record ClearExchange (bytes : List ℕ) (m : Message) : Type 0 where
  pub exchange : bad_exchange (exchange_header bytes) ≡ false
  pub asks : old_asks m.version m.acknowledges m.wants ≡ false
  pub room : no_room (length bytes) m ≡ false

pub record ClearTunnel (bytes : List ℕ) (m : Message) : Type 0 where
  pub version : get_or bytes (body_of m) 0 ≡ 1
  pub packet : bad_packet (get_or bytes (body_of m + 1) 0) ≡ false
  pub sized : bad_packet_length (up_to_check m (body_of m + 1) bytes) ≡ false

pub record Clear (bytes : List ℕ) (m : Message) : Type 0 where
  pub outer : ClearOuter bytes m
  pub general : m.tunnelled ≡ false → ClearExchange bytes m
  pub tunnel : m.tunnelled ≡ true → ClearTunnel bytes m

exchange_clear : (bytes : List ℕ) (m : Message) → NoneOf (exchange_order (exchange_header bytes) (length bytes) m) → ClearExchange bytes m
unfolding exchange_order
exchange_clear bytes m h = record { exchange = h.0; asks = h.1.0; room = h.1.1.0 }

tunnel_clear : (bytes : List ℕ) (m : Message) → NoneOf (tunnel_order bytes m) → ClearTunnel bytes m
unfolding tunnel_order
tunnel_clear bytes m h = record { version = eqb-true _ _ (not-false _ h.0); packet = h.1.0; sized = h.1.1.0 }

-- where none of two orders' conditions holds, none of either's does
pub none_left : (a b : List Condition) → NoneOf (a ++ b) → NoneOf a
none_left [] b h = tt
none_left (condition n t k ∷ a) b h = (h.0, none_left a b h.1)

pub none_right : (a b : List Condition) → NoneOf (a ++ b) → NoneOf b
none_right [] b h = h
none_right (condition n t k ∷ a) b h = none_right a b h.1

pub all_clear : (bytes : List ℕ) → NoneOf (reading_order bytes) → Clear bytes (message_of bytes)
unfolding reading_order body_order
all_clear bytes h =
    let m = message_of bytes in
    let b = none_right (outer_order bytes m) (body_order bytes m) h in
    record {
      outer = outer_clear bytes m (none_left (outer_order bytes m) (body_order bytes m) h);
      general = λ (t : m.tunnelled ≡ false). exchange_clear bytes m (subst (λ (k : Bool). NoneOf (cond k (tunnel_order bytes m) (exchange_order (exchange_header bytes) (length bytes) m))) t b);
      tunnel = λ (t : m.tunnelled ≡ true). tunnel_clear bytes m (subst (λ (k : Bool). NoneOf (cond k (tunnel_order bytes m) (exchange_order (exchange_header bytes) (length bytes) m))) t b);
    }

-- an order of which no condition holds takes the value
taken_of : (r : Option Refusal) (v m : Message) (h : Head) → reading r v ≡ Ok (with_head m h) → (r ≡ None) × (v ≡ m) × (head_of v ≡ h)
taken_of r v m h e = let p = unless_ok r (with_head v (head_of v)) (with_head m h) e in (p.0, ap (λ (q : Taken). q.message) p.1, ap (λ (q : Taken). q.head) p.1)

-- a message that was taken is legal
pub taken_legal : (bytes : List ℕ) (m : Message) {h : Head} → read_of bytes ≡ Ok (with_head m h) → NoneOf (reading_order bytes)
unfolding read_of reading_order body_order
taken_legal bytes m e = none_first (reading_order bytes) (ap reason_of (taken_of _ _ m _ e).0)

-- what was taken is the value of the bytes, and nothing refuses it
pub taken : (bytes : List ℕ) (m : Message) {h : Head} → read_of bytes ≡ Ok (with_head m h) → (message_of bytes ≡ m) × Clear bytes m
unfolding read_of
taken bytes m e =
    let v = (taken_of (first_refusal (reading_order bytes)) (message_of bytes) m _ e).1 in
    (v, rw v at (all_clear bytes (taken_legal bytes m e)))

-- and the head that was given is the value's
pub head_taken : (bytes : List ℕ) (m : Message) (h : Head) → read_of bytes ≡ Ok (with_head m h) → h ≡ head_of m
unfolding read_of
head_taken bytes m h e =
    let p = taken_of (first_refusal (reading_order bytes)) (message_of bytes) m h e in
    sym p.2 ∙ ap head_of p.1

fits_by : (t a : Bool) (body check n : ℕ) → body + cond t 2 8 + check ≤ n
    → (t ≡ false → (a && ltb n (body + cond t 2 8 + check + 4)) ≡ false)
    → body + cond t 1 (8 + only a 4) + check ≤ n
fits_by true a body check n h f = omega arith
fits_by false true body check n h f = let g : body + 8 + check + 4 ≤ n = ltb-false _ _ (f refl) in omega arith
fits_by false false body check n h f = omega arith

-- the parts of bytes that were taken are within them
pub fits : (bytes : List ℕ) (m : Message) {h : Head} → read_of bytes ≡ Ok (with_head m h) → head_length m + check_length m ≤ length bytes
fits bytes m e =
    let k = (taken bytes m e).1 in
    fits_by m.tunnelled m.acknowledges _ _ _ k.outer.fixed (λ t. (k.general t).room)
