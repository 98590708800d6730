-- A packet has the length that its own header gives. So a tunnelled message that was taken has no byte after its packet, and with bytes more or
-- fewer the packet is refused. Assumes nothing.
use Rattle.std.specs.Prelude.{Option, Some, Ok, Err}
use Prim.Native.Nat.{ℕ, suc, ◌+◌, ◌≤◌, ◌<◌}
use mathlib.Core.Path.{◌≡◌, refl, sym, ap, ap₂, subst, ◌∙◌}
use mathlib.Core.Bool.{Bool, true, false, not, ◌&&◌, ◌||◌, cond}
use mathlib.Core.List.{List, [], ◌∷◌, ◌++◌}
use native.Mathlib.Omega.{arith}
use borrow.Author.Tests.{ltb-false, le-ltb, eqb-true, eqb-false, eq-eqb, ne_eqb, not-false}
use lib.Dec.{eqb, ltb}
use lib.ListN.{length, get_or, length-append, get_or-append}
use Rattle.wire.specs.Bytes.{part, big}
use Rattle.message.specs.Order.{first}
use Rattle.message.specs.Layout.{only, longest, body_of, head_length, check_length, up_to_check}
use Rattle.message.specs.Value.{bits, bytes_of}
use Rattle.message.specs.Refusals.{bad_packet, other_length, bad_packet_length, empty_packet, wrong_packet, wrong_packet_length, total}
use Rattle.message.specs.Reasons.{refusal}
use Rattle.message.specs.Answers.{as_taken, writing}
use Rattle.message.specs.declared.value.Message.{Message}
use Rattle.message.specs.declared.answers.Reason.{Reason}
use Rattle.message.specs.declared.answers.Reason.TheVariants.{PacketLength}
use Rattle.message.proofs.Logic.{or_false, and_false, when_true}
use Rattle.reader.specs.Reading.{read_of}
use Rattle.reader.proofs.Clear.{fits}
use Rattle.parts.specs.Parts.{payload_of}
use Rattle.judge.specs.Writing.{writing_order, write_of}
use Rattle.judge.proofs.Clear.{ClearWrite, written, written_sized}
use Rattle.format.proofs.Accepted.{accept}
use Rattle.format.proofs.Sized.{Sized}
use Rattle.format.proofs.TakenParts.{payload_is, payload_length}
use Rattle.format.proofs.WriteRead.{read_refused}

-- ---- whole packets

-- the upper half of a packet's first byte
abbrev family : List ℕ → ℕ
family packet = bits (get_or packet 0 0) 4 4

-- a packet that is as long as its own header says
pub data WholePacket (packet : List ℕ) : Type 0 where
  ipv4 : family packet ≡ 4 → 20 ≤ length packet → big (part packet 2 2) ≡ length packet → WholePacket packet
  ipv6 : family packet ≡ 6 → 40 ≤ length packet → big (part packet 4 2) + 40 ≡ length packet → WholePacket packet

-- 27 by the family: whether it is IPv4
abbrev length_by : Bool → List ℕ → Bool
length_by four packet = cond four (other_length 20 2 0 packet) (other_length 40 4 40 packet)

-- what such a header says
as_given : (header at uncounted : ℕ) (packet : List ℕ) → other_length header at uncounted packet ≡ false
    → (header ≤ length packet) × (big (part packet at 2) + uncounted ≡ length packet)
as_given header at uncounted packet e =
    let p = or_false (ltb (length packet) header) (not (eqb (big (part packet at 2) + uncounted) (length packet))) e in
    (ltb-false _ _ p.0, eqb-true _ _ (not-false _ p.1))

given_is : (header at uncounted : ℕ) (packet : List ℕ) → header ≤ length packet → big (part packet at 2) + uncounted ≡ length packet
    → other_length header at uncounted packet ≡ false
given_is header at uncounted packet h e = ap₂ ◌||◌ (le-ltb _ _ h) (ap not (eq-eqb _ _ e))

-- exactly the whole packets pass both 13 and 27
pub passed_is_whole : (packet : List ℕ) → bad_packet (get_or packet 0 0) ≡ false → bad_packet_length packet ≡ false → WholePacket packet
unfolding bad_packet_length
passed_is_whole packet f l = go (eqb (family packet) 4) refl l
  where
    go : (four : Bool) → eqb (family packet) 4 ≡ four → length_by four packet ≡ false → WholePacket packet
    go true e l = let (long, given) = as_given 20 2 0 packet l in ipv4 (eqb-true _ _ e) long (omega arith)
    go false e l =
        let (long, given) = as_given 40 4 40 packet l in
        ipv6 (eqb-true _ _ (subst (λ (b : Bool). (b || eqb (family packet) 6) ≡ true) e (not-false _ f))) long given

pub whole_passes : (packet : List ℕ) → WholePacket packet → (bad_packet (get_or packet 0 0) ≡ false) × (bad_packet_length packet ≡ false)
unfolding bad_packet_length
whole_passes packet (ipv4 f h e) = (simp f, simp f (given_is 20 2 0 packet h (omega arith)))
whole_passes packet (ipv6 f h e) = (simp f, simp f (given_is 40 4 40 packet h e))

-- ---- nothing after the packet

-- a tunnelled message that was taken: the head, behind it the packet, as long as its own header says, then the check, and no more
pub record NoTail (bytes : List ℕ) (m : Message) (packet : List ℕ) : Type 0 where
  pub stands : packet ≡ up_to_check m (body_of m + 1) bytes
  pub whole : WholePacket packet
  pub ends : body_of m + 1 + length packet + check_length m ≡ length bytes

pub no_tail : (bytes : List ℕ) (m : Message) → read_of bytes ≡ as_taken m → m.tunnelled ≡ true → NoTail bytes m (payload_of bytes (read_of bytes))
no_tail bytes m e t =
    let packet = payload_of bytes (read_of bytes) in
    let w = accept bytes m (length bytes) e (omega arith) in
    let k = (written m _ _ _ _ w).1 in
    let s = written_sized m _ _ _ _ w in
    let h : head_length m ≡ body_of m + 1 = ap (λ (b : Bool). body_of m + cond b 1 (8 + only m.acknowledges 4)) t in
    let l = payload_length bytes m e in
    let f = fits bytes m e in
    record {
      stands = payload_is bytes m e ∙ ap (λ (n : ℕ). up_to_check m n bytes) h;
      whole = passed_is_whole packet (and_false m.tunnelled _ k.packet t) (and_false m.tunnelled _ s t);
      ends = omega arith;
    }

-- ---- bytes more or fewer

-- two packets that agree as far as both go and are not of one length: where one has the length that it gives, the other has not
abbrev Agree : List ℕ → List ℕ → Type 0
Agree p q = (i : ℕ) → i < length p → i < length q → get_or p i 0 ≡ get_or q i 0

module _ (p q : List ℕ) (agree : Agree p q) (differ : length p ≡ length q → ⊥) where
  other_by : (header at uncounted : ℕ) → at + 2 ≤ header → other_length header at uncounted p ≡ false → other_length header at uncounted q ≡ true
  other_by header at uncounted l e = go (ltb (length q) header) refl
    where
      go : (b : Bool) → ltb (length q) header ≡ b → (b || not (eqb (big (part q at 2) + uncounted) (length q))) ≡ true
      go true s = refl
      go false s =
          let (long, given) = as_given header at uncounted p e in
          let enough : header ≤ length q = ltb-false _ _ s in
          let same : part p at 2 ≡ part q at 2 = ap₂ (λ (a b : ℕ). a ∷ b ∷ []) (agree at (omega arith) (omega arith)) (agree (suc at) (omega arith) (omega arith)) in
          ap not (ne_eqb _ _ (λ z. differ (sym given ∙ ap (λ (l : List ℕ). big l + uncounted) same ∙ z)))

  there : (four : Bool) → length_by four p ≡ false → 0 < length p
  there true e = let long = (as_given 20 2 0 p e).0 in omega arith
  there false e = let long = (as_given 40 4 40 p e).0 in omega arith

  other_of : (four : Bool) → length_by four p ≡ false → length_by four q ≡ true
  other_of true = other_by 20 2 0 (omega arith)
  other_of false = other_by 40 4 40 (omega arith)

  other_length_lem : 0 < length q → bad_packet_length p ≡ false → bad_packet_length q ≡ true
  unfolding bad_packet_length
  other_length_lem some e =
      let four = eqb (family p) 4 in
      let same : eqb (family q) 4 ≡ four = ap (λ (b : ℕ). eqb (bits b 4 4) 4) (sym (agree 0 (there four e) some)) in
      ap (λ (b : Bool). length_by b q) same ∙ other_of four e

-- a value with another packet is refused for its length: to be written with 27, whatever the room, and read with 27 at the packet's first byte
pub record LengthRefused (m : Message) (packet check : List ℕ) : Type 0 where
  pub writing : (room : ℕ) → write_of m packet check room ≡ Err (refusal PacketLength)
  pub reading : total m packet ≤ longest → read_of (bytes_of m packet check) ≡ Err (record { reason = PacketLength; offset = body_of m + 1 })

module _ (m : Message) (p q c : List ℕ) (room : ℕ) (z : Sized m) (t : m.tunnelled ≡ true) (k : ClearWrite m p c room) (some : 0 < length q) (starts : get_or p 0 0 ≡ get_or q 0 0) where
  empty : empty_packet m q ≡ false
  empty = when_true _ _ (λ (_ : m.tunnelled ≡ true). ne_eqb (length q) 0 (λ e. omega arith))

  packet : wrong_packet m q ≡ false
  packet = ap (λ (b : ℕ). m.tunnelled && bad_packet b) (sym starts) ∙ k.packet

  cleared : total m q ≤ longest → ClearWrite m q c (total m q)
  cleared short =
      record {
        version = k.version;
        tunnel = k.tunnel;
        encrypt = k.encrypt;
        key = k.key;
        source = k.source;
        destination = k.destination;
        asks = k.asks;
        empty = empty;
        packet = packet;
        address = k.address;
        exchange = k.exchange;
        check = k.check;
        short = short;
        room = omega arith;
      }

  wrong : bad_packet_length q ≡ true → wrong_packet_length m q ≡ true
  wrong e = ap₂ ◌&&◌ t e

  first_is : bad_packet_length q ≡ true → (room : ℕ) → first (writing_order m q c room) ≡ Some PacketLength
  unfolding writing_order
  first_is e room = simp (k.version, k.tunnel, k.encrypt, k.key, k.source, k.destination, k.asks, empty, packet, wrong e)

  refused : bad_packet_length q ≡ true → LengthRefused m q c
  unfolding write_of
  refused e =
      record {
        writing = λ room. ap (λ (o : Option Reason). writing o (total m q)) (first_is e room);
        reading = λ short. read_refused m q c (total m q) z (cleared short) (wrong e);
      }

module _ (m : Message) (p q c : List ℕ) (room n : ℕ) (z : Sized m) (t : m.tunnelled ≡ true) (w : write_of m p c room ≡ Ok n) where
  resized : Agree p q → (length p ≡ length q → ⊥) → 0 < length q → LengthRefused m q c
  resized agree differ some =
      let k = (written m p c room n w).1 in
      let there : length p ≡ 0 → ⊥ = eqb-false _ _ (and_false m.tunnelled _ k.empty t) in
      refused m p q c room z t k some (agree 0 (omega arith) some)
      (other_length_lem p q agree differ some (and_false m.tunnelled _ (written_sized m p c room n w) t))

-- a packet that was written, with bytes behind it; and one whose last bytes are missing
pub padded : (m : Message) (packet tail check : List ℕ) (room n : ℕ) → Sized m → m.tunnelled ≡ true → write_of m packet check room ≡ Ok n
    → 0 < length tail → LengthRefused m (packet ++ tail) check
padded m packet tail check room n z t w some =
    let l = length-append packet tail in
    resized m packet (packet ++ tail) check room n z t w (λ i h _. sym (get_or-append packet tail 0 i h)) (λ e. omega arith) (omega arith)

pub cut : (m : Message) (packet tail check : List ℕ) (room n : ℕ) → Sized m → m.tunnelled ≡ true → write_of m (packet ++ tail) check room ≡ Ok n
    → 0 < length tail → 0 < length packet → LengthRefused m packet check
cut m packet tail check room n z t w some there =
    let l = length-append packet tail in
    resized m (packet ++ tail) packet check room n z t w (λ i _ h. get_or-append packet tail 0 i h) (λ e. omega arith) there
