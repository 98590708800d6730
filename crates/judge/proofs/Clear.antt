-- What a value that is written has: each condition of a refusal is false. That of 27 stands apart, so that laws can speak of a packet that has another
-- length than its header gives. Assumes nothing.
use Rattle.std.specs.Prelude.{Ok}
use Prim.Native.Nat.{ℕ, ◌≤◌}
use mathlib.Core.Path.{◌≡◌, refl}
use mathlib.Core.Bool.{true, false, not, ◌||◌}
use mathlib.Core.List.{List, [], ◌∷◌}
use borrow.Author.Tests.{ltb-false, eqb-true, not-false}
use lib.Dec.{eqb}
use lib.ListN.{length}
use Rattle.message.specs.Order.{Condition, condition, first, NoneOf}
use Rattle.message.specs.Layout.{check_length}
use Rattle.message.specs.Refusals.{bad_version, old_tunnel, bad_encrypt, bad_key, bad_source, bad_destination, old_asks, empty_packet, wrong_packet, wrong_packet_length, stray_address, stray_exchange, stray, total}
use Rattle.message.specs.Answers.{writing}
use Rattle.judge.specs.Writing.{writing_order, write_of}
use Rattle.message.specs.declared.value.Message.{Message}
use Rattle.message.proofs.Logic.{or_false}

pub record ClearWrite (m : Message) (p c : List ℕ) (r : ℕ) : Type 0 where
  pub version : bad_version m.version ≡ false
  pub tunnel : old_tunnel m.version m.tunnelled ≡ false
  pub encrypt : bad_encrypt m.encrypt ≡ false
  pub key : bad_key m.encrypt m.key ≡ false
  pub source : bad_source m.sourced m.source ≡ false
  pub destination : bad_destination m.destined m.destination ≡ false
  pub asks : old_asks m.version m.acknowledges m.wants ≡ false
  pub empty : empty_packet m p ≡ false
  pub packet : wrong_packet m p ≡ false
  pub address : stray_address m ≡ false
  pub exchange : stray_exchange m ≡ false
  pub check : length c ≡ check_length m
  pub short : total m p ≤ 1232
  pub room : total m p ≤ r

stray_clear : (m : Message) (check : List ℕ) → stray m check ≡ false → (stray_address m ≡ false) × (stray_exchange m ≡ false) × (length check ≡ check_length m)
unfolding stray
stray_clear m check e =
    let a = or_false (stray_address m || stray_exchange m) (not (eqb (length check) (check_length m))) e in
    let b = or_false (stray_address m) (stray_exchange m) a.0 in
    (b.0, b.1, eqb-true _ _ (not-false _ a.1))

pub write_clear : (m : Message) (payload check : List ℕ) (room : ℕ) → NoneOf (writing_order m payload check room) → ClearWrite m payload check room
unfolding writing_order
write_clear m payload check r (version, (tunnel, (encrypt, (key, (source, (destination, (asks, (empty, (packet, (_, (kept, (long, (lack, _))))))))))))) =
    let (address, exchange, checked) = stray_clear m check kept in
    record {
      version = version;
      tunnel = tunnel;
      encrypt = encrypt;
      key = key;
      source = source;
      destination = destination;
      asks = asks;
      empty = empty;
      packet = packet;
      address = address;
      exchange = exchange;
      check = checked;
      short = ltb-false _ _ long;
      room = ltb-false _ _ lack;
    }

length_clear : (m : Message) (payload check : List ℕ) (room : ℕ) → NoneOf (writing_order m payload check room) → wrong_packet_length m payload ≡ false
unfolding writing_order
length_clear m payload check room (_, (_, (_, (_, (_, (_, (_, (_, (_, (sized, _)))))))))) = sized

-- a value that was written: nothing refuses it, and the length is that of the message
written_of : (order : List Condition) (t n : ℕ) → writing (first order) t ≡ Ok n → NoneOf order × (t ≡ n)
written_of [] t n e = (tt, cc)
written_of (condition reason true k ∷ order) t n e = cc
written_of (condition reason false k ∷ order) t n e = let w = written_of order t n e in ((refl, w.0), w.1)

pub written_legal : (m : Message) (payload check : List ℕ) (room n : ℕ) → write_of m payload check room ≡ Ok n → NoneOf (writing_order m payload check room)
unfolding write_of
written_legal m payload check room n e = (written_of (writing_order m payload check room) _ n e).0

pub written : (m : Message) (payload check : List ℕ) (room n : ℕ) → write_of m payload check room ≡ Ok n → (total m payload ≡ n) × ClearWrite m payload check room
unfolding write_of
written m payload check room n e =
    ((written_of (writing_order m payload check room) _ n e).1, write_clear m payload check room (written_legal m payload check room n e))

pub written_sized : (m : Message) (payload check : List ℕ) (room n : ℕ) → write_of m payload check room ≡ Ok n → wrong_packet_length m payload ≡ false
written_sized m payload check room n e = length_clear m payload check room (written_legal m payload check room n e)
