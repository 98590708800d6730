-- The ranges of the fields' types, and that every value that reading takes is within them. Assumes nothing.
use Prim.Native.Nat.{ℕ, suc, ◌+◌, ◌^◌, ◌<◌}
use mathlib.Core.Path.{◌≡◌, subst}
use mathlib.Core.Bool.{Bool, true, false, not}
use mathlib.Core.List.{List}
use native.Mathlib.Omega.{arith}
use lib.Dec.{eqb}
use Rattle.wire.specs.Bytes.{part, little, big}
use Rattle.wire.proofs.Digits.{AllBytes}
use Rattle.wire.proofs.Parts.{byte_low}
use Rattle.message.specs.Layout.{only, source_at, destination_at, key_at}
use Rattle.message.specs.Value.{bits, bit, header, body_by, exchange_header, address_of, exchanged_by, message_of}
use Rattle.message.specs.Answers.{as_taken}
use Rattle.message.specs.declared.value.Message.{Message}
use Rattle.reader.specs.Reading.{read_of}
use Rattle.reader.proofs.Clear.{taken}

-- each field is a number of its type; the version, the encrypt type and the flags are bounded by the refusals
pub record Sized (m : Message) : Type 0 where
  pub id : m.id < 256 ^ 4
  pub source : m.source < 256 ^ 8
  pub destination : m.destination < 256 ^ 8
  pub key : m.key < 256 ^ 2
  pub kind : m.kind < 256 ^ 1
  pub exchange : m.exchange < 256 ^ 2
  pub profile : m.profile < 256 ^ 4
  pub acknowledged : m.acknowledged < 256 ^ 4

module _ (bytes : List ℕ) (all : AllBytes bytes) where
  -- a field of so many bytes, which may be absent
  one : (b : Bool) (at : ℕ) → little (part bytes at (only b 1)) < 256 ^ 1
  one true at = omega (arith, byte_low all at)
  one false at = omega arith

  two : (b : Bool) (at : ℕ) → little (part bytes at (only b 2)) < 256 ^ 2
  two true at = omega (arith, byte_low all at, byte_low all (suc at))
  two false at = omega arith

  four : (b : Bool) (at : ℕ) → little (part bytes at (only b 4)) < 256 ^ 4
  four true at = omega (arith, byte_low all at, byte_low all (suc at), byte_low all (suc (suc at)), byte_low all (suc (suc (suc at))))
  four false at = omega arith

  node : (b : Bool) (at : ℕ) → big (part bytes at (only b 8)) < 256 ^ 8
  node true at =
      omega (
        arith,
        byte_low all at,
        byte_low all (suc at),
        byte_low all (suc (suc at)),
        byte_low all (suc (suc (suc at))),
        byte_low all (suc (suc (suc (suc at)))),
        byte_low all (suc (suc (suc (suc (suc at))))),
        byte_low all (suc (suc (suc (suc (suc (suc at)))))),
        byte_low all (suc (suc (suc (suc (suc (suc (suc at))))))),
      )
  node false at = omega arith

  -- The value that bytes say is within the types of its fields.
  pub sized_of : Sized (message_of bytes)
  unfolding message_of exchanged_by address_of
  sized_of =
      let h : ℕ = header bytes in
      let at : ℕ = body_by (header bytes) in
      record {
        id = four true 2;
        source = node (bit h 9) source_at;
        destination = node (bit h 8) (destination_at (bit h 9));
        key = two (eqb (bits h 4 4) 1) (key_at (bit h 9) (bit h 8));
        kind = one (not (bit h 10)) (at + 1);
        exchange = two (not (bit h 10)) (at + 2);
        profile = four (not (bit h 10)) (at + 4);
        acknowledged = four (bit (exchange_header bytes) 1) (at + 8);
      }

-- So is every value that reading takes.
pub read_is_sized : (bytes : List ℕ) → AllBytes bytes → (m : Message) → read_of bytes ≡ as_taken m → Sized m
read_is_sized bytes all m e = subst Sized (taken bytes m e).0 (sized_of bytes all)
