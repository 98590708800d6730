-- What the places promise of a value: those of a value that was read say that value again. Assumes nothing.

-- Only one outcome fits `load`.
pub use Rattle.values.proofs.Outcomes.{one_load}
use Prim.Native.Nat.{ℕ, ◌≤◌}
use mathlib.Core.Path.{◌≡◌}
use mathlib.Core.Bool.{true}
use mathlib.Core.List.{List}
use borrow.Author.Tests.{lt-ltb}
use Rattle.wire.proofs.Digits.{AllBytes}
use Rattle.message.specs.Answers.{head_of, as_taken}
use Rattle.message.specs.declared.value.Message.{Message}
use Rattle.message.proofs.Low.{version_low, encrypt_low}
use Rattle.reader.specs.Reading.{read_of}
use Rattle.reader.proofs.Clear.{taken}
use Rattle.format.proofs.HeaderForth.{header_forth}
use Rattle.format.proofs.Sized.{Sized, read_is_sized}
use Rattle.places.specs.Fields.{fields_with, fields_of}
use Rattle.values.specs.Values.{fits, value_from}
use Rattle.values.proofs.Flags.{flags_back, flags_low}

-- a value whose fields are within their types, of a version and an encrypt type that can be written
pub record Typed (m : Message) : Type 0 where
  pub version : m.version ≤ 2
  pub encrypt : m.encrypt ≤ 1
  pub sized : Sized m

module _ (m : Message) (typed : Typed m) (len verdict reply : ℕ) where
  -- the places of a value say that value
  pub value_back : value_from (fields_of m (head_of m) len verdict reply) ≡ m
  unfolding fields_with value_from
  value_back =
      let h = header_forth m typed.version typed.encrypt in
      let f = flags_back m in
      λ i. record {
        version = h.version i;
        tunnelled = h.tunnelled i;
        sourced = h.sourced i;
        destined = h.destined i;
        encrypt = h.encrypt i;
        id = m.id;
        source = m.source;
        destination = m.destination;
        key = m.key;
        initiator = f.initiator i;
        acknowledges = f.acknowledges i;
        wants = f.wants i;
        kind = m.kind;
        exchange = m.exchange;
        profile = m.profile;
        acknowledged = m.acknowledged;
      }

  -- and none of them is refused
  pub value_fits : fits (fields_of m (head_of m) len verdict reply) ≡ true
  unfolding fields_with fits
  value_fits =
      let h = header_forth m typed.version typed.encrypt in
      let s = typed.sized in
      simp (lt-ltb _ _ h.low, h.clean, flags_low m, lt-ltb _ _ s.id, lt-ltb _ _ s.key, lt-ltb _ _ s.kind, lt-ltb _ _ s.exchange, lt-ltb _ _ s.profile, lt-ltb _ _ s.acknowledged)

-- Every value that reading takes is such a one.
pub read_is_typed : (bytes : List ℕ) → AllBytes bytes → (m : Message) → read_of bytes ≡ as_taken m → Typed m
read_is_typed bytes all m e =
    let k = (taken bytes m e).1.outer in
    record { version = version_low m.version k.version; encrypt = encrypt_low m.encrypt k.encrypt; sized = read_is_sized bytes all m e }
