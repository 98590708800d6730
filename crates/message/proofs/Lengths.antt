-- The lengths of the parts of a message. Assumes nothing.
use Prim.Native.Nat.{ℕ, ◌+◌}
use mathlib.Core.Path.{◌≡◌, refl}
use mathlib.Core.Bool.{Bool, true, false, cond}
use mathlib.Core.List.{List}
use native.Mathlib.Omega.{arith}
use lib.ListN.{length, length-append}
use Rattle.wire.specs.Bytes.{little_bytes}
use Rattle.wire.proofs.Digits.{length_little, length_big}
use Rattle.message.specs.Layout.{only, body_of, check_length, head_length}
use Rattle.message.specs.Value.{address_bytes, exchange_bytes, head_bytes, bytes_of}
use Rattle.message.specs.Refusals.{total}
use Rattle.message.specs.declared.value.Message.{Message}

pub length_address : (m : Message) → length (address_bytes m) ≡ body_of m
unfolding address_bytes
length_address m = simp (length-append, length_little, length_big) (omega arith)

pub length_exchange : (m : Message) → length (exchange_bytes m) ≡ 8 + only m.acknowledges 4
unfolding exchange_bytes
length_exchange m = simp (length-append, length_little) (omega arith)

length_body : (t : Bool) (m : Message) → length (cond t (little_bytes 1 1) (exchange_bytes m)) ≡ cond t 1 (8 + only m.acknowledges 4)
length_body true m = refl
length_body false m = length_exchange m

pub length_head : (m : Message) → length (head_bytes m) ≡ head_length m
unfolding head_bytes
length_head m = simp (length-append, length_address) (omega (arith, length_body m.tunnelled m))

pub total_is : (m : Message) (payload : List ℕ) → total m payload ≡ head_length m + length payload + check_length m
unfolding total
total_is m payload = refl

pub length_bytes : (m : Message) (payload check : List ℕ) → length check ≡ check_length m → length (bytes_of m payload check) ≡ total m payload
unfolding bytes_of total
length_bytes m payload check e = simp (length-append, length_head) (omega arith)
