-- The steps in which the code reads are the order of outer reading and the value of the definitions. Assumes nothing.
use Rattle.std.specs.Prelude.{Option, Some, None}
use Prim.Native.Nat.{ℕ, ◌+◌}
use mathlib.Core.Path.{◌≡◌, refl, ap}
use mathlib.Core.Bool.{Bool, true, false}
use mathlib.Core.List.{List, [], ◌∷◌, ◌++◌}
use lib.Dec.{eqb, ltb}
use lib.ListN.{length}
use Rattle.wire.specs.Bytes.{part, little, big}
use Rattle.message.specs.Order.{Condition, ◌when◌, ◌at_byte◌, first_refusal, first}
use Rattle.message.specs.Layout.{only, longest, source_at, destination_at, key_at}
use Rattle.message.specs.Value.{bits, bit, header, address_of, exchanged_by, message_of}
use Rattle.message.specs.Refusals.{too_long, bad_key, bad_source, bad_destination, address_order}
use Rattle.message.specs.declared.value.Message.{Message}
use Rattle.message.specs.declared.answers.Refusal.{Refusal}
use Rattle.message.specs.declared.answers.Reason.{Reason}
use Rattle.message.specs.declared.answers.Reason.TheVariants.{TooLong, TooShort, Key, Source, Destination}
use Rattle.message.proofs.Order.{none_some, same_some, at_zero, none_first, refusal_none}
use Rattle.outer.specs.Outer.{outer_order}
use Rattle.outer.specs.Steps.{header_order, fixed_at, field_at}

-- what the address fields decide, each with the place of its field
unfoldable pub field_order : Message → List Condition
field_order m =
    Key when bad_key m.encrypt m.key at_byte key_at m.sourced m.destined
    ∷ Source when bad_source m.sourced m.source at_byte source_at
    ∷ Destination when bad_destination m.destined m.destination at_byte destination_at m.sourced
    ∷ []

-- lengths, what the header decides, the fixed part, what the address fields decide
pub outer_steps : (bytes : List ℕ) → outer_order bytes (message_of bytes)
    ≡ TooLong when too_long (length bytes) at_byte longest ∷ TooShort when ltb (length bytes) 2 at_byte length bytes ∷ (header_order (header bytes) ++ (TooShort when ltb (length bytes) (fixed_at (header bytes)) at_byte length bytes ∷ field_order (address_of bytes (header bytes))))
unfolding outer_order header_order field_order address_of message_of exchanged_by
outer_steps bytes = refl

-- the offsets of what the header decides are 0
pub header_at_zero : (h : ℕ) → at_zero (header_order h) ≡ true
unfolding header_order
header_at_zero h = refl

-- what the address fields decide is what reading and writing share, each with the place of its field
pub fields_none : (m : Message) → first (address_order m) ≡ None → first_refusal (field_order m) ≡ None
unfolding field_order address_order
fields_none m e = refusal_none (field_order m) (none_first (address_order m) e)

-- a refusal by the address fields, at its place
abbrev placed : Message → Reason → Option Refusal
placed m x = Some (record { reason = x; offset = field_at x m.sourced m.destined })

pub fields_place : (m : Message) (reason : Reason) → first (address_order m) ≡ Some reason
    → first_refusal (field_order m) ≡ Some (record { reason = reason; offset = field_at reason m.sourced m.destined })
unfolding field_order address_order
fields_place m reason = go (bad_key m.encrypt m.key) (bad_source m.sourced m.source) (bad_destination m.destined m.destination)
  where
    go : (key source destination : Bool) → first (Key when key ∷ Source when source ∷ Destination when destination ∷ []) ≡ Some reason
        → first_refusal (Key when key at_byte key_at m.sourced m.destined ∷ Source when source at_byte source_at ∷ Destination when destination at_byte destination_at m.sourced ∷ [])
        ≡ Some (record { reason = reason; offset = field_at reason m.sourced m.destined })
    go true source destination h = ap (placed m) (same_some h)
    go false true destination h = ap (placed m) (same_some h)
    go false false true h = ap (placed m) (same_some h)
    go false false false h = none_some h

-- the value up to the key id, each field as the code gets it
pub address_fields : (bytes : List ℕ) (h id source destination key d k : ℕ) → d ≡ destination_at (bit h 9) → k ≡ d + only (bit h 8) 8
    → id ≡ little (part bytes 2 4) → source ≡ big (part bytes source_at (only (bit h 9) 8)) → destination ≡ big (part bytes d (only (bit h 8) 8))
    → key ≡ little (part bytes k (only (eqb (bits h 4 4) 1) 2))
    → record { version = bits h 12 4; tunnelled = bit h 10; sourced = bit h 9; destined = bit h 8; encrypt = bits h 4 4; id = id; source = source; destination = destination; key = key; initiator = false; acknowledges = false; wants = false; kind = 0; exchange = 0; profile = 0; acknowledged = 0 } ≡ address_of bytes h
unfolding address_of
address_fields bytes h id source destination key d k a b e f g i = simp (e, f, g, i, b, a)
