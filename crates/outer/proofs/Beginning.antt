-- Outer reading step by step: what it gives at each of its answers, and what an address that it gives tells. Assumes nothing.
use Rattle.std.specs.Prelude.{Option, Some, None, Ok, Err}
use Prim.Native.Nat.{ℕ, ◌<◌, ◌≤◌}
use mathlib.Core.Path.{◌≡◌, sym, ap, subst, ◌∙◌}
use mathlib.Core.Bool.{true, false}
use mathlib.Core.List.{List, ◌∷◌, ◌++◌}
use borrow.Author.Tests.{ltb-false, lt-ltb, le-ltb}
use lib.Dec.{ltb}
use lib.ListN.{length, take, drop}
use Rattle.wire.specs.Bytes.{little, front}
use Rattle.wire.proofs.Places.{place_get}
use Rattle.message.specs.Reasons.{number, refusal}
use Rattle.message.specs.Order.{Condition, ◌when◌, ◌at_byte◌, first_refusal, first, passed}
use Rattle.message.specs.Answers.{unless}
use Rattle.message.specs.Value.{bit, header, address_of, exchanged_by, message_of}
use Rattle.message.specs.Refusals.{too_long, address_order}
use Rattle.message.specs.declared.value.Message.{Message}
use Rattle.message.specs.declared.answers.Reason.{Reason}
use Rattle.message.specs.declared.answers.Reason.TheVariants.{TooLong, TooShort}
use Rattle.message.specs.declared.answers.Refusal.{Refusal}
use Rattle.message.proofs.Numbers.{number_some}
use Rattle.message.proofs.Order.{refusal_for, none_first, first_hit, first_pass, first_at_zero, passed_err, passed_ok}
use Rattle.message.proofs.Writings.{unless_ok, unless_err}
use Rattle.outer.specs.Outer.{outer_order}
use Rattle.outer.specs.Steps.{header_order, fixed_at, field_at, begun_of}
use Rattle.outer.proofs.Steps.{field_order, outer_steps, header_at_zero, fields_none, fields_place}

-- from the first condition that holds to the answer
answered : (bytes : List ℕ) (r : Option Refusal) → first_refusal (outer_order bytes (message_of bytes)) ≡ r → begun_of bytes ≡ unless r (address_of bytes (header bytes))
unfolding begun_of
answered bytes r e = ap (λ (q : Option Refusal). unless q (address_of bytes (header bytes))) e

pub begun_long : (bytes : List ℕ) → 1232 < length bytes → begun_of bytes ≡ Err (record { reason = TooLong; offset = 1232 })
begun_long bytes l = answered bytes (Some (record { reason = TooLong; offset = 1232 })) (simp (outer_steps, lt-ltb _ _ l))

pub begun_short : (bytes : List ℕ) → length bytes ≤ 1232 → length bytes < 2 → begun_of bytes ≡ Err (record { reason = TooShort; offset = length bytes })
begun_short bytes l s = answered bytes (Some (record { reason = TooShort; offset = length bytes })) (simp (outer_steps, le-ltb _ _ l, lt-ltb _ _ s))

-- from here on the header is there, and was read
module _ (bytes : List ℕ) (long : length bytes ≤ 1232) (short : 2 ≤ length bytes) (h : ℕ) (got : h ≡ little (front 2 (take 2 (drop 0 bytes)))) where
  l : too_long (length bytes) ≡ false
  l = le-ltb _ _ long

  s : ltb (length bytes) 2 ≡ false
  s = le-ltb _ _ short

  is_header : header bytes ≡ h
  is_header = sym (got ∙ ap little (place_get bytes 0 2 short))

  rest : List Condition
  rest = TooShort when ltb (length bytes) (fixed_at (header bytes)) at_byte length bytes ∷ field_order (address_of bytes (header bytes))

  to_header : first_refusal (outer_order bytes (message_of bytes)) ≡ first_refusal (header_order (header bytes) ++ rest)
  unfolding rest
  to_header = simp (outer_steps, l, s)

  pub begun_header : (reason : Reason) → passed (first (header_order h)) ≡ Err reason → begun_of bytes ≡ Err (refusal reason)
  begun_header reason e =
      let o : first_refusal (header_order (header bytes)) ≡ Some (refusal reason) =
      first_at_zero (header_order (header bytes)) (header_at_zero (header bytes)) ∙ ap refusal_for (ap (λ (x : ℕ). first (header_order x)) is_header ∙ passed_err _ reason e)
      in
      answered bytes (Some (refusal reason)) (to_header ∙ first_hit (header_order (header bytes)) rest (refusal reason) o)

  module _ (u : Unit {0}) (e : passed (first (header_order h)) ≡ Ok u) where
    to_rest : first_refusal (outer_order bytes (message_of bytes)) ≡ first_refusal rest
    to_rest = to_header ∙ first_pass (header_order (header bytes)) rest (ap (λ (x : ℕ). first (header_order x)) is_header ∙ passed_ok _ u e)

    pub begun_fixed : (n : ℕ) → n ≡ fixed_at h → length bytes < n → begun_of bytes ≡ Err (record { reason = TooShort; offset = length bytes })
    unfolding rest
    begun_fixed n a f =
        answered bytes (Some (record { reason = TooShort; offset = length bytes }))
        (to_rest ∙ simp (subst (λ (x : ℕ). ltb (length bytes) x ≡ true) (a ∙ ap fixed_at (sym is_header)) (lt-ltb _ _ f)))

    module _ (n : ℕ) (a : n ≡ fixed_at h) (f : n ≤ length bytes) (m : Message) (is : m ≡ address_of bytes h) where
      is_address : address_of bytes (header bytes) ≡ m
      is_address = ap (λ (x : ℕ). address_of bytes x) is_header ∙ sym is

      to_fields : first_refusal (outer_order bytes (message_of bytes)) ≡ first_refusal (field_order (address_of bytes (header bytes)))
      unfolding rest
      to_fields = to_rest ∙ simp (subst (λ (x : ℕ). ltb (length bytes) x ≡ false) (a ∙ ap fixed_at (sym is_header)) (le-ltb _ _ f))

      pub begun_address : (reason : Reason) (k : ℕ) → passed (first (address_order m)) ≡ Err reason → k ≡ field_at reason (bit h 9) (bit h 8)
          → begun_of bytes ≡ Err (record { reason = reason; offset = k })
      unfolding address_of
      begun_address reason k p at =
          answered bytes _ (to_fields ∙ fields_place (address_of bytes (header bytes)) reason (ap (λ (v : Message). first (address_order v)) is_address ∙ passed_err _ reason p))
          ∙ ap (λ (o : ℕ). Err (record { reason = reason; offset = o })) (ap (λ (x : ℕ). field_at reason (bit x 9) (bit x 8)) is_header ∙ sym at)

      pub begun_whole : (v : Unit {0}) → passed (first (address_order m)) ≡ Ok v → begun_of bytes ≡ Ok m
      begun_whole v p =
          answered bytes None (to_fields ∙ fields_none (address_of bytes (header bytes)) (ap (λ (x : Message). first (address_order x)) is_address ∙ passed_ok _ v p))
          ∙ ap Ok is_address

-- an address was given: no condition holds, and it is the value up to the key id
pub address_clear : (bytes : List ℕ) (m : Message) → begun_of bytes ≡ Ok m → (first_refusal (outer_order bytes (message_of bytes)) ≡ None) × (address_of bytes (header bytes) ≡ m)
unfolding begun_of
address_clear bytes m e = unless_ok _ _ m e

-- a refusal was given: it is the first condition to hold, and has a number
pub refused_first : (bytes : List ℕ) (q : Refusal) → begun_of bytes ≡ Err q → (first_refusal (outer_order bytes (message_of bytes)) ≡ Some q) × (number q.reason ≡ 0 → ⊥)
unfolding begun_of
refused_first bytes q e = (unless_err _ _ q e, number_some q.reason)

-- the fixed part is there
pub outer_fixed : (bytes : List ℕ) → first (outer_order bytes (message_of bytes)) ≡ None → fixed_at (header bytes) ≤ length bytes
unfolding outer_order message_of exchanged_by address_of
outer_fixed bytes e = ltb-false _ _ (none_first (outer_order bytes (message_of bytes)) e).1.1.1.1.1.1.0
