-- What outer reading answers where it refuses and where it gives the value up to the key id, and which bytes are there then. Assumes nothing.
use Rattle.std.specs.Prelude.{Option, None, Ok, Err}
use Prim.Native.Nat.{ℕ, ◌-◌, ◌≤◌}
use mathlib.Core.Path.{◌≡◌, sym, ap, ◌∙◌}
use mathlib.Core.Bool.{Bool, true, false, cond}
use mathlib.Core.List.{List}
use native.Mathlib.Nat.{sub_self}
use native.Mathlib.Omega.{arith}
use lib.ListN.{length}
use Rattle.message.specs.Order.{first_refusal, reason_of, first}
use Rattle.message.specs.Layout.{encrypted, body_of}
use Rattle.message.specs.Value.{header, body_by, address_of, exchanged_by, message_of}
use Rattle.message.specs.Answers.{outer_reading}
use Rattle.message.specs.declared.value.Message.{Message}
use Rattle.message.specs.declared.answers.Refusal.{Refusal}
use Rattle.outer.specs.Outer.{outer_order, start_of, outer_of}
use Rattle.outer.specs.Steps.{begun_of}
use Rattle.outer.proofs.Beginning.{address_clear, refused_first, outer_fixed}

pub outer_refused : (bytes : List ℕ) (r : Refusal) → begun_of bytes ≡ Err r → outer_of bytes ≡ Err r
unfolding outer_of
outer_refused bytes r e =
    ap (λ (q : Option Refusal). outer_reading q (start_of bytes (message_of bytes)) (length bytes - start_of bytes (message_of bytes))) (refused_first bytes r e).0

-- the value up to the key id was given: it agrees with the whole value on what the length and the start go by
module _ (bytes : List ℕ) (m : Message) (e : begun_of bytes ≡ Ok m) where
  none_refused : first_refusal (outer_order bytes (message_of bytes)) ≡ None
  none_refused = (address_clear bytes m e).0

  pub outer_none : first (outer_order bytes (message_of bytes)) ≡ None
  outer_none = ap reason_of none_refused

  pub outer_given : address_of bytes (header bytes) ≡ m
  outer_given = (address_clear bytes m e).1

  start_is : start_of bytes (message_of bytes) ≡ start_of bytes m
  unfolding message_of exchanged_by address_of
  start_is = ap (λ (v : Message). start_of bytes v) outer_given

  outer_taken : outer_of bytes ≡ Ok (start_of bytes m, (length bytes - start_of bytes m))
  unfolding outer_of
  outer_taken =
      ap (λ (q : Option Refusal). outer_reading q (start_of bytes (message_of bytes)) (length bytes - start_of bytes (message_of bytes))) none_refused
      ∙ ap (λ (s : ℕ). Ok (s, length bytes - s)) start_is

  pub outer_encrypted : encrypted m ≡ true → outer_of bytes ≡ Ok (body_of m, length bytes - body_of m)
  outer_encrypted t =
      outer_taken
      ∙ ap (λ (b : Bool). Ok (cond b (body_of m) (length bytes), length bytes - cond b (body_of m) (length bytes))) t

  pub outer_plain : encrypted m ≡ false → outer_of bytes ≡ Ok (length bytes, 0)
  outer_plain t =
      outer_taken
      ∙ ap (λ (b : Bool). Ok (cond b (body_of m) (length bytes), length bytes - cond b (body_of m) (length bytes))) t
      ∙ ap (λ (n : ℕ). Ok (length bytes, n)) (sub_self (length bytes))

  pub outer_body : body_of m ≡ body_by (header bytes)
  unfolding address_of
  outer_body = ap body_of (sym outer_given)

  pub outer_room : body_of m ≤ length bytes
  outer_room = let f = outer_fixed bytes outer_none in let b = outer_body in omega arith
