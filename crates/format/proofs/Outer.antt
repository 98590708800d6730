-- Where the protected part of a message lies. Assumes nothing.
use Rattle.std.specs.Prelude.{Option, None, Ok}
use Prim.Native.Nat.{ℕ, ◌+◌, ◌-◌, ◌≤◌}
use mathlib.Core.Path.{◌≡◌, refl, sym, ap, ◌∙◌}
use mathlib.Core.Bool.{Bool, true, false, cond}
use mathlib.Core.List.{List}
use native.Mathlib.Omega.{arith}
use lib.ListN.{length}
use Rattle.message.specs.Order.{reason_of, first}
use Rattle.message.specs.Layout.{only, encrypted, body_of, fixed_length}
use Rattle.message.specs.Value.{address_of, exchanged_by, message_of}
use Rattle.message.specs.Answers.{outer_reading}
use Rattle.message.specs.declared.answers.Refusal.{Refusal}
use Rattle.message.proofs.Writings.{unless_ok}
use Rattle.outer.specs.Outer.{outer_order, start_of}
use Rattle.outer.proofs.Beginning.{outer_fixed}

-- an answer with a part was made of no refusal and that part
pub outer_place : (r : Option Refusal) (s l start len : ℕ) → outer_reading r s l ≡ Ok (start, len) → (reason_of r ≡ None) × (s ≡ start) × (l ≡ len)
outer_place r s l start len e =
    let (none, same) = unless_ok r (s, l) (start, len) e in
    (ap reason_of none, ap (λ (p : ℕ × ℕ). p.0) same, ap (λ (p : ℕ × ℕ). p.1) same)

-- the part of len bytes from start on, for the bytes of a message
pub record Protects (bytes : List ℕ) (start len : ℕ) : Type 0 where
  -- it runs to the end
  pub whole : start + len ≡ length bytes
  -- of an encrypted message it starts after the key id, and has at least the body and the check
  pub after_key : encrypted (message_of bytes) ≡ true → start ≡ body_of (message_of bytes)
  pub general : encrypted (message_of bytes) ≡ true → (message_of bytes).tunnelled ≡ false → 28 ≤ len
  pub tunnel : encrypted (message_of bytes) ≡ true → (message_of bytes).tunnelled ≡ true → 22 ≤ len
  -- of a plain message it is empty
  pub plain : encrypted (message_of bytes) ≡ false → len ≡ 0

fixed_part : (bytes : List ℕ) → first (outer_order bytes (message_of bytes)) ≡ None → fixed_length (message_of bytes) ≤ length bytes
unfolding message_of exchanged_by address_of
fixed_part bytes z = outer_fixed bytes z

pub protects : (bytes : List ℕ) (start len : ℕ) → first (outer_order bytes (message_of bytes)) ≡ None → start_of bytes (message_of bytes) ≡ start
    → length bytes - start_of bytes (message_of bytes) ≡ len → Protects bytes start len
protects bytes start len z s l =
    record {
      whole = go (encrypted (message_of bytes)) refl;
      after_key = λ e. sym s ∙ starts true e;
      general = λ e t.
          let a = starts true e in
          let b : only (encrypted (message_of bytes)) 20 ≡ 20 = ap (λ (k : Bool). only k 20) e in
          let c : ◌≡◌ {A = ℕ} (cond (message_of bytes).tunnelled 2 8) 8 = ap {B = ℕ} (λ (k : Bool). cond k 2 8) t in
          let f = fixed in
          omega arith;
      tunnel = λ e t.
          let a = starts true e in
          let b : only (encrypted (message_of bytes)) 20 ≡ 20 = ap (λ (k : Bool). only k 20) e in
          let c : ◌≡◌ {A = ℕ} (cond (message_of bytes).tunnelled 2 8) 2 = ap {B = ℕ} (λ (k : Bool). cond k 2 8) t in
          let f = fixed in
          omega arith;
      plain = λ e. let a = starts false e in omega arith;
    }
  where
    starts : (k : Bool) → encrypted (message_of bytes) ≡ k → start_of bytes (message_of bytes) ≡ cond k (body_of (message_of bytes)) (length bytes)
    starts k e = ap (λ (b : Bool). cond b (body_of (message_of bytes)) (length bytes)) e

    fixed : fixed_length (message_of bytes) ≤ length bytes
    fixed = fixed_part bytes z

    go : (k : Bool) → encrypted (message_of bytes) ≡ k → start + len ≡ length bytes
    go true e = let a = starts true e in let f = fixed in omega arith
    go false e = let a = starts false e in omega arith
