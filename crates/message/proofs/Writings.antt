-- What an answer tells of its refusal. Assumes nothing.
use Prim.Native.Nat.{ℕ}
use mathlib.Core.Path.{◌≡◌, refl, sym, ap}
use Rattle.std.specs.Prelude.{Option, Some, None, Result, Ok, Err, IsErrAnd}
use native.Mathlib.Omega.{arith}
use Rattle.message.proofs.Order.{none_some, same_some, refusal_for}
use Rattle.message.specs.Answers.{unless, writing}
use Rattle.message.specs.declared.answers.Reason.{Reason}
use Rattle.message.specs.declared.answers.Refusal.{Refusal}

-- that of writing points at no byte
pub at_no_byte : (reason : Option Reason) (len : ℕ) (r : Refusal) → writing reason len ≡ Err r → r.offset ≡ 0
at_no_byte None len r e = let z : ◌≡◌ {A = ℕ} 0 1 = cc in let w : ⊥ = omega arith in absurd w
at_no_byte (Some reason) len r e = sym (ap offset_of e)
  where
    offset_of : Result ℕ Refusal → ℕ
    offset_of (Ok n) = 0
    offset_of (Err q) = q.offset

-- what an answer made of a refusal tells: there was none, or it is the one
pub unless_ok : {A : Type 0} (r : Option Refusal) (a b : A) → unless r a ≡ Ok b → (r ≡ None) × (a ≡ b)
unless_ok None a b e = (refl, cc)
unless_ok (Some r) a b e = let z : ◌≡◌ {A = ℕ} 0 1 = cc in let w : ⊥ = omega arith in absurd w

pub unless_err : {A : Type 0} (r : Option Refusal) (a : A) (q : Refusal) → unless r a ≡ Err q → r ≡ Some q
unless_err None a q e = let z : ◌≡◌ {A = ℕ} 0 1 = cc in let w : ⊥ = omega arith in absurd w
unless_err (Some r) a q e = ap Some (let same : r ≡ q = cc in same)

-- an error that `?` hands on, or makes of another, is the answer's
pub handed_on : {A E : Type 0} (r : Result A E) (e : E) → IsErrAnd r (λ (given : E). given ≡ e) → r ≡ Err e
handed_on (Ok a) e h = absurd h
handed_on (Err q) e h = ap Err h

-- nor does the refusal for a reason
pub for_at_no_byte : (reason : Option Reason) (r : Refusal) → refusal_for reason ≡ Some r → r.offset ≡ 0
for_at_no_byte None r e = none_some e
for_at_no_byte (Some reason) r e = ap (λ (q : Refusal). q.offset) (sym (same_some e))
