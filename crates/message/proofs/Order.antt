-- Laws of an order of refusals, whatever its conditions. Assumes nothing.
use Prim.Native.Nat.{ℕ, zero, suc}
use mathlib.Core.Path.{◌≡◌, refl, sym, ap, ◌∙◌}
use mathlib.Core.Bool.{Bool, true, false}
use mathlib.Core.List.{List, [], ◌∷◌, ◌++◌}
use Rattle.std.specs.Prelude.{Option, Some, None, Ok, Err}
use native.Mathlib.Omega.{arith}
use Rattle.message.proofs.Logic.{clash}
use Rattle.message.specs.Reasons.{refusal}
use Rattle.message.specs.Order.{Condition, condition, first_refusal, reason_of, first, passed, NoneOf}
use Rattle.message.specs.declared.answers.Reason.{Reason}
use Rattle.message.specs.declared.answers.Refusal.{Refusal}

-- none is not some
pub none_some : {A B : Type 0} {x : A} → None ≡ Some x → B
none_some e = let z : ◌≡◌ {A = ℕ} 0 1 = cc in let w : ⊥ = omega arith in absurd w

pub same_some : {A : Type 0} {x y : A} → Some x ≡ Some y → x ≡ y
same_some e = cc

-- no refusal exactly when there is no reason for one
pub no_reason : (r : Option Refusal) → reason_of r ≡ None → r ≡ None
no_reason None e = refl
no_reason (Some r) e = none_some (sym e)

-- every offset is 0, so the refusal's is
abbrev pub at_zero : List Condition → Bool
at_zero [] = true
at_zero (condition reason holds zero ∷ rest) = at_zero rest
at_zero (condition reason holds (suc k) ∷ rest) = false

-- the refusal for a reason, if there is one
abbrev pub refusal_for : Option Reason → Option Refusal
refusal_for None = None
refusal_for (Some reason) = Some (refusal reason)

pub first_at_zero : (order : List Condition) → at_zero order ≡ true → first_refusal order ≡ refusal_for (first order)
first_at_zero [] e = refl
first_at_zero (condition reason true zero ∷ rest) e = refl
first_at_zero (condition reason false zero ∷ rest) e = first_at_zero rest e
first_at_zero (condition reason holds (suc k) ∷ rest) e = clash false e refl

-- no refusal exactly when none of the conditions holds
pub none_first : (order : List Condition) → first order ≡ None → NoneOf order
none_first [] e = tt
none_first (condition reason true at ∷ rest) e = none_some (sym e)
none_first (condition reason false at ∷ rest) e = (refl, none_first rest e)

pub refusal_none : (order : List Condition) → NoneOf order → first_refusal order ≡ None
refusal_none [] h = refl
refusal_none (condition reason true k ∷ rest) h = clash true refl h.0
refusal_none (condition reason false k ∷ rest) h = refusal_none rest h.1

pub first_none : (order : List Condition) → NoneOf order → first order ≡ None
first_none order h = ap reason_of (refusal_none order h)

-- the refusal's condition holds, with its byte, and none of those before it does
pub record FirstToHold (r : Refusal) (order : List Condition) : Type 0 where
  pub before : List Condition
  pub after : List Condition
  pub place : order ≡ before ++ condition r.reason true r.offset ∷ after
  pub clear : NoneOf before

-- a refusal is given exactly when its condition is the first in the order to hold
pub holds_first : (r : Refusal) (order : List Condition) → first_refusal order ≡ Some r → FirstToHold r order
holds_first r [] e = none_some e
holds_first r (condition reason true k ∷ rest) e =
    record { before = []; after = rest; place = ap (λ (q : Refusal). condition q.reason true q.offset ∷ rest) (same_some e); clear = tt }
holds_first r (condition reason false k ∷ rest) e =
    let w = holds_first r rest e in
    record {
      before = condition reason false k ∷ w.before;
      after = w.after;
      place = ap (λ (l : List Condition). condition reason false k ∷ l) w.place;
      clear = (refl, w.clear);
    }

-- conditions of which none holds stand before others as if they were not there
pub first_miss : (before after : List Condition) → NoneOf before → first_refusal (before ++ after) ≡ first_refusal after
first_miss [] after h = refl
first_miss (condition reason true k ∷ rest) after h = clash true refl h.0
first_miss (condition reason false k ∷ rest) after h = first_miss rest after h.1

pub first_pass : (before after : List Condition) → first before ≡ None → first_refusal (before ++ after) ≡ first_refusal after
first_pass before after e = first_miss before after (none_first before e)

-- and the first of those before decides where there is one
pub first_hit : (before after : List Condition) (r : Refusal) → first_refusal before ≡ Some r → first_refusal (before ++ after) ≡ Some r
first_hit [] after r e = none_some e
first_hit (condition reason true k ∷ rest) after r e = e
first_hit (condition reason false k ∷ rest) after r e = first_hit rest after r e

pub first_holds : (r : Refusal) (order : List Condition) → FirstToHold r order → first_refusal order ≡ Some r
first_holds r order w =
    ap first_refusal w.place
    ∙ first_miss w.before (condition r.reason true r.offset ∷ w.after) w.clear

-- where every offset is 0 the reason tells the refusal
pub reason_first : (reason : Reason) (order : List Condition) → at_zero order ≡ true → first order ≡ Some reason → FirstToHold (refusal reason) order
reason_first reason order b e = holds_first (refusal reason) order (first_at_zero order b ∙ ap refusal_for e)

pub first_reason : (reason : Reason) (order : List Condition) → FirstToHold (refusal reason) order → first order ≡ Some reason
first_reason reason order w = ap reason_of (first_holds (refusal reason) order w)

-- a test's error is its reason, and it lets pass where there is none
pub passed_err : (reason : Option Reason) (r : Reason) → passed reason ≡ Err r → reason ≡ Some r
passed_err None r e = let z : ◌≡◌ {A = ℕ} 0 1 = cc in let w : ⊥ = omega arith in absurd w
passed_err (Some reason) r e = ap Some (let same : reason ≡ r = cc in same)

pub passed_ok : (reason : Option Reason) (u : Unit {0}) → passed reason ≡ Ok u → reason ≡ None
passed_ok None u e = refl
passed_ok (Some reason) u e = let z : ◌≡◌ {A = ℕ} 0 1 = cc in let w : ⊥ = omega arith in absurd w
