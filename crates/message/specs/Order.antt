-- An order of refusals: conditions under their reasons, one after the other. Assumes nothing.
use Rattle.std.specs.Prelude.{ℕ, ◌≡◌, Bool, true, false, List, [], ◌∷◌, Option, Some, None, Result, Ok, Err}
use Rattle.message.specs.declared.answers.Reason.{Reason}
use Rattle.message.specs.declared.answers.Refusal.{Refusal}

-- a refusal's reason, whether its condition holds, and the byte that it points at
pub data Condition : Type 0 where
  condition : Reason → Bool → ℕ → Condition

infix 70 ◌when◌
-- a refusal that points at no byte: its offset is 0
abbrev pub ◌when◌ : Reason → Bool → Condition
reason when holds = condition reason holds 0

infix 68 ◌at_byte◌
-- one that points at a byte
abbrev pub ◌at_byte◌ : Condition → ℕ → Condition
(condition reason holds k) at_byte offset = condition reason holds offset

-- the refusal of the first condition that holds, if one does
abbrev pub first_refusal : List Condition → Option Refusal
first_refusal [] = None
first_refusal (condition reason true k ∷ rest) = Some (record { reason = reason; offset = k })
first_refusal (condition reason false k ∷ rest) = first_refusal rest

-- the reason alone
abbrev pub reason_of : Option Refusal → Option Reason
reason_of None = None
reason_of (Some refusal) = Some refusal.reason

abbrev pub first : List Condition → Option Reason
first order = reason_of (first_refusal order)

-- a reason is the error of a test, and none lets pass
abbrev pub passed : Option Reason → Result (Unit {0}) Reason
passed None = Ok tt
passed (Some reason) = Err reason

-- none of the conditions holds, whatever their order
abbrev pub NoneOf : List Condition → Type 0
NoneOf [] = Unit {0}
NoneOf (condition reason holds k ∷ rest) = (holds ≡ false) × NoneOf rest
