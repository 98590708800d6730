-- Writing is judged in steps: the value, then the parts, then the room. Assumes nothing.
use Rattle.std.specs.Prelude.{Ok, Err, Option, Some, None}
use Prim.Native.Nat.{ℕ}
use mathlib.Core.Path.{◌≡◌, refl, sym, ap, ◌∙◌}
use mathlib.Core.Bool.{Bool, true, false, cond}
use mathlib.Core.List.{List, [], ◌∷◌, ◌++◌}
use lib.Dec.{ltb}
use Rattle.message.specs.Order.{Condition, condition, ◌when◌, reason_of, first, passed}
use Rattle.message.specs.Reasons.{refusal}
use Rattle.message.specs.Refusals.{total, address_order}
use Rattle.message.specs.Answers.{writing}
use Rattle.message.specs.declared.value.Message.{Message}
use Rattle.message.specs.declared.answers.Reason.{Reason}
use Rattle.message.specs.declared.answers.Reason.TheVariants.{NoRoom}
use Rattle.message.proofs.Order.{first_pass}
use Rattle.judge.specs.Writing.{writing_order, write_of}
use Rattle.judge.specs.Steps.{value_order, parts_order}

pub passed_none : (reason : Option Reason) → passed reason ≡ Ok tt → reason ≡ None
passed_none None e = refl
passed_none (Some reason) e = cc

-- a step before others: its reason decides where there is one, and else they do
pub stops : (before after : List Condition) {reason : Reason} → passed (first before) ≡ Err reason → first (before ++ after) ≡ Some reason
stops [] after e = cc
stops (condition reason true k ∷ before) after e = cc
stops (condition reason false k ∷ before) after e = stops before after e

pub clears : (before after : List Condition) → passed (first before) ≡ Ok tt → first (before ++ after) ≡ first after
clears before after e = ap reason_of (first_pass before after (passed_none _ e))

pub passed_on : (before after : List Condition) {reason : Reason} → passed (first before) ≡ Err reason → Err reason ≡ passed (first (before ++ after))
passed_on before after e = sym (ap passed (stops before after e))

module _ (m : Message) (payload check : List ℕ) (room : ℕ) where
  -- the order of writing is that of its steps
  by_steps : write_of m payload check room ≡ writing (first (value_order m ++ (parts_order m payload check ++ (NoRoom when ltb room (total m payload) ∷ [])))) (total m payload)
  unfolding write_of writing_order value_order address_order parts_order
  by_steps = refl

  pub refused_value : {reason : Reason} → passed (first (value_order m)) ≡ Err reason → Err (refusal reason) ≡ write_of m payload check room
  refused_value e = sym (by_steps ∙ ap (λ (o : Option Reason). writing o (total m payload)) (stops (value_order m) _ e))

  pub refused_parts : {reason : Reason} → passed (first (value_order m)) ≡ Ok tt → passed (first (parts_order m payload check)) ≡ Err reason
      → Err (refusal reason) ≡ write_of m payload check room
  refused_parts v e =
      sym (by_steps ∙ ap (λ (o : Option Reason). writing o (total m payload)) (clears (value_order m) _ v ∙ stops (parts_order m payload check) _ e))

  pub judged : passed (first (value_order m)) ≡ Ok tt → passed (first (parts_order m payload check)) ≡ Ok tt
      → write_of m payload check room ≡ cond (ltb room (total m payload)) (Err (refusal NoRoom)) (Ok (total m payload))
  judged v p =
      by_steps
      ∙ ap (λ (o : Option Reason). writing o (total m payload)) (clears (value_order m) _ v ∙ clears (parts_order m payload check) _ p)
      ∙ by (ltb room (total m payload))
    where
      by : (b : Bool) → writing (first (NoRoom when b ∷ [])) (total m payload) ≡ cond b (Err (refusal NoRoom)) (Ok (total m payload))
      by true = refl
      by false = refl
