-- Why the acknowledgement cannot be written: want of room, or another reason. Assumes nothing.
use Rattle.std.specs.Prelude.{Result, Err}
use Prim.Native.Nat.{ℕ}
use mathlib.Core.Path.{◌≡◌, sym, ap, ◌∙◌}
use mathlib.Core.Bool.{Bool, cond}
use borrow.Author.Tests.{eq-eqb, ne_eqb}
use Rattle.message.specs.Reasons.{number, refusal}
use Rattle.message.specs.declared.answers.Refusal.{Refusal}
use Rattle.message.specs.declared.answers.Reason.TheVariants.{NoRoom, Unwritable}
use Rattle.reply.specs.Planning.{reasoned}

module _ (w : Result ℕ Refusal) (r : Refusal) (e : w ≡ Err r) where
  pub for_room : number r.reason ≡ 19 → Err (refusal NoRoom) ≡ reasoned w
  for_room h = sym (ap reasoned e ∙ ap (λ (b : Bool). Err (refusal (cond b NoRoom Unwritable))) (eq-eqb (number r.reason) 19 h))

  pub for_another : (number r.reason ≡ 19 → ⊥) → Err (refusal Unwritable) ≡ reasoned w
  for_another h = sym (ap reasoned e ∙ ap (λ (b : Bool). Err (refusal (cond b NoRoom Unwritable))) (ne_eqb (number r.reason) 19 h))
