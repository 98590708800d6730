-- What a message is answered with is a length or a refusal; the buffer after it, by whether it wants an acknowledgement. Assumes nothing.
use Rattle.std.specs.Prelude.{Result, Ok, Err}
use Prim.Native.Nat.{ℕ}
use mathlib.Core.Path.{◌≡◌, refl, sym, ap, ◌∙◌}
use mathlib.Core.Bool.{Bool, true, false, cond}
use mathlib.Core.List.{List}
use native.Mathlib.Omega.{arith}
use lib.ListN.{length}
use Rattle.message.specs.Answers.{buffer_after}
use Rattle.message.specs.declared.value.Message.{Message}
use Rattle.message.specs.declared.answers.Refusal.{Refusal}
use Rattle.reply.specs.Acknowledgement.{acknowledgement_bytes, acknowledging}
use Rattle.reply.specs.Planning.{reasoned, planned_of}
use Rattle.admission.specs.Acknowledgement.{answered_by}

pub differ : {A : Type 0} {n : ℕ} {r : Refusal} → Ok n ≡ Err r → A
differ e = let z : ◌≡◌ {A = ℕ} 0 1 = cc in let w : ⊥ = omega arith in absurd w

module _ (wanted : Bool) (value : Message) where
  -- what the writer, whose answer is w, leaves in it
  pub stored : (old : List ℕ) (w : Result ℕ Refusal) → wanted ≡ true → w ≡ acknowledging value (length old) → buffer_after w (acknowledgement_bytes value) old ≡ answered_by wanted value old
  unfolding answered_by
  stored old w t e =
      ap (λ (a : Result ℕ Refusal). buffer_after a (acknowledgement_bytes value) old) e
      ∙ ap (λ (b : Bool). cond b (buffer_after (acknowledging value (length old)) (acknowledgement_bytes value) old) old) (sym t)

  pub unstored : (old : List ℕ) → wanted ≡ false → old ≡ answered_by wanted value old
  unfolding answered_by
  unstored old t = ap (λ (b : Bool). cond b (buffer_after (acknowledging value (length old)) (acknowledgement_bytes value) old) old) (sym t)

  -- what the message is answered with
  pub planned : (room : ℕ) (w a : Result ℕ Refusal) → wanted ≡ true → w ≡ acknowledging value room → a ≡ reasoned w → a ≡ planned_of wanted value room
  unfolding planned_of
  planned room w a t e f = f ∙ ap reasoned e ∙ ap (λ (b : Bool). cond b (reasoned (acknowledging value room)) (Ok 0)) (sym t)

  pub unplanned : (room : ℕ) → wanted ≡ false → Ok 0 ≡ planned_of wanted value room
  unfolding planned_of
  unplanned room t = ap (λ (b : Bool). cond b (reasoned (acknowledging value room)) (Ok 0)) (sym t)

  -- a refusal leaves it as it was
  pub unwritten : (old : List ℕ) (r : Refusal) → planned_of wanted value (length old) ≡ Err r → answered_by wanted value old ≡ old
  unfolding planned_of answered_by
  unwritten old r = go wanted (acknowledging value (length old))
    where
      go : (w : Bool) (a : Result ℕ Refusal) → cond w (reasoned a) (Ok 0) ≡ Err r → cond w (buffer_after a (acknowledgement_bytes value) old) old ≡ old
      go true (Ok n) e = differ e
      go true (Err q) e = refl
      go false a e = refl
