-- What writing from places answers. Assumes nothing.
use Rattle.std.specs.Prelude.{Option, Some, None, Result, Err}
use Prim.Native.Nat.{ℕ}
use mathlib.Core.Path.{◌≡◌, ap, ◌∙◌}
use mathlib.Core.Bool.{Bool, true, false, cond}
use mathlib.Core.List.{List}
use native.Mathlib.Omega.{arith}
use Rattle.message.specs.declared.value.Message.{Message}
use Rattle.message.specs.declared.answers.Reason.TheVariants.{Stray}
use Rattle.message.specs.declared.answers.Refusal.{Refusal}
use Rattle.message.specs.Reasons.{refusal}
use Rattle.judge.specs.Writing.{write_of}
use Rattle.values.specs.Values.{fits, value_from, load_of}
use Rattle.gateway_format.specs.Messages.{write_loaded, write_from}

module _ (fields payload check : List ℕ) (room : ℕ) where
  -- 14, before all else
  pub unfit : None ≡ load_of fields → Err (refusal Stray) ≡ write_from fields payload check room
  unfolding write_from
  unfit e = ap (λ (l : Option Message). write_loaded l payload check room) e

  -- else as writing the value answers
  pub fit : (given : Result ℕ Refusal) (m : Message) → Some m ≡ load_of fields → given ≡ write_of m payload check room → given ≡ write_from fields payload check room
  unfolding write_from
  fit given m e w = w ∙ ap (λ (l : Option Message). write_loaded l payload check room) e

-- what was loaded is the value that the places say
pub is_value : (fields : List ℕ) (m : Message) → Some m ≡ load_of fields → m ≡ value_from fields
unfolding load_of
is_value fields m = go (fits fields)
  where
    go : (b : Bool) → Some m ≡ cond b (Some (value_from fields)) None → m ≡ value_from fields
    go true e = cc
    go false e = let z : ◌≡◌ {A = ℕ} 0 1 = cc in let w : ⊥ = omega arith in absurd w
