-- Where every place is within its bound the value can be had. Assumes nothing.
use Rattle.std.specs.Prelude.{Some, None}
use Prim.Native.Nat.{ℕ}
use mathlib.Core.Path.{◌≡◌, sym, ap, ◌∙◌}
use mathlib.Core.Bool.{Bool, true, cond}
use mathlib.Core.List.{List}
use Rattle.values.specs.Values.{fits, value_from, load_of}
use Rattle.message.specs.declared.value.Message.{Message}

pub loaded : (fields : List ℕ) (m : Message) → fits fields ≡ true → m ≡ value_from fields → Some m ≡ load_of fields
unfolding load_of
loaded fields m e v = ap Some v ∙ sym (ap (λ (b : Bool). cond b (Some (value_from fields)) None) e)
