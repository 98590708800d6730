-- What a text in a buffer grows by. Assumes nothing.
use Rattle.std.specs.Prelude.{List, ℕ, ◌≡◌, ◌+◌, length}
use Rattle.std.proofs.lemmas.List.Edits.{sets}
use Rattle.lines.specs.declared.appends.Text.{Text}

-- after some bytes more: the buffer is the same one, they stand after the text, and the other bytes stay
pub record Appends (before : Text) (bytes : List ℕ) (after : Text) : Type 0 where
  pub same : after.out.ghost_name ≡ before.out.ghost_name
  pub len : after.len ≡ before.len + length bytes
  pub out : after.out.now ≡ sets before.out.now before.len bytes
