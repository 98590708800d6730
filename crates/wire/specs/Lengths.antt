-- A number has as many bytes as one asks for. Assumes nothing.
use Rattle.std.specs.Prelude.{ℕ, zero, suc, ◌≡◌, refl, length}
use mathlib.Core.Path.{ap, ◌∙◌}
use lib.ListN.{length-reverse}
use Rattle.wire.specs.Bytes.{little_bytes, big_bytes}

pub length_little : (w x : ℕ) → length (little_bytes w x) ≡ w
length_little zero x = refl
length_little (suc w) x = ap suc (length_little w _)

pub length_big : (w x : ℕ) → length (big_bytes w x) ≡ w
length_big w x = length-reverse (little_bytes w x) ∙ length_little w x
