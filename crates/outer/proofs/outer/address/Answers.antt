-- Each field by its own contract, at its place. Assumes nothing.
use Prim.Native.Nat.{ℕ, ◌+◌}
use mathlib.Core.Path.{◌≡◌, ap, ◌∙◌}
use native.Mathlib.Omega.{arith}
use Rattle.wire.specs.Bytes.{part, little, big}
use Rattle.wire.proofs.Places.{place_get}
use Rattle.outer.proofs.Maybe.{maybe_get}
use Rattle.outer.proofs.Steps.{address_fields}
use Rattle.outer.proofs.outer.address.Goals as goal

pub returns : goal.returns
returns c =
    let bytes = c.args.bytes.now in
    let s = c.only_of-destination_at.ensures.0 in
    let d = c.only_of.ensures.0 in
    let e = c.only_of-2.ensures.0 in
    let id : c.get.result ≡ little (part bytes 2 4) = c.get.ensures ∙ ap little (place_get bytes 2 4 (omega (arith, c.requires))) in
    let source = c.get-2.ensures ∙ ap big (maybe_get bytes _ 6 8 _ s (omega (arith, c.requires, s, d, e))) in
    let destination = c.get-3.ensures ∙ ap big (maybe_get bytes _ (6 + c.only_of-destination_at.result) 8 _ d (omega (arith, c.requires, s, d, e))) in
    let key = c.get-4.ensures ∙ ap little (maybe_get bytes _ (6 + c.only_of-destination_at.result + c.only_of.result) 2 _ e (omega (arith, c.requires, s, d, e))) in
    address_fields bytes c.args.h _ _ _ _ _ _ (ap (λ (n : ℕ). 6 + n) s) (ap (λ (n : ℕ). 6 + c.only_of-destination_at.result + n) d) id source destination key
