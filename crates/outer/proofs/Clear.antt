-- What bytes that outer reading takes have: each condition of its refusals is false. Assumes nothing.
use Prim.Native.Nat.{ℕ, ◌≤◌}
use mathlib.Core.Path.{◌≡◌}
use mathlib.Core.Bool.{false}
use mathlib.Core.List.{List}
use borrow.Author.Tests.{ltb-false}
use lib.ListN.{length}
use Rattle.message.specs.Order.{NoneOf}
use Rattle.message.specs.Layout.{fixed_length}
use Rattle.message.specs.Value.{header}
use Rattle.message.specs.Refusals.{bad_version, reserved, old_tunnel, bad_encrypt, bad_key, bad_source, bad_destination}
use Rattle.message.specs.declared.value.Message.{Message}
use Rattle.outer.specs.Outer.{outer_order}

pub record ClearOuter (bytes : List ℕ) (m : Message) : Type 0 where
  pub short : length bytes ≤ 1232
  pub two : 2 ≤ length bytes
  pub version : bad_version m.version ≡ false
  pub reserved : reserved (header bytes) ≡ false
  pub tunnel : old_tunnel m.version m.tunnelled ≡ false
  pub encrypt : bad_encrypt m.encrypt ≡ false
  pub fixed : fixed_length m ≤ length bytes
  pub key : bad_key m.encrypt m.key ≡ false
  pub source : bad_source m.sourced m.source ≡ false
  pub destination : bad_destination m.destined m.destination ≡ false

pub outer_clear : (bytes : List ℕ) (m : Message) → NoneOf (outer_order bytes m) → ClearOuter bytes m
unfolding outer_order
outer_clear bytes m h =
    let h₁ = h.1 in
    let h₂ = h₁.1 in
    let h₃ = h₂.1 in
    let h₄ = h₃.1 in
    let h₅ = h₄.1 in
    let h₆ = h₅.1 in
    let h₇ = h₆.1 in
    let h₈ = h₇.1 in
    let h₉ = h₈.1 in
    record {
      short = ltb-false _ _ h.0;
      two = ltb-false _ _ h₁.0;
      version = h₂.0;
      reserved = h₃.0;
      tunnel = h₄.0;
      encrypt = h₅.0;
      fixed = ltb-false _ _ h₆.0;
      key = h₇.0;
      source = h₈.0;
      destination = h₉.0;
    }
