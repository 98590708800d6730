-- A packet that is shorter than its header is told before a byte is read; else the number read is that of its place. Assumes nothing.
use mathlib.Core.Path.{ap, ◌∙◌}
use native.Mathlib.Omega.{arith}
use borrow.Author.Tests.{le-ltb}
use Rattle.wire.specs.Bytes.{big}
use Rattle.wire.proofs.Places.{place_get}
use Rattle.conditions.proofs.has_other_length.Goals as goal

pub returns : goal.returns
returns c =
    let v = c.args in
    let long = c.if-packet-header.false in
    simp (le-ltb _ _ long, c.from.ensures ∙ c.get_big16-given.ensures ∙ ap big (place_get v.packet.now v.at 2 (omega (arith, c.requires.0, long))))
