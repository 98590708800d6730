-- The line of a message, from the front on. Assumes nothing.
use mathlib.Core.Path.{refl}
use native.Mathlib.Omega.{arith}
use Rattle.std.proofs.Common.{rules}
use Rattle.lines.specs.Lines.{line_text}
use Rattle.lines.proofs.Texts.{line_most, at_front}
use Rattle.lines.proofs.line.Goals as goal

pub returns : goal.returns
returns c =
    let a = c.args in
    let m = line_most a.ordinal a.said in
    let f = at_front (line_text a.ordinal a.said) refl (omega arith) c.line.ensures (search rules) in
    record { text = f.0; count = f.1 }
