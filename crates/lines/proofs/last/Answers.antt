-- The last line, from the front on. Assumes nothing.
use mathlib.Core.Path.{refl}
use native.Mathlib.Omega.{arith}
use Rattle.std.proofs.Common.{rules}
use Rattle.lines.specs.Lines.{end_word, closing, last_text}
use Rattle.lines.proofs.Texts.{closing_most, at_front}
use Rattle.lines.proofs.last.Goals as goal

pub returns : goal.returns
unfolding last_text
returns c =
    let m = closing_most end_word c.args.left in
    let f = at_front (closing end_word c.args.left) refl (omega arith) c.closing.ensures (search rules) in
    record { text = f.0; count = f.1 }
