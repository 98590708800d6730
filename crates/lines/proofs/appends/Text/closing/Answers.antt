-- Three texts, one after another. Assumes nothing.
use mathlib.Core.List.{◌++◌}
use Rattle.lines.specs.Decimal.{decimal_text}
use Rattle.lines.specs.Lines.{newline, closing}
use Rattle.lines.proofs.Texts.{and_then}
use Rattle.lines.proofs.appends.Text.closing.Goals as goal

pub returns : goal.returns
unfolding closing
returns c =
    let word = c.args.word.now in
    let n = decimal_text c.args.n in
    and_then (word ++ n) newline (and_then word n c.bytes.ensures c.number.ensures) c.bytes-2.ensures
