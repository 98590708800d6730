-- A word, a number, and the closing one after a space. Assumes nothing.
use mathlib.Core.List.{◌++◌}
use Rattle.lines.specs.Decimal.{decimal_text}
use Rattle.lines.specs.Lines.{space, closing, pair_text}
use Rattle.lines.proofs.Texts.{and_then}
use Rattle.lines.proofs.appends.Text.pair.Goals as goal

pub returns : goal.returns
unfolding pair_text
returns c =
    let word = c.args.word.now in
    let n = decimal_text c.args.first in
    and_then (word ++ n) (closing space c.args.second) (and_then word n c.bytes.ensures c.number.ensures) c.closing.ensures
