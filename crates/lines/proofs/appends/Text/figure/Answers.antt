-- A number and a pair, or a word and a number. Assumes nothing.
use Rattle.lines.specs.Decimal.{decimal_text}
use Rattle.lines.specs.Lines.{space, pair_text, figures_text}
use Rattle.lines.proofs.Texts.{and_then}
use Rattle.lines.proofs.appends.Text.figure.Goals as goal

pub returns-in-Marks : goal.returns-in-Marks
unfolding figures_text
returns-in-Marks c =
    let m = c.in-Marks in
    rw m.is (and_then (decimal_text m.held) (pair_text space m.new m.duplicate) (rw c.from.ensures at c.number.ensures) c.pair.ensures)

pub returns-in-Least : goal.returns-in-Least
unfolding figures_text
returns-in-Least c = rw c.in-Least.is (rw c.from-in-Least.ensures at c.closing.ensures)

pub returns-in-Refused : goal.returns-in-Refused
unfolding figures_text
returns-in-Refused c = rw c.in-Refused.is (rw c.from-in-Refused.ensures at c.closing-in-Refused.ensures)
