-- The ordinal, and what follows it for each verdict. Assumes nothing.
use mathlib.Core.Path.{sym}
use Rattle.lines.specs.Decimal.{decimal_text}
use Rattle.lines.specs.Lines.{line_text}
use Rattle.lines.proofs.Texts.{and_then}
use Rattle.lines.proofs.appends.Text.line.Goals as goal

pub returns-in-New : goal.returns-in-New
unfolding line_text
returns-in-New c = rw c.in-New.is (rw (sym c.from.ensures) (and_then (decimal_text c.args.ordinal) _ c.number-text.ensures c.closing.ensures))

pub returns-in-Duplicate : goal.returns-in-Duplicate
unfolding line_text
returns-in-Duplicate c = rw c.in-Duplicate.is (rw (sym c.from-in-Duplicate.ensures) (and_then (decimal_text c.args.ordinal) _ c.number-text.ensures c.closing-in-Duplicate.ensures))

pub returns-in-Refused : goal.returns-in-Refused
unfolding line_text
returns-in-Refused c = rw c.in-Refused.is (rw (sym c.from-in-Refused.ensures) (and_then (decimal_text c.args.ordinal) _ c.number-text.ensures c.pair.ensures))
