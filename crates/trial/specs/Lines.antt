-- What is printed of a tally. Assumes nothing.
use Rattle.lines.specs.declared.Figure.{Figure}
use Rattle.lines.specs.declared.Figure.TheVariants.{Marks}
use Rattle.widths.specs.declared.Tally.{Tally}

-- the number of marks, how many are new, how many are duplicates
abbrev pub tally_line : Tally → Figure
tally_line tally = Marks tally.held tally.new tally.duplicate
