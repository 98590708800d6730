-- A line of the trial, from the front on. Assumes nothing.
use mathlib.Core.Path.{refl}
use native.Mathlib.Omega.{arith}
use Rattle.std.proofs.Common.{rules}
use Rattle.lines.specs.Lines.{figures_text}
use Rattle.lines.proofs.Texts.{figures_most, at_front}
use Rattle.lines.proofs.figures.Goals as goal

pub returns : goal.returns
returns c =
    let m = figures_most c.args.figure in
    let f = at_front (figures_text c.args.figure) refl (omega arith) c.figure.ensures (search rules) in
    record { text = f.0; count = f.1 }
