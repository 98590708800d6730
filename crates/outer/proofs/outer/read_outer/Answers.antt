-- Of a plain message the protected part stands at the end, and is empty. Assumes nothing.
use mathlib.Core.Path.{sym}
use borrow.Author.Tests.{ne_eqb}
use Rattle.message.proofs.Logic.{so}
use Rattle.outer.proofs.Answers.{outer_plain}
use Rattle.outer.proofs.outer.read_outer.Goals as goal

pub returns : goal.returns
returns c = sym (outer_plain _ _ (so c.begin.ensures c.in_ok-m.was) (ne_eqb _ _ c.if-m-eq-ENCRYPTED.false))
