-- The words there are the row. Assumes nothing.
use mathlib.Core.Path.{◌≡◌, ◌∙◌}
use mathlib.Core.List.{[]}
use borrow.Author.Rules.{rules}
use Rattle.std.proofs.Common.{◌<◌, get_or, length}
use native.Mathlib.Omega.{arith}
use Rattle.table.proofs.ByRow.{row_at_words}
use Rattle.table_rows.proofs.row_at.Goals as goal

pub returns-in-Some : goal.returns-in-Some
returns-in-Some c =
    let a = c.args in
    let e : c.in-Some.words.now ≡ get_or c.as_rows.result.now a.number [] = search rules in
    let l : a.number < length c.as_rows.result.now = search rules in
    c.row_from.ensures ∙ row_at_words _ _ _ _ e c.as_rows.ensures.0 (omega arith)
