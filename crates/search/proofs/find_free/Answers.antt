-- The first row that is free is the lowest. Assumes nothing.
use borrow.Author.Rules.{rules}
use borrow.Author.Tests.{tests}
use Rattle.table.specs.Table.{row_of, is_free, free_of}
use Rattle.search.proofs.find_free.Goals as goal

pub returns : goal.returns
unfolding free_of
returns c =
    let a = c.args in
    c.first_row.ensures (λ i. is_free (row_of a.table.now i)) (λ i b l e. search (rules, tests))
