-- The first row that has the name is the one found. Assumes nothing.
use borrow.Author.Rules.{rules}
use borrow.Author.Tests.{tests}
use Rattle.table.specs.Table.{row_of, named, find_of}
use Rattle.search.proofs.find.Goals as goal

pub returns : goal.returns
unfolding find_of
returns c =
    let a = c.args in
    c.first_row.ensures (λ i. named a.node a.key (row_of a.table.now i)) (λ i b l e. search (rules, tests))
