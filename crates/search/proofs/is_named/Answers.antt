-- Another node is another name; with this node, in-use bit and key id are what is left of it. Assumes nothing.
use mathlib.Core.Path.{ap, ◌∙◌}
use mathlib.Core.List.{[]}
use borrow.Author.Rules.{rules}
use borrow.Author.Tests.{eq-eqb, ne_eqb}
use Rattle.std.proofs.Common.{get_or}
use Rattle.table.specs.Table.{row_of, named}
use Rattle.table.proofs.ByRow.{row_by_row}
use Rattle.table.proofs.Words.{other_node, this_node}
use Rattle.search.proofs.is_named.Goals as goal

pub returns-else-words-node : goal.returns-else-words-node
unfolding row_of
returns-else-words-node c =
    let a = c.args in
    ne_eqb _ _ c.if-words-node.false
    ∙ other_node (row_of (get_or c.as_rows.result.now a.number []) 0) a.node a.key c.if-words-node.false
    ∙ ap (named a.node a.key) (row_by_row _ _ _ c.as_rows.ensures.0 c.requires)

pub returns-then-words-node : goal.returns-then-words-node
unfolding row_of
returns-then-words-node c =
    let a = c.args in
    rw c.from.ensures (
    this_node _ a.key _ (eq-eqb _ _ c.if-words-node.true) (search rules)
    ∙ ap (named a.node a.key) (row_by_row _ _ _ c.as_rows.ensures.0 c.requires)
    )
