-- The row found is put as zeros; where there is none nothing is put. Assumes nothing.
use mathlib.Core.Path.{refl, sym, ap, ◌∙◌}
use Rattle.std.specs.Prelude.{Err}
use Rattle.table.proofs.Found.{found_some, found_none}
use Rattle.reception.proofs.Clauses.{by_clause}
use Rattle.reception.proofs.Removes.{removes, removes_none}
use Rattle.reception.proofs.removing.remove.Goals as goal

pub returns-in_default : goal.returns-in_default
returns-in_default c =
    let e = removes_none _ _ _ _ refl (found_none _ (sym c.in_default.is ∙ c.find.ensures)) in
    by_clause (ap Err c.into.ensures ∙ e.0, e.1)

pub returns : goal.returns
returns c =
    let place = found_some _ _ (sym c.in-Some.is ∙ c.find.ensures) in
    by_clause (removes _ _ _ _ place.0 _ place.1 c.put_row.ensures)
