-- A refusal by the address fields points at its field; the check finds the others. Assumes nothing.
use mathlib.Core.Path.{sym, ap, ◌∙◌}
use Rattle.std.specs.Prelude.{Err}
use Rattle.message.proofs.Logic.{so}
use Rattle.outer.proofs.Beginning.{begun_address}
use Rattle.outer.proofs.outer.begin.Goals as goal

pub returns-in-Err : goal.returns-in-Err
returns-in-Err c =
    ap Err c.at-in-Err.ensures
    ∙ sym
    (begun_address _ c.if-bytes-gt-LONGEST.false c.if-bytes-lt-HEADER.false _ c.get-h.ensures _ (so c.test_header.ensures c.in_ok-test_header.was) _ c.fixed_length.ensures.0 c.if-bytes-fixed_length.false _
    c.address-m.ensures _ _ (so c.test_address.ensures c.in-Err.is) c.field_at.ensures)
