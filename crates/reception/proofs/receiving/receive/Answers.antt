-- 15, then what reading refuses, then what follows of the value that was read. Assumes nothing.
use mathlib.Core.Path.{sym, ap, ◌∙◌}
use Rattle.std.specs.Prelude.{Err}
use Rattle.message.proofs.Logic.{so}
use Rattle.message.proofs.Writings.{handed_on}
use Rattle.admission.proofs.Clauses.{by_clause}
use Rattle.reader.proofs.Clear.{taken}
use Rattle.reception.proofs.Orders.{own_refused, not_read, is_read, receives, receives_none}
use Rattle.reception.proofs.receiving.receive.Goals as goal

pub returns-then-is_nobody : goal.returns-then-is_nobody
returns-then-is_nobody c =
    let e = ap Err c.into.ensures in
    by_clause (receives_none _ _ _ _ _ _ e (e ∙ own_refused _ _ _ (so c.is_nobody.ensures c.if-is_nobody.true)))

pub returns-in_err-taken : goal.returns-in_err-taken
returns-in_err-taken c =
    let e = handed_on _ _ c.from_residual.ensures.1 in
    by_clause (receives_none _ _ _ _ _ _ e (e ∙ not_read _ _ _ (so c.is_nobody.ensures c.if-is_nobody.false) _ (so c.read.ensures c.in_err-taken.was)))

pub returns : goal.returns
returns c =
    let e = so c.read.ensures c.in_ok-taken.was in
    let own = so c.is_nobody.ensures c.if-is_nobody.false in
    let d = c.deliver.ensures in
    by_clause (receives _ _ _ _ _ _ _ _ (sym (taken _ _ e).0) (d.result ∙ is_read _ _ _ own _ _ e) d.table d.buffer)

pub deliver-requires : goal.deliver-requires
deliver-requires c = (taken _ _ (so c.read.ensures c.in_ok-taken.was)).1.outer.source
