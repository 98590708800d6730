-- A refusal by nodes or check is the answer; else what follows answers, of the sender. Assumes nothing.
use mathlib.Core.Path.{refl}
use Rattle.message.proofs.Logic.{so}
use Rattle.message.proofs.Order.{passed_ok}
use Rattle.message.proofs.Writings.{handed_on}
use Rattle.admission.proofs.Clauses.{by_clause}
use Rattle.admission.proofs.Orders.{refuses_all}
use Rattle.reception.proofs.Orders.{not_delivered, delivers}
use Rattle.reception.proofs.receiving.deliver.Goals as goal

pub returns-in_err-test_delivery : goal.returns-in_err-test_delivery
returns-in_err-test_delivery c =
    by_clause (refuses_all _ _ _ _ _ _ _ _ _ (not_delivered _ _ c.args.taken.head _ _ (so c.test_delivery.ensures c.in_err-test_delivery.was)) (handed_on _ _ c.from_residual.ensures.1))

pub returns : goal.returns
returns c =
    let e = c.admit.ensures in
    by_clause (delivers _ _ _ _ _ _ _ _ _ _ refl c.sender_of-sender.ensures refl (passed_ok _ _ (so c.test_delivery.ensures c.in_ok-test_delivery.was)) e.result e.table e.buffer)
