-- The address fields have their own order, which decides where it refuses. Assumes nothing.
use Rattle.std.proofs.lemmas.Result.{err_from_is_err_and}
use Rattle.message.proofs.Logic.{so}
use Rattle.message.specs.Refusals.{address_order}
use Rattle.judge.specs.Steps.{value_order}
use Rattle.judge.proofs.Steps.{passed_on}
use Rattle.judge.proofs.judging.test_value.Goals as goal

pub returns-in_err-test_address : goal.returns-in_err-test_address
unfolding value_order
returns-in_err-test_address c =
    let p = err_from_is_err_and c.from_residual.result c.from_residual.ensures.1 in
    rw (p.1, p.2)
    (simp (so c.bad_version.ensures c.if-bad_version.false, so c.old_tunnel.ensures c.if-old_tunnel.false, so c.bad_encrypt.ensures c.if-bad_encrypt.false)
    (passed_on (address_order _) _ (so c.test_address.ensures (c.in_err-test_address.was))))
