-- The address fields have their own order, which decides where it refuses. Assumes nothing.
use Rattle.std.proofs.lemmas.Result.{err_from_is_err_and}
use Rattle.message.proofs.Logic.{so}
use Rattle.reply.proofs.Steps.{refused_address}
use Rattle.reply.proofs.acknowledging.judged.Goals as goal

pub returns-in_err-test_address : goal.returns-in_err-test_address
returns-in_err-test_address c =
    let p = err_from_is_err_and c.from_residual.result c.from_residual.ensures.1 in
    rw (p.1, p.2) (refused_address _ _ (so c.bad_encrypt.ensures c.if-bad_encrypt.false) (so c.test_address.ensures c.in_err-test_address.was))
