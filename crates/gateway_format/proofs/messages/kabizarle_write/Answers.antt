-- 14 where a place does not fit; else the number is that of writing the value. Assumes nothing.
use Rattle.std.specs.Prelude.{Err}
use mathlib.Core.Path.{◌≡◌, ap, ◌∙◌}
use lib.ListN.{length}
use Rattle.message.specs.Answers.{number_in}
use Rattle.message.proofs.Logic.{so}
use Rattle.gateway_format.specs.Messages.{write_from}
use Rattle.gateway_format.proofs.Answered.{unfit, fit}
use Rattle.gateway_format.proofs.messages.kabizarle_write.Goals.{in-Some, in-None}
use Rattle.gateway_format.proofs.messages.kabizarle_write.Goals as goal

pub returns-clause-result : goal.returns-clause-result
returns-clause-result c =
    let a = c.args in
    let given : c.match-load.answer ≡ write_from a.fields.now a.payload.now a.check.now (length a.out.now) = elim c.match-load.branch [
      | in-Some w ↦ w.answer-is ∙ fit a.fields.now a.payload.now a.check.now _ _ _ (so w.in-Some.is c.load.ensures) w.write-answer.ensures.0
      | in-None w ↦ w.answer-is ∙ ap Err w.into.ensures ∙ unfit _ _ _ _ (so w.in-None.is c.load.ensures)
    ] in
    c.settle.ensures.result ∙ ap number_in given
