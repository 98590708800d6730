-- A value that was taken is stored with its header. Assumes nothing.
use Rattle.std.specs.Prelude.{Result}
use mathlib.Core.Path.{sym, ap, ◌∙◌}
use lib.ListN.{length}
use Rattle.message.specs.declared.answers.Taken.{Taken}
use Rattle.message.specs.declared.answers.Refusal.{Refusal}
use Rattle.message.proofs.Logic.{so}
use Rattle.format.proofs.TakenParts.{as_taken_lem, header_is}
use Rattle.places.proofs.Promises.{with_header}
use Rattle.gateway_format.specs.Messages.{read_after}
use borrow.Author.Rules.{rules}
use Rattle.gateway_format.proofs.messages.kabizarle_read.Goals as goal

pub returns-in-Ok-clause-fields : goal.returns-in-Ok-clause-fields
returns-in-Ok-clause-fields c =
    let a = c.args in
    let e = so c.read.ensures c.in-Ok.is in
    let h = header_is _ _ (as_taken_lem _ _ _ e) _ c.get.ensures (search rules) in
    c.store.ensures ∙ with_header _ _ _ _ _ _ h ∙ sym (ap (λ (r : Result Taken Refusal). read_after r (length a.bytes.now) a.fields.now) e)
