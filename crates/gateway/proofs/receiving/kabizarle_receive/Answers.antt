-- A message is stored with its verdict and its header. Assumes nothing.
use Prim.Native.Nat.{ℕ}
use mathlib.Core.Path.{sym, ap, ◌∙◌}
use lib.ListN.{length}
use Rattle.std.specs.Prelude.{Result}
use Rattle.message.specs.declared.answers.Refusal.{Refusal}
use Rattle.admission.specs.declared.answers.Received.{Received}
use Rattle.message.proofs.Logic.{so}
use Rattle.format.proofs.TakenParts.{as_taken_lem, header_is}
use Rattle.reception.proofs.WasRead.{was_read}
use Rattle.places.specs.Fields.{fields_with}
use Rattle.places.proofs.Promises.{with_header}
use Rattle.gateway.specs.Receiving.{received_after}
use borrow.Author.Rules.{rules}
use Rattle.gateway.proofs.receiving.kabizarle_receive.Goals as goal

pub returns-in-Ok-clause-fields : goal.returns-in-Ok-clause-fields
returns-in-Ok-clause-fields c =
    let a = c.args in
    let got = c.in-Ok.received in
    let e = so c.receive.ensures.result c.in-Ok.is in
    let h = header_is _ _ (as_taken_lem _ _ _ (was_read _ _ _ got e)) _ c.get.ensures (search rules) in
    c.store.ensures
    ∙ ap (λ (v : ℕ). fields_with c.get.result got.taken.message got.taken.head (length a.bytes.now) v got.reply) c.verdict_number.ensures
    ∙ with_header _ _ _ _ _ _ h
    ∙ sym (ap (λ (r : Result Received Refusal). received_after r (length a.bytes.now) a.fields.now) e)
