-- A refused acknowledgement is the answer; else it stands in the buffer, and the row found is rolled: by the verdict it is put, or not. Assumes nothing.
use mathlib.Core.Path.{refl, ◌∙◌}
use Rattle.message.proofs.Logic.{so}
use Rattle.message.proofs.Writings.{handed_on}
use Rattle.admission.proofs.Clauses.{by_clause}
use Rattle.admission.proofs.Orders.{unanswered, is_planned, settles, puts, puts_not}
use Rattle.admission.proofs.Places.{rolls}
use Rattle.table.proofs.Ids.{rolled_ids_put}
use Rattle.table.proofs.Words.{put_within}
use Rattle.admission.proofs.admitting.admit_known.Goals as goal

pub returns-in_err-length : goal.returns-in_err-length
returns-in_err-length c =
    by_clause (unanswered _ _ _ _ _ _ _ _ _ _ c.acknowledge.ensures.0 c.in_err-length.was c.acknowledge.ensures.1 (handed_on _ _ c.from_residual.ensures.1))

pub returns-in-New : goal.returns-in-New
returns-in-New c =
    let a = c.args in
    let pre = c.requires in
    let p = is_planned _ _ a.reply.sender a.taken.message a.taken.head a.table.now _ (so c.acknowledge.ensures.0 c.in_ok-length.was) in
    let r = rolls _ _ _ _ _ _ _ pre.0 pre.1 c.row_under.ensures c.rolled-rolled.ensures in
    by_clause (settles _ a.reply.sender a.taken.message a.taken.head a.table.now a.out.now _ p _ _ _ _ _ r.0 r.1 pre.1 refl
    (c.put_ids.ensures ∙ rolled_ids_put _ _ _ _ _ _ _ pre.0 pre.1 c.row_under.ensures c.rolled-rolled.ensures ∙ put_within _ _ _ pre.1 ∙ puts _ _ _ _ c.in-New.is) c.acknowledge.ensures.1)

pub returns-in-Duplicate : goal.returns-in-Duplicate
returns-in-Duplicate c =
    let a = c.args in
    let pre = c.requires in
    let p = is_planned _ _ a.reply.sender a.taken.message a.taken.head a.table.now _ (so c.acknowledge.ensures.0 c.in_ok-length.was) in
    let r = rolls _ _ _ _ _ _ _ pre.0 pre.1 c.row_under.ensures c.rolled-rolled.ensures in
    by_clause (settles _ a.reply.sender a.taken.message a.taken.head a.table.now a.out.now _ p _ _ _ _ _ r.0 r.1 pre.1 refl (puts_not _ _ _ _ c.in-Duplicate.is) c.acknowledge.ensures.1)
