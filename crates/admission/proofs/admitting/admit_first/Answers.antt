-- Where no row is free the answer is by what was planned; a refused acknowledgement is the answer; else it stands in the buffer, and a row is opened. Assumes nothing.
use Prim.Native.Nat.{ℕ, ◌≤◌}
use mathlib.Core.Path.{refl, sym, subst, ◌∙◌}
use Rattle.message.proofs.Logic.{so}
use Rattle.message.proofs.Writings.{handed_on}
use Rattle.table.specs.Table.{rows}
use Rattle.admission.proofs.Clauses.{by_clause}
use Rattle.admission.proofs.Orders.{unanswered, no_row_lem, is_planned, settles}
use Rattle.admission.proofs.Places.{opens, opens_at}
use Rattle.table.proofs.Found.{found_some, found_none}
use Rattle.table.proofs.Words.{put_within}
use Rattle.admission.proofs.admitting.admit_first.Goals as goal

pub returns-in_default : goal.returns-in_default
returns-in_default c =
    let o = opens _ _ _ 0 c.requires in
    let none = found_none _ (sym c.in_default.is ∙ c.find_free.ensures) in
    by_clause (no_row_lem _ _ _ _ _ _ _ _ c.plan.ensures (subst (λ (i : ℕ). rows ≤ i) (sym o.0) none) c.full.ensures)

pub returns-in_err-length : goal.returns-in_err-length
returns-in_err-length c =
    by_clause (unanswered _ _ _ _ _ _ _ _ _ _ c.acknowledge.ensures.0 c.in_err-length.was c.acknowledge.ensures.1 (handed_on _ _ c.from_residual.ensures.1))

pub returns : goal.returns
returns c =
    let a = c.args in
    let p = is_planned _ _ a.reply.sender a.taken.message a.taken.head a.table.now _ (so c.acknowledge.ensures.0 c.in_ok-length.was) in
    let place = found_some _ _ (sym c.in-Some.is ∙ c.find_free.ensures) in
    let o = opens_at _ _ _ _ _ _ _ refl c.requires place.0 c.«open».ensures in
    by_clause (settles _ a.reply.sender a.taken.message a.taken.head a.table.now a.out.now _ p _ _ _ _ _ o.0 o.1 place.1 refl (c.put_row.ensures ∙ put_within _ _ _ place.1) c.acknowledge.ensures.1)
