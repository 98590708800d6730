-- Whether the acknowledgement that a message wants can be written, and why not: 22 and 19 ("Acknowledgement"). Assumes nothing.
use Rattle.std.specs.Prelude.{ℕ, Bool, false, not, cond, eqb, Result, Ok, Err}
use Rattle.message.specs.Reasons.{number, refusal}
use Rattle.message.specs.declared.value.Message.{Message}
use Rattle.message.specs.declared.answers.Reason.{Reason}
use Rattle.message.specs.declared.answers.Reason.TheVariants.{NoRoom, Unwritable}
use Rattle.message.specs.declared.answers.Refusal.{Refusal}
use Rattle.reply.specs.Acknowledgement.{acknowledging}

-- 22: it cannot be written, for a reason other than 19
abbrev pub unwritable : Result ℕ Refusal → Bool
unwritable (Ok n) = false
unwritable (Err r) = not (eqb (number r.reason) 19)

-- 19: it cannot be written for want of room
abbrev pub lacks_room : Result ℕ Refusal → Bool
lacks_room (Ok n) = false
lacks_room (Err r) = eqb (number r.reason) 19

-- why it is not written, by the number of the refusal
abbrev pub reason_by : ℕ → Reason
reason_by n = cond (eqb n 19) NoRoom Unwritable

abbrev pub reason_of : Reason → Reason
reason_of reason = reason_by (number reason)

-- the same answer with the two reasons apart, by the number of what refuses
abbrev pub reasoned_by : {E : Type 0} → (E → ℕ) → Result ℕ E → Result ℕ Refusal
reasoned_by numbered (Ok n) = Ok n
reasoned_by numbered (Err e) = Err (refusal (reason_by (numbered e)))

-- where this is a refusal, which has the number of its reason
abbrev pub reasoned : Result ℕ Refusal → Result ℕ Refusal
reasoned = reasoned_by (λ r. number r.reason)

-- what a message is answered with, by whether it wants an acknowledgement: 0 bytes where it does not
unfoldable pub planned_of : Bool → Message → ℕ → Result ℕ Refusal
planned_of wanted value room = cond wanted (reasoned (acknowledging value room)) (Ok 0)
