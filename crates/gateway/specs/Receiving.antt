-- Receiving: what it puts into the lent places; on a refusal nothing. Assumes nothing.
use Rattle.std.specs.Prelude.{ℕ, List, Result, Ok, Err}
use Rattle.message.specs.declared.answers.Refusal.{Refusal}
use Rattle.admission.specs.declared.answers.Received.{Received}
use Rattle.places.specs.Fields.{fields_of}
use Rattle.places.specs.Answers.{verdict_number}

-- the fields of the value, the verdict and the length of the reply
abbrev pub received_after : Result Received Refusal → ℕ → List ℕ → List ℕ
received_after (Ok answer) len old = fields_of answer.taken.message answer.taken.head len (verdict_number answer.verdict) answer.reply
received_after (Err r) len old = old
