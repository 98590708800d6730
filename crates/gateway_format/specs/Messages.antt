-- Messages: what outer reading, reading and writing put into the lent places; on a refusal nothing. Assumes nothing.
use Rattle.std.specs.Prelude.{ℕ, List, [], ◌∷◌, Option, Some, None, Result, Ok, Err}
use Rattle.message.specs.Reasons.{refusal}
use Rattle.message.specs.declared.value.Message.{Message}
use Rattle.message.specs.declared.answers.Taken.{Taken}
use Rattle.message.specs.declared.answers.Refusal.{Refusal}
use Rattle.message.specs.declared.answers.Reason.TheVariants.{Stray}
use Rattle.judge.specs.Writing.{write_of}
use Rattle.places.specs.Fields.{fields_of}
use Rattle.values.specs.Values.{load_of}

-- outer reading: where the protected part starts, and its length
abbrev pub part_after : Result (ℕ × ℕ) Refusal → List ℕ → List ℕ
part_after (Ok (start, len)) old = start ∷ len ∷ []
part_after (Err r) old = old

-- reading: the fields of the value, with no verdict and no reply
abbrev pub read_after : Result Taken Refusal → ℕ → List ℕ → List ℕ
read_after (Ok taken) len old = fields_of taken.message taken.head len 0 0
read_after (Err r) len old = old

-- writing: 14 for a number that its field cannot hold, before all else; then as writing the value answers
abbrev pub write_loaded : Option Message → List ℕ → List ℕ → ℕ → Result ℕ Refusal
write_loaded (Some m) payload check room = write_of m payload check room
write_loaded None payload check room = Err (refusal Stray)

unfoldable pub write_from : List ℕ → List ℕ → List ℕ → ℕ → Result ℕ Refusal
write_from fields payload check room = write_loaded (load_of fields) payload check room
