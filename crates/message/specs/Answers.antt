-- The answers: a value, or the refusal. Assumes nothing.
use Rattle.std.specs.Prelude.{ℕ, List, ◌++◌, drop, Option, Some, None, Result, Ok, Err}
use Rattle.message.specs.Layout.{head_length}
use Rattle.message.specs.Value.{flags_of}
use Rattle.message.specs.Reasons.{number, refusal}
use Rattle.message.specs.declared.value.Message.{Message}
use Rattle.message.specs.declared.answers.Reason.{Reason}
use Rattle.message.specs.declared.answers.Refusal.{Refusal}
use Rattle.message.specs.declared.answers.Head.{Head}
use Rattle.message.specs.declared.answers.Taken.{Taken}

-- the head of a value
abbrev pub head_of : Message → Head
head_of m = record { flags = flags_of m; length = head_length m }

-- a refusal where there is one, and else this
abbrev pub unless : {A : Type 0} → Option Refusal → A → Result A Refusal
unless None a = Ok a
unless (Some r) a = Err r

-- a value with a head
abbrev pub with_head : Message → Head → Taken
with_head m h = record { message = m; head = h }

-- reading: the value with its head, or the refusal
abbrev pub as_taken : Message → Result Taken Refusal
as_taken m = Ok (with_head m (head_of m))

abbrev pub reading : Option Refusal → Message → Result Taken Refusal
reading r m = unless r (with_head m (head_of m))

-- outer reading: where the protected part starts and how long it is, or the refusal
abbrev pub outer_reading : Option Refusal → ℕ → ℕ → Result (ℕ × ℕ) Refusal
outer_reading r start len = unless r (start, len)

-- writing, framing and saving: the length, or the refusal, which points at no byte
abbrev pub writing : Option Reason → ℕ → Result ℕ Refusal
writing None len = Ok len
writing (Some reason) len = Err (refusal reason)

-- the refusal number of an answer: 0 where there is none
abbrev pub number_in : {A : Type 0} → Result A Refusal → ℕ
number_in (Ok a) = 0
number_in (Err r) = number r.reason

-- the buffer after writing, framing or saving: its first bytes replaced, as many as are written, or nothing changed
abbrev pub buffer_after : Result ℕ Refusal → List ℕ → List ℕ → List ℕ
buffer_after (Ok n) bytes old = bytes ++ drop n old
buffer_after (Err r) bytes old = old
