-- What an answer leaves in a lent place, and the number of a verdict. Assumes nothing.
use Rattle.std.specs.Prelude.{ℕ, Result, Ok, Err}
use Rattle.message.specs.declared.answers.Refusal.{Refusal}
use Rattle.window.specs.declared.Verdict.{Verdict}

-- the count that it gives: the length of what was written, the number of rows placed; on a refusal what was there
abbrev pub count_after : Result ℕ Refusal → ℕ → ℕ
count_after (Ok count) old = count
count_after (Err r) old = old

-- the offset of the refusal; where there is none, what was there
abbrev pub offset_after : {A : Type 0} → Result A Refusal → ℕ → ℕ
offset_after (Ok a) old = old
offset_after (Err r) old = r.offset

-- the number of a verdict; 0 is none
abbrev pub verdict_number : Verdict → ℕ
verdict_number Verdict.New = 1
verdict_number Verdict.Duplicate = 2
