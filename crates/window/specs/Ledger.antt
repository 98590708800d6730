-- The ledger of examples, P1 to P12. Where the document gives no marks (P2, P8, P9) the example has any marks m. Assumes nothing.
use Rattle.std.specs.Prelude.{◌≡◌, ℕ, ◌+◌, ◌-◌, ◌^◌, false}
use Rattle.window.specs.Rows.{row_in_use, rolled_of}
use Rattle.window.specs.declared.Row.{Row}
use Rattle.window.specs.declared.Rolled.{Rolled}
use Rattle.window.specs.declared.Verdict.{Verdict}
use Rattle.window.specs.declared.Verdict.TheVariants.{New, Duplicate}

-- an example: the row before, the arriving id, and what comes of it
pub record Example : Type 0 where
  pub before : Row
  pub id : ℕ
  pub result : Rolled

-- one whose row has this highest id and these marks afterwards
abbrev pub example : Row → ℕ → Verdict → ℕ → ℕ → Example
example row n verdict highest marks =
    record { before = row; id = n; result = record { verdict = verdict; row = row_in_use row.node row.key highest marks } }

-- mark k as a number
abbrev pub mark : ℕ → ℕ
mark k = 2 ^ (k - 1)

-- a free row
abbrev pub none : Row
none = record { used = false; node = 14; key = 0x1001; highest = 0; marks = 0 }

-- an encrypted row with this highest id and these marks
abbrev pub encrypted_row : ℕ → ℕ → Row
encrypted_row highest marks = row_in_use 14 0x1001 highest marks

-- a plain one
abbrev pub plain_row : ℕ → ℕ → Row
plain_row highest marks = row_in_use 14 0 highest marks

-- ---- the examples, in the ledger's order: row before, id, verdict, highest and marks afterwards
abbrev pub P1 : Example
P1 = example none 5 New 5 0

abbrev pub P2 : ℕ → Example
P2 m = example (encrypted_row 5 m) 5 Duplicate 5 m

abbrev pub P3 : Example
P3 = example (encrypted_row 5 0) 4 New 5 (mark 1)

abbrev pub P4 : Example
P4 = example (encrypted_row 20 0) 5 New 20 (mark 15)

abbrev pub P5 : Example
P5 = example (encrypted_row 20 0) 4 Duplicate 20 0

abbrev pub P6 : Example
P6 = example (plain_row 20 0) 4 New 4 0

abbrev pub P7 : Example
P7 = example (encrypted_row 4294967295 0) 0 New 0 (mark 1)

abbrev pub P8 : ℕ → Example
P8 m = example (encrypted_row 0 m) 2147483647 New 2147483647 0

abbrev pub P9 : ℕ → Example
P9 m = example (encrypted_row 0 m) 2147483648 Duplicate 0 m

abbrev pub P10 : Example
P10 = example (encrypted_row 10 (mark 1 + mark 3)) 13 New 13 (mark 3 + mark 4 + mark 6)

abbrev pub P11 : Example
P11 = example (encrypted_row 10 (mark 1)) 25 New 25 (mark 15)

abbrev pub P12 : Example
P12 = example (encrypted_row 10 (mark 1)) 26 New 26 0

-- an example holds where rolling its row by its id gives what it says
abbrev pub Holds : Example → Type 0
Holds e = rolled_of e.before e.id ≡ e.result
