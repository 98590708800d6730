-- The rule of positions at a row: what opening a row and rolling it give. Assumes nothing.
use Rattle.std.specs.Prelude.{ℕ, ◌%◌, ◌^◌, Bool, true, cond, List, ◌==◌}
use Rattle.window.specs.Rule.{accepts, step, greatest, marks_number}
use Rattle.window.specs.Windows.{list_in}
use Rattle.window.specs.declared.windows.Window.{Window}
use Rattle.window.specs.declared.Row.{Row}
use Rattle.window.specs.declared.Rolled.{Rolled}
use Rattle.window.specs.declared.Verdict.TheVariants.{New, Duplicate}

-- the window of a row: all but its name
abbrev pub window_of : Row → Window
window_of row = record { used = row.used; highest = row.highest; marks = row.marks }

-- the positions that a row stands for: those of its window
unfoldable pub list_of : ℕ → Row → List ℕ
list_of W row = list_in W (window_of row)

-- a row in use
abbrev pub row_in_use : ℕ → ℕ → ℕ → ℕ → Row
row_in_use node key highest marks = record { used = true; node = node; key = key; highest = highest; marks = marks }

-- a row opened for a first message: no marks
abbrev pub opened : ℕ → ℕ → ℕ → Row
opened node key id = row_in_use node key id 0

-- new: the row is in use under the name it had, with this highest id and these marks
abbrev pub taken : Row → ℕ → ℕ → Rolled
taken row highest marks = record { verdict = New; row = row_in_use row.node row.key highest marks }

-- duplicate: the row is as it was
abbrev pub again : Row → Rolled
again row = record { verdict = Duplicate; row = row }

-- a new id: the highest is the greatest position modulo 2^32, and the marks are those of the list; a duplicate changes nothing
unfoldable pub judged : ℕ → Row → Bool → List ℕ → Rolled
judged W row new ps = cond new (taken row (greatest ps % 2 ^ 32) (marks_number W ps)) (again row)

-- an arriving id at a row, by the rule over B and W
unfoldable pub rolled_at : ℕ → ℕ → Row → ℕ → Rolled
rolled_at B W row id = judged W row (accepts B W (list_of W row) id) (step B W (list_of W row) id)

-- ---- the gateway's numbers

-- how many marks a row has
abbrev pub marks_held : ℕ
marks_held = 15

-- B of a plain row
abbrev pub behind_plain : ℕ
behind_plain = 15

-- B of an encrypted row
abbrev pub behind_encrypted : ℕ
behind_encrypted = 2 ^ 31

-- B by the key id: a row is plain if that is 0, and encrypted if not
unfoldable pub behind_of : ℕ → ℕ
behind_of key = cond (key == 0) behind_plain behind_encrypted

-- an arriving id at a row of the gateway
unfoldable pub rolled_of : Row → ℕ → Rolled
rolled_of row id = rolled_at (behind_of row.key) marks_held row id
