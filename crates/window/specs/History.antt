-- What the history of one row comes to: ids arrive one after the other. Assumes nothing.
use Rattle.std.specs.Prelude.{◌≡◌, ℕ, ◌%◌, ◌^◌, ◌<◌, Bool, true, false, List, [], ◌∷◌}
use Rattle.window.specs.Rule.{member, accepts, step, accepted, greatest, marks_number}
use Rattle.window.specs.Rows.{window_of}
use Rattle.window.specs.declared.Row.{Row}
use Rattle.window.specs.declared.windows.Window.{Window}
use Rattle.window.specs.declared.Rolled.{Rolled}
use Rattle.window.specs.declared.Verdict.{Verdict}
use Rattle.window.specs.declared.Verdict.TheVariants.{New, Duplicate}

-- every id is a number of 32 bits
abbrev pub Ids : List ℕ → Type 0
Ids [] = Unit {0}
Ids (id ∷ ids) = (id < 2 ^ 32) × Ids ids

-- the row after the ids, by a function that rolls a row
unfoldable pub row_after : (Row → ℕ → Rolled) → Row → List ℕ → Row
row_after roll row [] = row
row_after roll row (id ∷ ids) = row_after roll (roll row id).row ids

-- the verdicts that it gives on the way
unfoldable pub verdicts_of : (Row → ℕ → Rolled) → Row → List ℕ → List Verdict
verdicts_of roll row [] = []
verdicts_of roll row (id ∷ ids) = (roll row id).verdict ∷ verdicts_of roll (roll row id).row ids

-- the verdict's name for what the rule says
abbrev pub verdict_of : Bool → Verdict
verdict_of true = New
verdict_of false = Duplicate

-- the verdicts of the rule, on the full list of what was accepted
unfoldable pub ruled : ℕ → ℕ → List ℕ → List ℕ → List Verdict
ruled B W ps [] = []
ruled B W ps (id ∷ ids) = verdict_of (accepts B W ps id) ∷ ruled B W (step B W ps id) ids

-- a window shows a list: it is not in use while the list is empty, and then has the list's highest id and marks, other bits apart
abbrev pub ShowsIn : ℕ → Window → List ℕ → Type 0
ShowsIn W window [] = window.used ≡ false
ShowsIn W window (p ∷ ps) =
    (window.used ≡ true) × (window.highest ≡ greatest (p ∷ ps) % 2 ^ 32) × (window.marks % 2 ^ W ≡ marks_number W (p ∷ ps))

-- a row shows what its window does
abbrev pub Shows : ℕ → Row → List ℕ → Type 0
Shows W row ps = ShowsIn W (window_of row) ps

-- a row that shows ps follows the rule: its verdicts on the ids are the rule's on the full list, which it then shows
abbrev pub Follows : ℕ → ℕ → (Row → ℕ → Rolled) → Row → List ℕ → List ℕ → Type 0
Follows B W roll row ps ids = (verdicts_of roll row ids ≡ ruled B W ps ids) × Shows W (row_after roll row ids) (accepted B W ps ids)

-- no position stands in the list twice
abbrev pub Distinct : List ℕ → Type 0
Distinct [] = Unit {0}
Distinct (p ∷ ps) = (member p ps ≡ false) × Distinct ps

-- a row without the bits that stand for no mark
abbrev pub cleared : ℕ → Row → Row
cleared W row = record { used = row.used; node = row.node; key = row.key; highest = row.highest; marks = row.marks % 2 ^ W }
