-- Rows: what rolling and reading a row put into the lent places. Assumes nothing.
use Rattle.std.specs.Prelude.{ℕ, ◌%◌, ◌^◌, List, [], ◌∷◌}
use Rattle.window.specs.declared.Row.{Row}
use Rattle.window.specs.declared.Rolled.{Rolled}
use Rattle.window.specs.declared.Verdict.{Verdict}
use Rattle.window.specs.Rows.{marks_held}
use Rattle.table.specs.Table.{one_if, with_row}

-- rolling: a new id puts the three words of the row, a duplicate leaves them
abbrev pub words_after : Verdict → Row → List ℕ → List ℕ
words_after Verdict.New row old = with_row old 0 row
words_after Verdict.Duplicate row old = old

-- by the verdict that rolling gives
abbrev pub rolled_words : Rolled → List ℕ → List ℕ
rolled_words rolled old = words_after rolled.verdict rolled.row old

-- a row: whether it is in use, its name, its highest id and its marks; a bit that stands for no mark is clear
unfoldable pub row_places : Row → List ℕ
row_places row = one_if row.used ∷ row.node ∷ row.key ∷ row.highest ∷ (row.marks % 2 ^ marks_held) ∷ []
