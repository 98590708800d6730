-- The book of a table handed in: under each name the lists of its rows, each a row's own highest id and marks. Assumes nothing.
use Rattle.std.specs.Prelude.{ℕ, List, map, length}
use Rattle.window.specs.Rows.{marks_held, list_of}
use Rattle.table.specs.Table.{rows, row_of, named, kept, rows_in_use}
use Rattle.history.specs.History.{Book}

-- each row's own list: its highest id and its marks
unfoldable pub handed_in : List ℕ → Book
handed_in t =
    record {
      lists = λ node key. map (list_of marks_held) (kept rows (named node key) (row_of t));
      count = length (rows_in_use t);
    }
