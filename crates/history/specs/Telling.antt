-- What the theorem over histories says: what steps are taken, when a table tells a book, and what a history then comes to. Assumes nothing.
use Rattle.std.specs.Prelude.{ℕ, ◌^◌, ◌<◌, ◌≡◌, List, [], ◌∷◌, length}
use Rattle.wire.proofs.Digits.{AllBytes}
use Rattle.window.specs.Rows.{marks_held}
use Rattle.window.specs.History.{Distinct}
use Rattle.window.specs.declared.Row.{Row}
use Rattle.window.proofs.History.{Stands}
use Rattle.table.specs.Table.{rows, row_of, named, kept, rows_in_use}
use Rattle.history.specs.History.{Step, arrives, leaves, restores, answer_at, table_at, answers_of, table_of, Book, answer_by, book_at, answers_by, book_of}

-- ---- the steps that are taken

-- the bytes of a message are bytes, and so are saved ones; a removal may name any name
abbrev pub Bytes : Step → Type 0
Bytes (arrives b bytes) = AllBytes bytes
Bytes (leaves node key) = Unit {0}
Bytes (restores bytes) = AllBytes bytes

-- every step of a history is such a one
abbrev pub AllOf : List Step → Type 0
AllOf [] = Unit {0}
AllOf (s ∷ steps) = Bytes s × AllOf steps

-- the link's node is a number of eight bytes
abbrev pub Links : Step → Type 0
Links (arrives b bytes) = b.link < 2 ^ 64
Links (leaves node key) = Unit {0}
Links (restores bytes) = Unit {0}

-- that of every message is
abbrev pub AllLinks : List Step → Type 0
AllLinks [] = Unit {0}
AllLinks (s ∷ steps) = Links s × AllLinks steps

-- ---- a table tells a book

-- rows stand for lists, one for one
abbrev pub Stand : ℕ → List Row → List (List ℕ) → Type 0
Stand key [] [] = Unit {0}
Stand key [] (ps ∷ pss) = ⊥
Stand key (row ∷ rs) [] = ⊥
Stand key (row ∷ rs) (ps ∷ pss) = Stands marks_held key row ps × Stand key rs pss

-- a table tells a book: under every name its rows, in their order, stand for the book's lists, and as many rows are in use as lists are open
pub record Told (t : List ℕ) (book : Book) : Type 0 where
  pub size : length t ≡ 96
  pub names : (node key : ℕ) → Stand key (kept rows (named node key) (row_of t)) (book.lists node key)
  pub count : length (rows_in_use t) ≡ book.count

-- what a history from a table comes to, the table's book being given: all answers are the book's, so is the next one, and the table tells
-- the book, before the next step and after it
abbrev pub Follows : List ℕ → Book → List Step → Step → Type 0
Follows t book steps next =
    (answers_of t steps ≡ answers_by book steps)
    × (answer_at (table_of t steps) next ≡ answer_by (book_of book steps) next)
    × Told (table_of t steps) (book_of book steps)
    × Told (table_at (table_of t steps) next) (book_at (book_of book steps) next)

-- ---- what the lists of a name keep

-- no list holds a position twice
abbrev pub AllDistinct : List (List ℕ) → Type 0
AllDistinct [] = Unit {0}
AllDistinct (ps ∷ pss) = Distinct ps × AllDistinct pss

-- a name has one list or none
abbrev pub AtMostOne : List (List ℕ) → Type 0
AtMostOne [] = Unit {0}
AtMostOne (ps ∷ []) = Unit {0}
AtMostOne (ps ∷ qs ∷ rest) = ⊥
