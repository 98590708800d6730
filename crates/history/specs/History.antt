-- The history of a table: messages received, rows removed and saved bytes restored, and the positions that the rule finds new under each
-- name. The book below is built from the history alone. It holds full lists of positions and reads no row, no mark and no shift of the table.
-- Two numbers it takes over: `rows`, the 32 of refusal 20, and `marks_held`, the 15 of the rule of positions. A restore that is taken replaces all
-- lists: a restored name's list starts with what its record says, the position of the highest id and those of the marks, and holds nothing else of what
-- was accepted before. Assumes nothing.
use Rattle.std.specs.Prelude.{ℕ, ◌+◌, ◌-◌, Bool, true, false, ◌&&◌, cond, List, [], ◌∷◌, map, eqb, leb, Result, Ok, Err}
use Rattle.message.specs.Order.{first_refusal}
use Rattle.message.specs.Value.{message_of}
use Rattle.message.specs.Answers.{head_of}
use Rattle.message.specs.declared.answers.Reason.TheVariants.{NoRow}
use Rattle.message.specs.declared.answers.Refusal.{Refusal}
use Rattle.message.specs.Reasons.{refusal}
use Rattle.window.specs.declared.Verdict.{Verdict}
use Rattle.window.specs.Rule.{position_after, accepts}
use Rattle.window.specs.Rows.{marks_held, behind_of, list_of}
use Rattle.window.specs.History.{verdict_of}
use Rattle.admission.specs.declared.answers.Received.{Received}
use Rattle.table.specs.Table.{rows, named, kept}
use Rattle.admission.specs.Admission.{answer_of}
use Rattle.reception.specs.Receiving.{Beside, sender_of, answer_to, receiving_order, receive_of, receive_table}
use Rattle.reception.specs.Removing.{remove_of, remove_table}
use Rattle.records.specs.Restoring.{record_count, row_from, restore_of, restore_table}

-- a step: a message arrives, with all that comes with it, a name is removed, or saved bytes are restored
pub data Step : Type 0 where
  arrives : Beside → List ℕ → Step
  leaves : ℕ → ℕ → Step
  restores : List ℕ → Step

-- its answer
pub data Answer : Type 0 where
  of_arrival : Result Received Refusal → Answer
  of_leaving : Result (Unit {0}) Refusal → Answer
  of_restoring : Result ℕ Refusal → Answer

-- ---- by the table

-- the answer to a step: what the contracts of `receive`, `remove` and `restore` say
abbrev pub answer_at : List ℕ → Step → Answer
answer_at t (arrives b bytes) = of_arrival (receive_of b bytes t)
answer_at t (leaves node key) = of_leaving (remove_of t node key)
answer_at t (restores bytes) = of_restoring (restore_of bytes)

-- the table after a step, by the same contracts
abbrev pub table_at : List ℕ → Step → List ℕ
table_at t (arrives b bytes) = receive_table b bytes t
table_at t (leaves node key) = remove_table t node key
table_at t (restores bytes) = restore_table bytes t

-- the answers to steps, one after the other
unfoldable pub answers_of : List ℕ → List Step → List Answer
answers_of t [] = []
answers_of t (s ∷ steps) = answer_at t s ∷ answers_of (table_at t s) steps

-- the table after them
unfoldable pub table_of : List ℕ → List Step → List ℕ
table_of t [] = t
table_of t (s ∷ steps) = table_of (table_at t s) steps

-- ---- by the book

-- the full lists of positions, under each name those that are open, and how many are open in all. From the empty table on a name has one
-- or none; in a table handed in a name may stand twice, and then the first counts
pub record Book : Type 0 where
  pub lists : ℕ → ℕ → List (List ℕ)
  pub count : ℕ

-- nothing is open
abbrev pub empty_book : Book
empty_book = record { lists = λ node key. []; count = 0 }

-- is an arriving id new? A first one is
abbrev pub is_new : ℕ → List (List ℕ) → ℕ → Bool
is_new key [] id = true
is_new key (ps ∷ rest) id = accepts (behind_of key) marks_held ps id

-- a new id joins the list, or begins one
abbrev pub joined : ℕ → List (List ℕ) → ℕ → List (List ℕ)
joined key [] id = (position_after (behind_of key) [] id ∷ []) ∷ []
joined key (ps ∷ rest) id = (position_after (behind_of key) ps id ∷ ps) ∷ rest

-- how many are open then
abbrev pub one_more : List (List ℕ) → ℕ → ℕ
one_more [] n = n + 1
one_more (ps ∷ rest) n = n

-- 20: nothing is open under the name, and as many lists are open as there are rows
abbrev pub full_for : List (List ℕ) → ℕ → Bool
full_for [] n = leb rows n
full_for (ps ∷ rest) n = false

-- 21: nothing is open under the name
abbrev pub removed_by : List (List ℕ) → Result (Unit {0}) Refusal
removed_by [] = Err (refusal NoRow)
removed_by (ps ∷ rest) = Ok tt

-- the lists of one name replaced: every other name keeps its own
unfoldable pub under : (ℕ → ℕ → List (List ℕ)) → ℕ → ℕ → List (List ℕ) → ℕ → ℕ → List (List ℕ)
under lists node key those n k = cond (eqb n node && eqb k key) those (lists n k)

-- the answer to a message, in the order of receiving, by the full list of its name
unfoldable pub receive_by : Book → Beside → List ℕ → Result Received Refusal
receive_by book b bytes =
    let m = message_of bytes in
    let those = book.lists (sender_of b.link m) m.key in
    answer_of (first_refusal (receiving_order b bytes (full_for those book.count))) (verdict_of (is_new m.key those m.id)) (answer_to b m) m (head_of m)

-- the answer to a step; that to a restore goes by the bytes alone, so it is the contract's own, and what it refuses is proved in `records`
abbrev pub answer_by : Book → Step → Answer
answer_by book (arrives b bytes) = of_arrival (receive_by book b bytes)
answer_by book (leaves node key) = of_leaving (removed_by (book.lists node key))
answer_by book (restores bytes) = of_restoring (restore_of bytes)

-- only a new message joins a list
abbrev pub book_joined : Verdict → ℕ → ℕ → ℕ → Book → Book
book_joined Verdict.New node key id book =
    record { lists = under book.lists node key (joined key (book.lists node key) id); count = one_more (book.lists node key) book.count }
book_joined Verdict.Duplicate node key id book = book

abbrev pub book_after : Result Received Refusal → ℕ → ℕ → ℕ → Book → Book
book_after (Ok answer) node key id book = book_joined answer.verdict node key id book
book_after (Err r) node key id book = book

-- a removal ends the first list of the name
abbrev pub book_without : List (List ℕ) → ℕ → ℕ → Book → Book
book_without [] node key book = book
book_without (ps ∷ rest) node key book = record { lists = under book.lists node key rest; count = book.count - 1 }

-- the book that saved bytes say: one list for each record, under its name
unfoldable pub restored_book : List ℕ → Book
restored_book bytes =
    record {
      lists = λ node key. map (list_of marks_held) (kept (record_count bytes) (named node key) (row_from bytes));
      count = record_count bytes;
    }

-- it takes the place of the old one, all of which stays where restoring refuses
abbrev pub book_restored : Result ℕ Refusal → Book → Book → Book
book_restored (Ok n) new old = new
book_restored (Err r) new old = old

-- the book after a step
unfoldable pub book_at : Book → Step → Book
book_at book (arrives b bytes) =
    book_after (receive_by book b bytes) (sender_of b.link (message_of bytes)) (message_of bytes).key (message_of bytes).id book
book_at book (leaves node key) = book_without (book.lists node key) node key book
book_at book (restores bytes) = book_restored (restore_of bytes) (restored_book bytes) book

-- the answers to steps, one after the other
unfoldable pub answers_by : Book → List Step → List Answer
answers_by book [] = []
answers_by book (s ∷ steps) = answer_by book s ∷ answers_by (book_at book s) steps

-- the book after them
unfoldable pub book_of : Book → List Step → Book
book_of book [] = book
book_of book (s ∷ steps) = book_of (book_at book s) steps
