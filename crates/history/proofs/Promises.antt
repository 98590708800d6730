-- What a history of calls comes to, each as a theorem of its own. The laws behind them are in the other files of this folder. Assumes nothing.
use Rattle.std.specs.Prelude.{Result, Ok, Err}
use Prim.Native.Nat.{ℕ, ◌+◌, ◌^◌, ◌<◌}
use mathlib.Core.Path.{◌≡◌, refl, sym, ap, ap₂, subst, subst⁻¹, ◌∙◌}
use mathlib.Core.Bool.{Bool, true, false, ◌&&◌, cond}
use mathlib.Core.List.{List, [], ◌∷◌, map}
use native.Mathlib.Omega.{arith}
use native.Mathlib.Decide.{dec_lt}
use borrow.Author.Tests.{eq-eqb}
use lib.Dec.{eqb}
use lib.ListN.{length}
use Rattle.wire.proofs.Digits.{AllBytes}
use Rattle.message.specs.Order.{first_refusal}
use Rattle.message.specs.Layout.{only}
use Rattle.message.specs.Value.{message_of}
use Rattle.message.specs.Refusals.{total}
use Rattle.message.specs.Answers.{head_of}
use Rattle.message.specs.declared.value.Message.{Message}
use Rattle.message.specs.declared.answers.Head.{Head}
use Rattle.message.specs.declared.answers.Refusal.{Refusal}
use Rattle.window.specs.declared.Verdict.{Verdict}
use Rattle.window.specs.Rule.{member, accepts, marked}
use Rattle.window.specs.Rows.{marks_held, behind_of, list_of}
use Rattle.window.specs.History.{verdict_of, Shows}
use Rattle.window.specs.declared.Verdict.TheVariants.{New}
use Rattle.window.specs.declared.Row.{Row}
use Rattle.window.proofs.Rows.{list_distinct, fits_gateway}
use Rattle.window.proofs.Promises.{no_position_twice}
use Rattle.table.specs.Table.{rows, empty_table, row_of, named, find_of, kept, rows_in_use}
use Rattle.admission.specs.Admission.{rolled_in, answer_of, received, as_new, as_duplicate}
use Rattle.admission.specs.declared.answers.Received.{Received}
use Rattle.reception.specs.Receiving.{Beside, sender_of, answer_to, receiving_order}
use Rattle.reception.proofs.WasRead.{new_of}
use Rattle.records.specs.Restoring.{record_count, row_from, restore_of, restored_table, table_after, restore_table}
use Rattle.records.specs.Saving.{saved_bytes}
use Rattle.records.specs.Sound.{Sound}
use Rattle.records.proofs.Placed.{narrow_from, restored_length, Taken, is_taken}
use Rattle.records.proofs.SaveRestore.{restore_after_save}
use Rattle.history.specs.History.{Step, arrives, leaves, restores, table_at, answers_of, table_of, Book, empty_book, is_new, joined, full_for, under, receive_by, book_after, book_without, restored_book, book_restored, book_at, book_of, book_joined}
use Rattle.history.specs.HandedIn.{handed_in}
use Rattle.history.specs.Telling.{Bytes, AllOf, AllLinks, Told, Follows, AllDistinct, AtMostOne}
use Rattle.history.proofs.Told.{is_open, is_shut}
use Rattle.history.proofs.Steps.{agrees, one_step}
use Rattle.history.proofs.History.{history, told_empty, told_handed_in}
use Rattle.history.proofs.SameRows.{tells_the_same}
use Rattle.history.proofs.SoundRows.{empty_sound, history_sound}
use Rattle.history.proofs.SoundTables.{sound_table}
use Rattle.history.proofs.Restoring.{told_restored, row_list, restored_list, no_record_no_list, one_restored}

-- ---- demand 3

follows : {t : List ℕ} {book : Book} → Told t book → (steps : List Step) → AllOf steps → (next : Step) → Bytes next → Follows t book steps next
follows told steps all next bytes =
    let h = history told steps all in
    let n = one_step h.1 next bytes in
    (h.0, n.0, h.1, n.1)

-- From the empty table, after any history: every answer, the refusals among them, and every row are what the rule gives on the full lists.
pub history_from_the_empty_table : (steps : List Step) → AllOf steps → (next : Step) → Bytes next → Follows empty_table empty_book steps next
history_from_the_empty_table = follows told_empty

-- The same from any table handed in, each row's list being its highest id and its marks, names that stand twice and rubbish in free rows included.
pub history_from_any_table : (t : List ℕ) → length t ≡ 96 → (steps : List Step) → AllOf steps → (next : Step) → Bytes next → Follows t (handed_in t) steps next
history_from_any_table t size = follows (told_handed_in t size)

module _ {t : List ℕ} {book : Book} (told : Told t book) (node key : ℕ) where
  -- A name that has a list has a row, and the row shows it: its highest id and its fifteen marks are those of the full list.
  pub row_shows_its_list : (ps : List ℕ) (pss : List (List ℕ)) → book.lists node key ≡ ps ∷ pss
      → (find_of rows t node key < rows) × Shows marks_held (row_of t (find_of rows t node key)) ps
  row_shows_its_list ps pss e = go (dec_lt (find_of rows t node key) rows)
    where
      go : Dec (find_of rows t node key < rows) → (find_of rows t node key < rows) × Shows marks_held (row_of t (find_of rows t node key)) ps
      go (yes l) =
          let o = is_open told node key l in
          let same : o.ps ≡ ps = cc (e, o.is) in
          (l, subst (Shows marks_held (row_of t (find_of rows t node key))) same o.stands.shows)
      go (no n) =
          let none = is_shut told node key (omega arith) in
          let z : ◌≡◌ {A = ℕ} 0 1 = cc (e, none) in
          let w : ⊥ = omega arith in
          absurd w

  -- A name that has none, as after its removal, has no row.
  pub no_list_no_row : book.lists node key ≡ [] → (find_of rows t node key < rows → ⊥)
  no_list_no_row e l =
      let o = is_open told node key l in
      let z : ◌≡◌ {A = ℕ} 0 1 = cc (e, o.is) in
      omega arith

-- ---- what a message does to its list

-- New ids join the list of their name, or begin it; every other name keeps its own.
pub new_joins_its_list : (book : Book) (b : Beside) (bytes : List ℕ) (m : Message) (h : Head) (len : ℕ) → receive_by book b bytes ≡ as_new m h len
    → let node : ℕ = sender_of b.link m in
    (book_at book (arrives b bytes)).lists ≡ under book.lists node m.key (joined m.key (book.lists node m.key) m.id)
unfolding book_at receive_by answer_of
new_joins_its_list book b bytes m h len e =
    let those : List (List ℕ) = book.lists (sender_of b.link (message_of bytes)) (message_of bytes).key in
    let w = new_of (first_refusal (receiving_order b bytes (full_for those book.count))) (verdict_of (is_new (message_of bytes).key those (message_of bytes).id)) (message_of bytes) m (head_of (message_of bytes)) h (only (message_of bytes).wants (total (answer_to b (message_of bytes)) [])) len e in
    ap (λ (a : Result Received Refusal). (book_after a (sender_of b.link (message_of bytes)) (message_of bytes).key (message_of bytes).id book).lists) e
    ∙ ap (λ (x : Message). under book.lists (sender_of b.link x) x.key (joined x.key (book.lists (sender_of b.link x) x.key) x.id)) w.1

-- A refused message gets no position, and a duplicate none: the book is as it was.
pub refused_gets_no_position : (book : Book) (b : Beside) (bytes : List ℕ) (r : Refusal) → receive_by book b bytes ≡ Err r → book_at book (arrives b bytes) ≡ book
unfolding book_at
refused_gets_no_position book b bytes r e = ap (λ (a : Result Received Refusal). book_after a (sender_of b.link (message_of bytes)) (message_of bytes).key (message_of bytes).id book) e

pub duplicate_gets_no_position : (book : Book) (b : Beside) (bytes : List ℕ) (m : Message) (h : Head) (len : ℕ) → receive_by book b bytes ≡ as_duplicate m h len
    → book_at book (arrives b bytes) ≡ book
unfolding book_at
duplicate_gets_no_position book b bytes m h len e = ap (λ (a : Result Received Refusal). book_after a (sender_of b.link (message_of bytes)) (message_of bytes).key (message_of bytes).id book) e

-- ---- no position twice

-- a new verdict is an accepted id
is_accepted : (b : Bool) → verdict_of b ≡ New → b ≡ true
is_accepted true e = refl
is_accepted false e = let z : ◌≡◌ {A = ℕ} 0 1 = cc in let w : ⊥ = omega arith in absurd w

-- what a list keeps where a new id joins it, the others where one ends, and all where they are restored, the lists of every name keep over a
-- history
module _ (P : List (List ℕ) → Type 0)
    (joins : (key : ℕ) (those : List (List ℕ)) (id : ℕ) → P those → is_new key those id ≡ true → P (joined key those id))
    (ends : (ps : List ℕ) (pss : List (List ℕ)) → P (ps ∷ pss) → P pss)
    (begins : (bytes : List ℕ) (count : ℕ) → Taken bytes count → (node key : ℕ) → P ((restored_book bytes).lists node key))
  where
    replaced : (book : Book) (node key : ℕ) (those : List (List ℕ)) → ((n k : ℕ) → P (book.lists n k)) → P those → (n k : ℕ) → P (under book.lists node key those n k)
    unfolding under
    replaced book node key those d e n k = go (eqb n node && eqb k key)
      where
        go : (b : Bool) → P (cond b those (book.lists n k))
        go true = e
        go false = d n k

    keeps : (book : Book) (s : Step) → ((n k : ℕ) → P (book.lists n k)) → (n k : ℕ) → P ((book_at book s).lists n k)
    unfolding book_at receive_by answer_of
    keeps book (leaves node key) d = go (book.lists node key) (d node key)
      where
        go : (those : List (List ℕ)) → P those → (n k : ℕ) → P ((book_without those node key book).lists n k)
        go [] e = d
        go (ps ∷ pss) e = replaced book node key pss d (ends ps pss e)
    keeps book (restores bytes) d = go (restore_of bytes) refl
      where
        go : (a : Result ℕ Refusal) → restore_of bytes ≡ a → (n k : ℕ) → P ((book_restored a (restored_book bytes) book).lists n k)
        go (Ok count) e = begins bytes count (is_taken bytes count e)
        go (Err r) e = d
    keeps book (arrives b bytes) d = go (receive_by book b bytes) refl
      where
        node : ℕ
        node = sender_of b.link (message_of bytes)

        key : ℕ
        key = (message_of bytes).key

        id : ℕ
        id = (message_of bytes).id

        by : (v : Verdict) (x : Message) (h : Head) (len : ℕ) → receive_by book b bytes ≡ Ok (received v x h len) → (n k : ℕ) → P ((book_joined v node key id book).lists n k)
        by Verdict.New v h len e =
            let w = new_of (first_refusal (receiving_order b bytes (full_for (book.lists node key) book.count))) (verdict_of (is_new key (book.lists node key) id)) (message_of bytes) v (head_of (message_of bytes)) h (only (message_of bytes).wants (total (answer_to b (message_of bytes)) [])) len e in
            replaced book node key (joined key (book.lists node key) id) d (joins key (book.lists node key) id (d node key) (is_accepted _ w.3))
        by Verdict.Duplicate v h len e = d

        go : (a : Result Received Refusal) → receive_by book b bytes ≡ a → (n k : ℕ) → P ((book_after a node key id book).lists n k)
        go (Ok a) e = by a.verdict a.taken.message a.taken.head a.reply e
        go (Err r) e = d

    along : (book : Book) (steps : List Step) → ((n k : ℕ) → P (book.lists n k)) → (n k : ℕ) → P ((book_of book steps).lists n k)
    unfolding book_of
    along book [] d = d
    along book (s ∷ steps) d = along (book_at book s) steps (keeps book s d)

distinct_joins : (key : ℕ) (those : List (List ℕ)) (id : ℕ) → AllDistinct those → is_new key those id ≡ true → AllDistinct (joined key those id)
unfolding member
distinct_joins key [] id d e = ((refl, tt), tt)
distinct_joins key (ps ∷ pss) id d e = ((no_position_twice (behind_of key) marks_held ps id e, d.0), d.1)

own_distinct : (rs : List Row) → AllDistinct (map (list_of marks_held) rs)
own_distinct [] = tt
own_distinct (row ∷ rs) = (list_distinct (fits_gateway row.key) row, own_distinct rs)

distinct_begins : (bytes : List ℕ) (count : ℕ) → Taken bytes count → (node key : ℕ) → AllDistinct ((restored_book bytes).lists node key)
unfolding restored_book
distinct_begins bytes count taken node key = own_distinct (kept (record_count bytes) (named node key) (row_from bytes))

-- Where no list of a book has a position twice, none has after any history: no position of a name is accepted twice.
pub no_position_twice_from_any_book : (book : Book) → ((node key : ℕ) → AllDistinct (book.lists node key)) → (steps : List Step) (node key : ℕ)
    → AllDistinct ((book_of book steps).lists node key)
no_position_twice_from_any_book book distinct steps = along AllDistinct distinct_joins (λ ps pss d. d.1) distinct_begins book steps distinct

-- So from the empty table: between its opening or restore and its removal or the next restore that is taken no position of a name is accepted
-- twice.
pub no_position_of_a_name_twice : (steps : List Step) (node key : ℕ) → AllDistinct ((book_of empty_book steps).lists node key)
no_position_of_a_name_twice = no_position_twice_from_any_book empty_book (λ n k. tt)

-- And so from any table handed in.
pub no_position_twice_from_any_table : (t : List ℕ) (steps : List Step) (node key : ℕ) → AllDistinct ((book_of (handed_in t) steps).lists node key)
unfolding handed_in
no_position_twice_from_any_table t = no_position_twice_from_any_book (handed_in t) (λ node key. own_distinct (kept rows (named node key) (row_of t)))

-- ---- one list or none

one_joins : (key : ℕ) (those : List (List ℕ)) (id : ℕ) → AtMostOne those → is_new key those id ≡ true → AtMostOne (joined key those id)
one_joins key [] id p e = tt
one_joins key (ps ∷ []) id p e = tt
one_joins key (ps ∷ qs ∷ rest) id p e = absurd p

one_ends : (ps : List ℕ) (pss : List (List ℕ)) → AtMostOne (ps ∷ pss) → AtMostOne pss
one_ends ps [] p = tt
one_ends ps (qs ∷ rest) p = absurd p

-- From the empty table on a name has one list or none: no two records that are taken have one name.
pub one_list_or_none : (steps : List Step) (node key : ℕ) → AtMostOne ((book_of empty_book steps).lists node key)
one_list_or_none steps = along AtMostOne one_joins one_ends (λ bytes count taken. one_restored taken) empty_book steps (λ n k. tt)

-- A name that was removed has none.
pub removed_has_no_list : (steps : List Step) (node key : ℕ) → (book_at (book_of empty_book steps) (leaves node key)).lists node key ≡ []
unfolding book_at under
removed_has_no_list steps node key = go ((book_of empty_book steps).lists node key) refl (one_list_or_none steps node key)
  where
    go : (those : List (List ℕ)) → (book_of empty_book steps).lists node key ≡ those → AtMostOne those → (book_without those node key (book_of empty_book steps)).lists node key ≡ []
    go [] e p = e
    go (ps ∷ []) e p =
        ap₂ (λ (a b : Bool). cond (a && b) [] ((book_of empty_book steps).lists node key)) (eq-eqb node node refl) (eq-eqb key key refl)
    go (ps ∷ qs ∷ rest) e p = absurd p

-- ---- restoring

module _ (bytes : List ℕ) (n : ℕ) (e : restore_of bytes ≡ Ok n) where
  -- the book is that of the bytes, and so is the table
  book_is : (book : Book) → book_at book (restores bytes) ≡ restored_book bytes
  unfolding book_at
  book_is book = ap (λ (a : Result ℕ Refusal). book_restored a (restored_book bytes) book) e

  table_is : (t : List ℕ) → table_at t (restores bytes) ≡ restored_table bytes
  unfolding restore_table
  table_is t = ap (λ (a : Result ℕ Refusal). table_after a (restored_table bytes) t) e

  told : AllBytes bytes → (t : List ℕ) → Told (table_at t (restores bytes)) (restored_book bytes)
  told all t = subst⁻¹ (λ (u : List ℕ). Told u (restored_book bytes)) (table_is t) (told_restored bytes all (is_taken bytes n e).most)

  -- A restored name has one list, and it starts with what the record says: the highest id plus 2^32, and the positions of the marks below it.
  pub restored_list_starts_with_its_record : (book : Book) (i : ℕ) → i < record_count bytes
      → let row : Row = row_from bytes i in
      ((book_at book (restores bytes)).lists row.node row.key ≡ list_of marks_held row ∷ [])
      × (list_of marks_held row ≡ (row.highest + 2 ^ 32) ∷ marked marks_held row.marks (row.highest + 2 ^ 32))
  restored_list_starts_with_its_record book i l =
      (ap (λ (b : Book). b.lists (row_from bytes i).node (row_from bytes i).key) (book_is book) ∙ restored_list (is_taken bytes n e) i l, row_list bytes i)

  -- Book and table go by the bytes alone: of all that was accepted before, after the save too, they hold what the records say and no more.
  pub restoring_goes_by_the_bytes : (book other : Book) (t u : List ℕ)
      → (book_at book (restores bytes) ≡ book_at other (restores bytes)) × (table_at t (restores bytes) ≡ table_at u (restores bytes))
  restoring_goes_by_the_bytes book other t u = (book_is book ∙ sym (book_is other), table_is t ∙ sym (table_is u))

  module _ (node key : ℕ) (absent : (i : ℕ) → i < record_count bytes → named node key (row_from bytes i) ≡ false) where
    -- The list of a name that stands in no record has ended.
    pub list_without_a_record_ends : (book : Book) → (book_at book (restores bytes)).lists node key ≡ []
    list_without_a_record_ends book = ap (λ (b : Book). b.lists node key) (book_is book) ∙ no_record_no_list (is_taken bytes n e) node key absent

    -- So the name has no row.
    pub no_record_no_row : AllBytes bytes → (t : List ℕ) → (find_of rows (table_at t (restores bytes)) node key < rows → ⊥)
    no_record_no_row all t = no_list_no_row (told all t) node key (no_record_no_list (is_taken bytes n e) node key absent)

  module _ (i : ℕ) (l : i < record_count bytes) (id : ℕ) where
    -- Whether an id is new goes by the restored list alone: one that was accepted after the save can be new again.
    pub restored_list_decides : (book : Book)
        → let row : Row = row_from bytes i in
        is_new row.key ((book_at book (restores bytes)).lists row.node row.key) id ≡ accepts (behind_of row.key) marks_held (list_of marks_held row) id
    restored_list_decides book =
        ap (λ (those : List (List ℕ)). is_new (row_from bytes i).key those id) (restored_list_starts_with_its_record book i l).0

    -- And that is the table's verdict.
    pub restored_row_decides : AllBytes bytes → id < 2 ^ 32 → (t : List ℕ)
        → let row : Row = row_from bytes i in
        (rolled_in (table_at t (restores bytes)) row.node row.key id).verdict ≡ verdict_of (accepts (behind_of row.key) marks_held (list_of marks_held row) id)
    restored_row_decides all low t =
        (agrees (told all t) (row_from bytes i).node (row_from bytes i).key id (narrow_from all i).key low).verdict
        ∙ ap (λ (those : List (List ℕ)). verdict_of (is_new (row_from bytes i).key those id)) (restored_list (is_taken bytes n e) i l)

-- A refused restore changes neither book nor table.
pub refused_restore_keeps_book_and_table : (bytes : List ℕ) (r : Refusal) → restore_of bytes ≡ Err r → (book : Book) (t : List ℕ)
    → (book_at book (restores bytes) ≡ book) × (table_at t (restores bytes) ≡ t)
unfolding book_at restore_table
refused_restore_keeps_book_and_table bytes r e book t =
    (ap (λ (a : Result ℕ Refusal). book_restored a (restored_book bytes) book) e, ap (λ (a : Result ℕ Refusal). table_after a (restored_table bytes) t) e)

-- ---- saving, and restoring what was saved

-- After any history from the empty table in which each link's node is a number of eight bytes, the rows in use are sound.
pub reached_is_sound : (steps : List Step) → AllOf steps → AllLinks steps → Sound (rows_in_use (table_of empty_table steps))
reached_is_sound steps all links =
    sound_table (history told_empty steps all).1 (one_list_or_none steps) (history_sound told_empty empty_sound steps all links)

-- Restoring what was then saved, into whatever table, takes the bytes and gives the same rows in use, in the same order.
pub restore_after_save_of_a_reached_table : (steps : List Step) → AllOf steps → AllLinks steps → (other : List ℕ)
    → let t : List ℕ = table_of empty_table steps in
    (restore_of (saved_bytes t) ≡ Ok (length (rows_in_use t))) × (rows_in_use (table_at other (restores (saved_bytes t))) ≡ rows_in_use t)
restore_after_save_of_a_reached_table steps all links other =
    let t : List ℕ = table_of empty_table steps in
    let back = restore_after_save t (reached_is_sound steps all links) in
    (back.0, ap rows_in_use (table_is (saved_bytes t) (length (rows_in_use t)) back.0 other) ∙ back.1)

-- So the restored table goes on as the saved one would have: every later answer is the same.
pub restored_goes_on_as_saved : (steps : List Step) → AllOf steps → AllLinks steps → (other : List ℕ) (later : List Step) → AllOf later
    → let t : List ℕ = table_of empty_table steps in answers_of (table_at other (restores (saved_bytes t))) later ≡ answers_of t later
restored_goes_on_as_saved steps all links other later those =
    let t : List ℕ = table_of empty_table steps in
    let back = restore_after_save_of_a_reached_table steps all links other in
    let told = (history told_empty steps all).1 in
    let size = ap length (table_is (saved_bytes t) (length (rows_in_use t)) back.0 other) ∙ restored_length (saved_bytes t) in
    (history (tells_the_same told (table_at other (restores (saved_bytes t))) size back.1) later those).0 ∙ sym (history told later those).0
