-- One step: table and book give the same answer, and the table goes on showing the book. Assumes nothing.
use Rattle.std.specs.Prelude.{Result, Ok, Err}
use Prim.Native.Nat.{ℕ, suc, ◌+◌, ◌-◌, ◌^◌, ◌≤◌, ◌<◌}
use mathlib.Core.Path.{◌≡◌, refl, sym, ap, ap₂, subst, subst⁻¹, ◌∙◌}
use mathlib.Core.Bool.{Bool, true, false, cond}
use mathlib.Core.List.{List, [], ◌∷◌}
use native.Mathlib.Omega.{arith}
use native.Mathlib.Decide.{dec_lt}
use borrow.Author.Tests.{lt-leb, leb-false, lt-ltb, le-ltb, not-true}
use lib.Dec.{eqb, leb, ltb}
use Rattle.wire.specs.Bytes.{part, little}
use Rattle.wire.proofs.Digits.{AllBytes}
use Rattle.wire.proofs.Parts.{byte_low}
use Rattle.message.specs.Order.{first_refusal, reason_of}
use Rattle.message.specs.Layout.{only}
use Rattle.message.specs.Value.{bits, header, address_of, exchanged_by, message_of}
use Rattle.message.specs.Refusals.{total}
use Rattle.message.specs.Answers.{head_of}
use Rattle.message.specs.declared.value.Message.{Message}
use Rattle.message.specs.declared.answers.Reason.TheVariants.{NoRow}
use Rattle.message.specs.declared.answers.Refusal.{Refusal}
use Rattle.message.specs.declared.answers.Head.{Head}
use Rattle.message.specs.Reasons.{refusal}
use Rattle.window.specs.Rule.{position_after}
use Rattle.window.specs.Rows.{marks_held, behind_of, opened, rolled_of}
use Rattle.window.specs.History.{verdict_of}
use Rattle.window.specs.declared.Row.{Row}
use Rattle.window.specs.declared.Rolled.{Rolled}
use Rattle.window.specs.declared.Verdict.{Verdict}
use Rattle.window.specs.declared.Verdict.TheVariants.{New}
use Rattle.window.proofs.Accepting.{step_new}
use Rattle.window.proofs.History.{Stands, stands_opened, stands_on, verdict_on, was_accepted}
use Rattle.window.proofs.Promises.{gateway, name_stays, gateway_stray_bit}
use Rattle.window.proofs.Rows.{fits_gateway}
use Rattle.table.specs.Table.{rows, one_if, freed, row_of, with_row, is_free, find_of, free_of, in_use}
use Rattle.admission.specs.Admission.{no_row, rolled_in, answer_of, table_after, table_by, received, put_if_new}
use Rattle.reception.specs.Receiving.{Beside, sender_of, answer_to, receiving_order, receive_of, receive_table}
use Rattle.admission.specs.declared.answers.Received.{Received}
use Rattle.admission.specs.Admission as rcv
use Rattle.reception.specs.Removing.{remove_of, remove_table}
use Rattle.history.specs.History.{Book, Step, arrives, leaves, restores, of_arrival, of_leaving, answer_at, table_at, is_new, joined, one_more, full_for, removed_by, under, receive_by, answer_by, book_after, book_without, book_at, book_joined}
use Rattle.history.specs.Telling.{Bytes, Told}
use Rattle.reception.proofs.Cleared.{has_row}
use Rattle.reception.proofs.WasRead.{new_of}
use Rattle.table.proofs.Least.{least_holds}
use Rattle.table.proofs.Words.{Narrow, other_row}
use Rattle.admission.proofs.Places.{found, opens}
use Rattle.table.proofs.Kept.{counts, all_kept}
use Rattle.history.proofs.Told.{named_node, named_is, named_not, named_other, g_same, changed, hits, is_open, is_shut, alone}
use Rattle.history.proofs.Restoring.{restoring}

-- ---- what a message comes to

-- the table and the book agree on it: whether there is a row to be had, the verdict, and what they are after a new one
pub record Agrees (t : List ℕ) (book : Book) (node key id : ℕ) : Type 0 where
  pub full : no_row t node key ≡ full_for (book.lists node key) book.count
  pub verdict : (rolled_in t node key id).verdict ≡ verdict_of (is_new key (book.lists node key) id)
  pub moves : no_row t node key ≡ false → (rolled_in t node key id).verdict ≡ New
      → Told (with_row t (rcv.row_for t node key) (rolled_in t node key id).row)
      (record { lists = under book.lists node key (joined key (book.lists node key) id); count = one_more (book.lists node key) book.count })

module _ {t : List ℕ} {book : Book} (told : Told t book) (node key id : ℕ) (lk : key < 2 ^ 16) (ld : id < 2 ^ 32) where
  -- the book after a new message, of what was open under its name
  abbrev After : List (List ℕ) → Book
  After those = record { lists = under book.lists node key (joined key those id); count = one_more those book.count }

  module _ (l : find_of rows t node key < rows) where
    abbrev row : Row
    row = row_of t (find_of rows t node key)

    name : (row.used ≡ true) × (row.node ≡ node) × (row.key ≡ key)
    name = named_node node key row (hits told node key l)

    -- the row found is rolled, and stands for the list with the position that joined it
    moved : (rolled_of row id).verdict ≡ New → Told (with_row t (find_of rows t node key) (rolled_of row id).row) (After (book.lists node key))
    unfolding rolled_of
    moved new =
        let o = is_open told node key l in
        let B : ℕ = behind_of key in
        let next : Row = (rolled_of row id).row in
        let joins = step_new B marks_held o.ps id (was_accepted (gateway key) o.stands id ld new) in
        let s : Stands marks_held key next (position_after B o.ps id ∷ o.ps) = subst (Stands marks_held key next) joins (stands_on (gateway key) o.stands id ld) in
        let node_stays : next.node ≡ node = (name_stays (behind_of row.key) marks_held row id).0 ∙ name.1 in
        let narrow : Narrow next =
        record {
          key = subst⁻¹ (λ (k : ℕ). k < 2 ^ 16) s.name lk;
          highest = omega (arith, s.shows.1);
          marks = omega (arith, (gateway_stray_bit row id).1 new);
        } in
        subst⁻¹ (λ (those : List (List ℕ)). Told (with_row t (find_of rows t node key) next) (After those)) o.is
        (changed told node key (find_of rows t node key) l next narrow ((position_after B o.ps id ∷ o.ps) ∷ o.pss) book.count
        (λ n k e. named_other n k node key row e name.1 name.2)
        (λ n k e. named_other n k node key next e node_stays s.name)
        (o.stays next (position_after B o.ps id ∷ o.ps) narrow (named_is node key next s.shows.0 node_stays s.name) s)
        (ap₂ (λ (n : ℕ) (u : Bool). n + one_if u) told.count (s.shows.0 ∙ sym name.0)))

    agrees_found : Agrees t book node key id
    agrees_found =
        let f = found t node key id l in
        let o = is_open told node key l in
        record {
          full = ap (leb rows) f.0 ∙ lt-leb rows (find_of rows t node key) l ∙ sym (ap (λ (those : List (List ℕ)). full_for those book.count) o.is);
          verdict = ap (λ (x : Rolled). x.verdict) f.1 ∙ verdict_on (gateway key) o.stands id ld ∙ sym (ap (λ (those : List (List ℕ)). verdict_of (is_new key those id)) o.is);
          moves = λ z new.
              subst⁻¹ (λ (x : Rolled). Told (with_row t (rcv.row_for t node key) x.row) (After (book.lists node key))) f.1
              (subst⁻¹ (λ (i : ℕ). Told (with_row t i (rolled_of row id).row) (After (book.lists node key))) f.0
              (moved (sym (ap (λ (x : Rolled). x.verdict) f.1) ∙ new)));
        }

  module _ (l : rows ≤ find_of rows t node key) where
    -- a row is opened at the lowest free number, and stands for the first position
    opened_at : free_of rows t < rows → Told (with_row t (free_of rows t) (opened node key id)) (After (book.lists node key))
    unfolding position_after free_of
    opened_at li =
        let free : (row_of t (free_of rows t)).used ≡ false = not-true _ (least_holds rows (λ i. is_free (row_of t i)) li) in
        let narrow : Narrow (opened node key id) = record { key = lk; highest = ld; marks = omega arith } in
        subst⁻¹ (λ (those : List (List ℕ)). Told (with_row t (free_of rows t) (opened node key id)) (After those)) (is_shut told node key l)
        (changed told node key (free_of rows t) li (opened node key id) narrow (((id + 2 ^ 32) ∷ []) ∷ []) (book.count + 1)
        (λ n k e. named_not n k (row_of t (free_of rows t)) free)
        (λ n k e. named_other n k node key (opened node key id) e refl refl)
        (alone told node key l (free_of rows t) li (opened node key id) ((id + 2 ^ 32) ∷ []) narrow (named_is node key (opened node key id) refl refl refl) (stands_opened (fits_gateway key) node key id ld))
        (ap (λ (n : ℕ). n + 1) told.count ∙ omega (arith, ap one_if free)))

    agrees_opens : Agrees t book node key id
    unfolding free_of
    agrees_opens =
        let f = opens t node key id l in
        let none = is_shut told node key l in
        record {
          full = ap (leb rows) f.0 ∙ all_kept rows in_use (row_of t) ∙ ap (leb rows) told.count ∙ sym (ap (λ (those : List (List ℕ)). full_for those book.count) none);
          verdict = ap (λ (x : Rolled). x.verdict) f.1 ∙ sym (ap (λ (those : List (List ℕ)). verdict_of (is_new key those id)) none);
          moves = λ z new.
              subst⁻¹ (λ (x : Rolled). Told (with_row t (rcv.row_for t node key) x.row) (After (book.lists node key))) f.1
              (subst⁻¹ (λ (i : ℕ). Told (with_row t i (opened node key id)) (After (book.lists node key))) f.0
              (opened_at (subst (λ (i : ℕ). i < rows) f.0 (leb-false rows (rcv.row_for t node key) z))));
        }

  pub agrees : Agrees t book node key id
  agrees = go (dec_lt (find_of rows t node key) rows)
    where
      go : Dec (find_of rows t node key < rows) → Agrees t book node key id
      go (yes l) = agrees_found l
      go (no n) = agrees_opens (omega arith)

-- ---- one step

-- where the bytes of a message are bytes its id and key id are so many bits wide
pub id_low : (bytes : List ℕ) → AllBytes bytes → (message_of bytes).id < 2 ^ 32
unfolding message_of exchanged_by address_of
id_low bytes all = omega (arith, byte_low all 2, byte_low all 3, byte_low all 4, byte_low all 5)

pub key_low : (bytes : List ℕ) → AllBytes bytes → (message_of bytes).key < 2 ^ 16
unfolding message_of exchanged_by address_of
key_low bytes all = go (eqb (bits (header bytes) 4 4) 1) _
  where
    go : (e : Bool) (at : ℕ) → little (part bytes at (only e 2)) < 2 ^ 16
    go true at = omega (arith, byte_low all at, byte_low all (suc at))
    go false at = omega arith

module _ {t : List ℕ} {book : Book} (told : Told t book) where
  pub arrival : (b : Beside) (bytes : List ℕ) → AllBytes bytes
      → (receive_of b bytes t ≡ receive_by book b bytes) × Told (receive_table b bytes t) (book_at book (arrives b bytes))
  unfolding receive_of receive_by receive_table table_by book_at answer_of
  arrival b bytes all = (same, subst (λ (a : Result Received Refusal). Told (receive_table b bytes t) (book_after a node key id book)) same (go (receive_of b bytes t) refl))
    where
      m : Message
      m = message_of bytes

      node : ℕ
      node = sender_of b.link (message_of bytes)

      key : ℕ
      key = (message_of bytes).key

      id : ℕ
      id = (message_of bytes).id

      both : Agrees t book node key id
      both = agrees told node key id (key_low bytes all) (id_low bytes all)

      same : receive_of b bytes t ≡ receive_by book b bytes
      same = ap₂ (λ (f : Bool) (v : Verdict). answer_of (first_refusal (receiving_order b bytes f)) v (answer_to b (message_of bytes)) (message_of bytes) (head_of (message_of bytes))) both.full both.verdict

      by : (v : Verdict) (x : Message) (h : Head) (n : ℕ) → receive_of b bytes t ≡ Ok (received v x h n)
          → Told (put_if_new v t (rcv.row_for t node key) (rolled_in t node key id).row) (book_joined v node key id book)
      by Verdict.New v h n e =
          let w = new_of (first_refusal (receiving_order b bytes (no_row t node key))) (rolled_in t node key id).verdict (message_of bytes) v (head_of (message_of bytes)) h (only (message_of bytes).wants (total (answer_to b (message_of bytes)) [])) n e in
          both.moves (has_row b bytes (no_row t node key) (ap reason_of w.0)) w.3
      by Verdict.Duplicate v h n e = told

      go : (a : Result Received Refusal) → receive_of b bytes t ≡ a → Told (table_after a t (rcv.row_for t node key) (rolled_in t node key id).row) (book_after a node key id book)
      go (Ok a) e = by a.verdict a.taken.message a.taken.head a.reply e
      go (Err r) e = told

  leaving : (node key : ℕ) → (remove_of t node key ≡ removed_by (book.lists node key)) × Told (remove_table t node key) (book_at book (leaves node key))
  unfolding remove_of remove_table book_at
  leaving node key = go (dec_lt (find_of rows t node key) rows)
    where
      i : ℕ
      i = find_of rows t node key

      narrow : Narrow freed
      narrow = record { key = omega arith; highest = omega arith; marks = omega arith }

      Left : List (List ℕ) → Bool → Type 0
      Left those b = (cond b (Ok tt) (Err (refusal NoRow)) ≡ removed_by those) × Told (cond b (with_row t (find_of rows t node key) freed) t) (book_without those node key book)

      without : (l : find_of rows t node key < rows) → Told (with_row t (find_of rows t node key) freed) (book_without (book.lists node key) node key book)
      without l =
          let o = is_open told node key l in
          let w = named_node node key (row_of t (find_of rows t node key)) (hits told node key l) in
          let c = counts rows in_use (row_of t) (row_of (with_row t (find_of rows t node key) freed)) (find_of rows t node key) l (λ k n. other_row t (find_of rows t node key) k freed n) in
          subst⁻¹ (λ (those : List (List ℕ)). Told (with_row t (find_of rows t node key) freed) (book_without those node key book)) o.is
          (changed told node key (find_of rows t node key) l freed narrow o.pss (book.count - 1)
          (λ n k e. named_other n k node key (row_of t (find_of rows t node key)) e w.1 w.2)
          (λ n k e. named_not n k freed refl)
          (o.goes freed narrow refl)
          (omega (arith, c, told.count, ap one_if w.0, ap (λ (r : Row). one_if r.used) (g_same told node key (find_of rows t node key) l freed narrow))))

      go : Dec (find_of rows t node key < rows) → Left (book.lists node key) (ltb (find_of rows t node key) rows)
      go (yes l) =
          subst⁻¹ (Left (book.lists node key)) (lt-ltb (find_of rows t node key) rows l)
          (sym (ap removed_by (is_open told node key l).is), without l)
      go (no n) =
          let l : rows ≤ find_of rows t node key = omega arith in
          subst⁻¹ (Left (book.lists node key)) (le-ltb (find_of rows t node key) rows l)
          (subst⁻¹ (λ (those : List (List ℕ)). Left those false) (is_shut told node key l) (refl, told))

  -- the answer is the rule's on the full lists, and the table goes on telling the book
  pub one_step : (s : Step) → Bytes s → (answer_at t s ≡ answer_by book s) × Told (table_at t s) (book_at book s)
  one_step (arrives b bytes) all = let w = arrival b bytes all in (ap of_arrival w.0, w.1)
  one_step (leaves node key) u = let w = leaving node key in (ap of_leaving w.0, w.1)
  one_step (restores bytes) all = (refl, restoring told bytes all)
