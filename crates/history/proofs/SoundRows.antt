-- Each row in use stays sound over a history: a message puts it under a name that receiving lets through, a removal frees it, and restoring puts
-- rows that 25 lets through. Assumes nothing.
use Rattle.std.specs.Prelude.{Result, Ok, Err, None}
use Prim.Native.Nat.{ℕ, suc, ◌+◌, ◌-◌, ◌*◌, ◌/◌, ◌%◌, ◌^◌, ◌<◌}
use mathlib.Core.Path.{◌≡◌, refl, sym, ap, subst⁻¹, ◌∙◌}
use mathlib.Core.Bool.{Bool, true, false, not, ◌&&◌, ◌||◌, cond}
use mathlib.Core.List.{List, [], ◌∷◌}
use native.Mathlib.Omega.{arith}
use native.Mathlib.Decide.{dec_lt, ℕ_discrete}
use borrow.Author.Tests.{ltb-true, leb-false, ne_eqb, eqb-false}
use lib.Dec.{eqb, ltb}
use lib.ListN.{length}
use Rattle.wire.specs.Bytes.{part, little, big}
use Rattle.wire.proofs.Digits.{AllBytes}
use Rattle.wire.proofs.Parts.{byte_low}
use Rattle.message.specs.Order.{first_refusal, first, reason_of}
use Rattle.message.specs.Layout.{only, source_at}
use Rattle.message.specs.Value.{bits, bit, header, address_of, exchanged_by, message_of}
use Rattle.message.specs.Refusals.{bad_key_type, nobody, total}
use Rattle.message.specs.Answers.{head_of}
use Rattle.message.specs.declared.answers.Refusal.{Refusal}
use Rattle.message.specs.declared.answers.Head.{Head}
use Rattle.message.specs.declared.value.Message.{Message}
use Rattle.window.specs.declared.Verdict.{Verdict}
use Rattle.message.proofs.Logic.{clash, or_false, when_true}
use Rattle.window.specs.Rule.{member, greatest, number, bit_at, marks_number, accepts, step}
use Rattle.window.specs.Rows.{marks_held, behind_of, list_of, row_in_use, opened, judged, rolled_at, rolled_of}
use Rattle.window.specs.declared.Row.{Row}
use Rattle.window.specs.declared.Rolled.{Rolled}
use Rattle.window.proofs.Bits.{number_lt}
use Rattle.table.specs.Table.{rows, empty_table, freed, row_of, with_row, find_of}
use Rattle.table.proofs.Found.{found_is_in_use_under_the_name}
use Rattle.table.proofs.Words.{Narrow, other_row, same_row, empty_row}
use Rattle.admission.specs.Admission.{row_for, no_row, rolled_in, answer_of, table_after, table_by, received, put_if_new}
use Rattle.admission.specs.declared.answers.Received.{Received}
use Rattle.admission.proofs.Places.{found, opens}
use Rattle.reception.specs.Receiving.{Beside, sender_of, answer_to, receiving_order, receive_of, receive_table}
use Rattle.reception.specs.Removing.{remove_table}
use Rattle.reception.proofs.Cleared.{sender_is_somebody, key_is_good, has_row}
use Rattle.reception.proofs.WasRead.{new_of}
use Rattle.records.specs.Records.{row_in, bad_row}
use Rattle.records.specs.Restoring.{record_count, row_from, restore_of, restored_table, restore_table}
use Rattle.records.specs.Restoring as rst
use Rattle.records.specs.Sound.{SoundRow}
use Rattle.records.proofs.Placed.{narrow_from, node_from, restored_free, restored_row, Taken, is_taken}
use Rattle.history.specs.History.{Step, arrives, leaves, restores, table_at, Book, book_at, table_of}
use Rattle.history.specs.Telling.{Bytes, AllOf, Links, AllLinks, Told}
use Rattle.history.proofs.Steps.{id_low, key_low, one_step}

-- each row of a table that is in use is sound
abbrev pub AllSound : List ℕ → Type 0
AllSound t = (k : ℕ) → (row_of t k).used ≡ true → SoundRow (row_of t k)

-- ---- one row

-- a name that a row may have
record GoodName (node key : ℕ) : Type 0 where
  somebody : nobody node ≡ false
  kind : (not (eqb key 0) && bad_key_type key) ≡ false
  node_fits : node < 2 ^ 64
  key_fits : key < 2 ^ 16

sound_row : (row : Row) → row.used ≡ true → GoodName row.node row.key → row.highest < 2 ^ 32 → row.marks < 2 ^ marks_held → SoundRow row
unfolding bit_at
sound_row row u name h m =
    let clear : bit_at row.marks marks_held ≡ false = ne_eqb (row.marks / 2 ^ marks_held % 2) 1 (λ e. omega arith) in
    record {
      used = u;
      good = λ i. name.somebody i || name.kind i || clear i;
      node = name.node_fits;
      key = name.key_fits;
      highest = h;
      marks = m;
    }

-- what 25 asks of it
good_parts : (row : Row) → bad_row row ≡ false → (nobody row.node ≡ false) × ((not (eqb row.key 0) && bad_key_type row.key) ≡ false) × (bit_at row.marks marks_held ≡ false)
good_parts row e =
    let w = or_false (nobody row.node || (not (eqb row.key 0) && bad_key_type row.key)) (bit_at row.marks marks_held) e in
    let v = or_false (nobody row.node) (not (eqb row.key 0) && bad_key_type row.key) w.0 in
    (v.0, v.1, w.1)

sound_name : (row : Row) → SoundRow row → GoodName row.node row.key
sound_name row s = let w = good_parts row s.good in record { somebody = w.0; kind = w.1; node_fits = s.node; key_fits = s.key }

sound_narrow : {row : Row} → SoundRow row → Narrow row
sound_narrow s = record { key = s.key; highest = s.highest; marks = omega (arith, s.marks) }

-- rolled, it is sound as it was, and so is one that is opened
rolled_sound : (row : Row) (id : ℕ) → SoundRow row → SoundRow (rolled_of row id).row
unfolding rolled_of rolled_at judged marks_number
rolled_sound row id s = go (accepts (behind_of row.key) marks_held (list_of marks_held row) id) (step (behind_of row.key) marks_held (list_of marks_held row) id)
  where
    go : (b : Bool) (ps : List ℕ) → SoundRow (judged marks_held row b ps).row
    go true ps = sound_row (row_in_use row.node row.key (greatest ps % 2 ^ 32) (number marks_held (λ k. member (greatest ps - suc k) ps))) refl (sound_name row s) (omega arith) (number_lt marks_held (λ k. member (greatest ps - suc k) ps))
    go false ps = s

opened_sound : (node key id : ℕ) → GoodName node key → id < 2 ^ 32 → SoundRow (opened node key id)
opened_sound node key id name l = sound_row (opened node key id) refl name l (omega arith)

-- ---- one row is put

put_sound : (t : List ℕ) (i : ℕ) (row : Row) → 3 * i + 2 < length t → Narrow row → (row.used ≡ true → SoundRow row) → AllSound t → AllSound (with_row t i row)
put_sound t i row l narrow s all k u = go (ℕ_discrete k i)
  where
    go : Dec (k ≡ i) → SoundRow (row_of (with_row t i row) k)
    go (yes e) =
        let o : row_of (with_row t i row) k ≡ row = ap (row_of (with_row t i row)) e ∙ same_row t i row l narrow in
        subst⁻¹ SoundRow o (s (sym (ap (λ (r : Row). r.used) o) ∙ u))
    go (no n) =
        let o = other_row t i k row n in
        subst⁻¹ SoundRow o (all k (sym (ap (λ (r : Row). r.used) o) ∙ u))

-- ---- the rows of records

-- 25 lets them through
record_sound : (bytes : List ℕ) → AllBytes bytes → (n : ℕ) → Taken bytes n → (i : ℕ) → i < record_count bytes → SoundRow (row_from bytes i)
unfolding bit_at row_in
record_sound bytes are n taken i l =
    let narrow = narrow_from are i in
    let clear = eqb-false ((row_from bytes i).marks / 2 ^ marks_held % 2) 1 (good_parts (row_from bytes i) (taken.good i l)).2 in
    record {
      used = refl;
      good = taken.good i l;
      node = node_from are i;
      key = narrow.key;
      highest = narrow.highest;
      marks = below (row_from bytes i).marks narrow.marks clear;
    }
  where
    below : (m : ℕ) → m < 2 ^ 16 → (m / 2 ^ marks_held % 2 ≡ 1 → ⊥) → m < 2 ^ marks_held
    below m l c = go (dec_lt m (2 ^ marks_held))
      where
        go : Dec (m < 2 ^ marks_held) → m < 2 ^ marks_held
        go (yes h) = h
        go (no h) = let e : m / 2 ^ marks_held % 2 ≡ 1 = omega arith in absurd (c e)

restored_sound : (bytes : List ℕ) (n : ℕ) → AllBytes bytes → Taken bytes n → AllSound (restored_table bytes)
restored_sound bytes n are taken k u = go (dec_lt k (record_count bytes))
  where
    go : Dec (k < record_count bytes) → SoundRow (row_of (restored_table bytes) k)
    go (yes l) = subst⁻¹ SoundRow (restored_row bytes are taken.most k l) (record_sound bytes are n taken k l)
    go (no l) = clash false (sym (ap (λ (r : Row). r.used) (restored_free bytes k (omega arith))) ∙ u) refl

-- ---- the name of a message

-- the sender is a number of eight bytes where the link's node is
sender_low : (b : Beside) (bytes : List ℕ) → AllBytes bytes → b.link < 2 ^ 64 → sender_of b.link (message_of bytes) < 2 ^ 64
unfolding message_of exchanged_by address_of
sender_low b bytes all l = go (bit (header bytes) 9)
  where
    go : (s : Bool) → cond s (big (part bytes source_at (only s 8))) b.link < 2 ^ 64
    go true = omega (arith, byte_low all 6, byte_low all 7, byte_low all 8, byte_low all 9, byte_low all 10, byte_low all 11, byte_low all 12, byte_low all 13)
    go false = l

-- the key id is 0 or of type 1 or 2
key_kind : (b : Beside) (bytes : List ℕ) (full : Bool) → first (receiving_order b bytes full) ≡ None → (not (eqb (message_of bytes).key 0) && bad_key_type (message_of bytes).key) ≡ false
unfolding message_of exchanged_by address_of
key_kind b bytes full clear = go (eqb (bits (header bytes) 4 4) 1) _ (key_is_good b bytes full clear)
  where
    go : (e : Bool) (at : ℕ) → (e && bad_key_type (little (part bytes at (only e 2)))) ≡ false
        → (not (eqb (little (part bytes at (only e 2))) 0) && bad_key_type (little (part bytes at (only e 2)))) ≡ false
    go true at h = when_true (not (eqb (little (part bytes at 2)) 0)) (bad_key_type (little (part bytes at 2))) (λ u. h)
    go false at h = refl

-- ---- the steps

module _ (t : List ℕ) (size : length t ≡ 96) (all : AllSound t) where
  arrival : (b : Beside) (bytes : List ℕ) → AllBytes bytes → b.link < 2 ^ 64 → AllSound (receive_table b bytes t)
  unfolding receive_table table_by receive_of answer_of
  arrival b bytes are l = go (receive_of b bytes t) refl
    where
      node : ℕ
      node = sender_of b.link (message_of bytes)

      key : ℕ
      key = (message_of bytes).key

      id : ℕ
      id = (message_of bytes).id

      at : (i : ℕ) (row : Row) → i < rows → SoundRow row → AllSound (with_row t i row)
      at i row li s = put_sound t i row (omega (arith, size)) (sound_narrow s) (λ u. s) all

      put : GoodName node key → no_row t node key ≡ false → Dec (find_of rows t node key < rows) → AllSound (with_row t (row_for t node key) (rolled_in t node key id).row)
      put name room (yes h) =
          let f = found t node key id h in
          subst⁻¹ (λ (x : Rolled). AllSound (with_row t (row_for t node key) x.row)) f.1
          (at (row_for t node key) (rolled_of (row_of t (find_of rows t node key)) id).row (leb-false rows (row_for t node key) room)
          (rolled_sound (row_of t (find_of rows t node key)) id (all (find_of rows t node key) (found_is_in_use_under_the_name t node key h).0)))
      put name room (no n) =
          let f = opens t node key id (omega arith) in
          subst⁻¹ (λ (x : Rolled). AllSound (with_row t (row_for t node key) x.row)) f.1
          (at (row_for t node key) (opened node key id) (leb-false rows (row_for t node key) room) (opened_sound node key id name (id_low bytes are)))

      by : (v : Verdict) (x : Message) (h : Head) (n : ℕ) → receive_of b bytes t ≡ Ok (received v x h n) → AllSound (put_if_new v t (row_for t node key) (rolled_in t node key id).row)
      by Verdict.New v h n e =
          let w = new_of (first_refusal (receiving_order b bytes (no_row t node key))) (rolled_in t node key id).verdict (message_of bytes) v (head_of (message_of bytes)) h (only (message_of bytes).wants (total (answer_to b (message_of bytes)) [])) n e in
          let clear = ap reason_of w.0 in
          let name : GoodName node key =
          record {
            somebody = sender_is_somebody b bytes (no_row t node key) clear;
            kind = key_kind b bytes (no_row t node key) clear;
            node_fits = sender_low b bytes are l;
            key_fits = key_low bytes are;
          } in
          put name (has_row b bytes (no_row t node key) clear) (dec_lt (find_of rows t node key) rows)
      by Verdict.Duplicate v h n e = all

      go : (a : Result Received Refusal) → receive_of b bytes t ≡ a → AllSound (table_after a t (row_for t node key) (rolled_in t node key id).row)
      go (Ok a) e = by a.verdict a.taken.message a.taken.head a.reply e
      go (Err r) e = all

  leaving : (node key : ℕ) → AllSound (remove_table t node key)
  unfolding remove_table
  leaving node key = go (ltb (find_of rows t node key) rows) refl
    where
      go : (b : Bool) → ltb (find_of rows t node key) rows ≡ b → AllSound (cond b (with_row t (find_of rows t node key) freed) t)
      go true e =
          put_sound t (find_of rows t node key) freed (omega (arith, size, ltb-true (find_of rows t node key) rows e)) (record { key = omega arith; highest = omega arith; marks = omega arith }) (λ u. clash false u refl) all
      go false e = all

  restoring : (bytes : List ℕ) → AllBytes bytes → AllSound (restore_table bytes t)
  unfolding restore_table
  restoring bytes are = go (restore_of bytes) refl
    where
      go : (a : Result ℕ Refusal) → restore_of bytes ≡ a → AllSound (rst.table_after a (restored_table bytes) t)
      go (Ok n) e = restored_sound bytes n are (is_taken bytes n e)
      go (Err r) e = all

  step_sound : (s : Step) → Bytes s → Links s → AllSound (table_at t s)
  step_sound (arrives b bytes) are l = arrival b bytes are l
  step_sound (leaves node key) u v = leaving node key
  step_sound (restores bytes) are v = restoring bytes are

-- the empty table has no row in use
pub empty_sound : AllSound empty_table
empty_sound k u = clash false (sym (ap (λ (r : Row). r.used) (empty_row k)) ∙ u) refl

pub history_sound : {t : List ℕ} {book : Book} → Told t book → AllSound t → (steps : List Step) → AllOf steps → AllLinks steps → AllSound (table_of t steps)
unfolding table_of
history_sound {t = t} {book = book} told all [] h l = all
history_sound {t = t} {book = book} told all (s ∷ steps) h l =
    history_sound {t = table_at t s} {book = book_at book s} (one_step told s h.0).1 (step_sound t told.size all s h.0 l.0) steps h.1 l.1
