-- Restoring: the restored table tells the book of the same bytes, and under each name that book has one list or none. Assumes nothing.
use Rattle.std.specs.Prelude.{Result, Ok, Err}
use Rattle.message.specs.declared.answers.Refusal.{Refusal}
use Prim.Native.Nat.{ℕ, zero, suc, ◌+◌, ◌^◌, ◌≤◌, ◌<◌}
use mathlib.Core.Path.{◌≡◌, refl, sym, ap, ap₂, subst⁻¹, ◌∙◌}
use mathlib.Core.Bool.{Bool, true, false, ◌&&◌, cond}
use mathlib.Core.List.{List, [], ◌∷◌, map}
use native.Mathlib.Omega.{arith}
use native.Mathlib.Decide.{dec_lt}
use borrow.Author.Tests.{eq-eqb}
use lib.ListN.{length}
use Rattle.wire.proofs.Digits.{AllBytes}
use Rattle.message.proofs.Logic.{clash}
use Rattle.window.specs.Rule.{marked}
use Rattle.window.specs.Rows.{marks_held, list_of}
use Rattle.window.specs.declared.Row.{Row}
use Rattle.window.proofs.Rows.{list_used}
use Rattle.table.specs.Table.{rows, named, kept, in_use}
use Rattle.table.proofs.Kept.{kept_none, kept_one, kept_every}
use Rattle.records.specs.Records.{row_in, same_name}
use Rattle.records.specs.Restoring.{record_count, row_from, restore_of, restored_table, table_after, restore_table}
use Rattle.records.proofs.Placed.{narrow_from, restored_length, restored_kept, Taken, is_taken}
use Rattle.history.specs.History.{Book, restores, restored_book, book_restored, book_at}
use Rattle.history.specs.Telling.{Stand, Told, AtMostOne}
use Rattle.history.proofs.Told.{named_node, named_is}
use Rattle.history.proofs.Own.{own}

-- ---- the table tells the book

-- each restored row stands for its own list, and no other row is in use
pub told_restored : (bytes : List ℕ) → AllBytes bytes → record_count bytes ≤ rows → Told (restored_table bytes) (restored_book bytes)
unfolding restored_book row_in
told_restored bytes all most =
    record {
      size = restored_length bytes;
      names = λ node key.
          subst⁻¹ (λ (rs : List Row). Stand key rs (map (list_of marks_held) (kept (record_count bytes) (named node key) (row_from bytes))))
          (restored_kept bytes all most (named node key) refl)
          (own node key (record_count bytes) (row_from bytes) (λ k. (narrow_from all k).highest));
      count = ap length (restored_kept bytes all most in_use refl) ∙ kept_every (record_count bytes) in_use (row_from bytes) (λ k l. refl);
    }

-- so it does after restoring, whether the bytes are taken or refused
pub restoring : {t : List ℕ} {book : Book} → Told t book → (bytes : List ℕ) → AllBytes bytes → Told (restore_table bytes t) (book_at book (restores bytes))
unfolding restore_table book_at
restoring {t} {book} told bytes all = go (restore_of bytes) refl
  where
    go : (a : Result ℕ Refusal) → restore_of bytes ≡ a → Told (table_after a (restored_table bytes) t) (book_restored a (restored_book bytes) book)
    go (Ok n) e = told_restored bytes all (is_taken bytes n e).most
    go (Err r) e = told

-- ---- the lists of a name

-- two rows under one name have one name
both_named : (node key : ℕ) (a b : Row) → named node key a ≡ true → named node key b ≡ true → same_name a b ≡ true
both_named node key a b p q =
    let x = named_node node key a p in
    let y = named_node node key b q in
    ap₂ (λ (c d : Bool). c && d) (eq-eqb a.node b.node (x.1 ∙ sym y.1)) (eq-eqb a.key b.key (x.2 ∙ sym y.2))

-- where it holds of one row at most there is one list or none
one_kept : (n : ℕ) (p : Row → Bool) (f : ℕ → Row) → ((i : ℕ) → i < n → (j : ℕ) → j < i → p (f j) ≡ true → p (f i) ≡ false) → AtMostOne (map (list_of marks_held) (kept n p f))
unfolding kept
one_kept zero p f h = tt
one_kept (suc n) p f h = go (p (f 0)) refl (one_kept n p (λ k. f (suc k)) (λ i l j m e. h (suc i) (omega arith) (suc j) (omega arith) e))
  where
    go : (b : Bool) → p (f 0) ≡ b → AtMostOne (map (list_of marks_held) (kept n p (λ k. f (suc k))))
        → AtMostOne (map (list_of marks_held) (cond b (f 0 ∷ kept n p (λ k. f (suc k))) (kept n p (λ k. f (suc k)))))
    go true e on = subst⁻¹ (λ (rs : List Row). AtMostOne (map (list_of marks_held) (f 0 ∷ rs))) (kept_none n p (λ k. f (suc k)) (λ k l. h (suc k) (omega arith) 0 (omega arith) e)) tt
    go false e on = on

-- the list of a record's row: the position of its highest id and those of its marks
pub row_list : (bytes : List ℕ) (i : ℕ)
    → let row : Row = row_from bytes i in list_of marks_held row ≡ (row.highest + 2 ^ 32) ∷ marked marks_held row.marks (row.highest + 2 ^ 32)
unfolding row_in
row_list bytes i = list_used marks_held (row_from bytes i) refl

module _ {bytes : List ℕ} {n : ℕ} (taken : Taken bytes n) where
  -- no two records have one name
  apart : (node key i : ℕ) → i < record_count bytes → (j : ℕ) → j < i → named node key (row_from bytes j) ≡ true → named node key (row_from bytes i) ≡ false
  apart node key i l j m e = go (named node key (row_from bytes i)) refl
    where
      go : (b : Bool) → named node key (row_from bytes i) ≡ b → b ≡ false
      go true h = clash (same_name (row_from bytes j) (row_from bytes i)) (both_named node key (row_from bytes j) (row_from bytes i) e h) (taken.alone i l j m)
      go false h = refl

  -- the name of a record has the list of its row
  pub restored_list : (i : ℕ) → i < record_count bytes → (restored_book bytes).lists (row_from bytes i).node (row_from bytes i).key ≡ list_of marks_held (row_from bytes i) ∷ []
  unfolding restored_book row_in
  restored_list i l = ap (map (list_of marks_held)) (kept_one (record_count bytes) here (row_from bytes) i l is others)
    where
      here : Row → Bool
      here = named (row_from bytes i).node (row_from bytes i).key

      is : named (row_from bytes i).node (row_from bytes i).key (row_from bytes i) ≡ true
      is = named_is (row_from bytes i).node (row_from bytes i).key (row_from bytes i) refl refl refl

      others : (k : ℕ) → k < record_count bytes → (k ≡ i → ⊥) → named (row_from bytes i).node (row_from bytes i).key (row_from bytes k) ≡ false
      others k lk m = go (dec_lt i k) (named (row_from bytes i).node (row_from bytes i).key (row_from bytes k)) refl
        where
          go : Dec (i < k) → (b : Bool) → named (row_from bytes i).node (row_from bytes i).key (row_from bytes k) ≡ b → b ≡ false
          go (yes a) true e = clash true refl (sym e ∙ apart (row_from bytes i).node (row_from bytes i).key k lk i a is)
          go (no a) true e = clash true refl (sym is ∙ apart (row_from bytes i).node (row_from bytes i).key i l k (omega arith) e)
          go d false e = refl

  -- a name that stands in no record has none
  pub no_record_no_list : (node key : ℕ) → ((i : ℕ) → i < record_count bytes → named node key (row_from bytes i) ≡ false) → (restored_book bytes).lists node key ≡ []
  unfolding restored_book
  no_record_no_list node key h = ap (map (list_of marks_held)) (kept_none (record_count bytes) (named node key) (row_from bytes) h)

  -- so each name has one list or none
  pub one_restored : (node key : ℕ) → AtMostOne ((restored_book bytes).lists node key)
  unfolding restored_book
  one_restored node key = one_kept (record_count bytes) (named node key) (row_from bytes) (apart node key)
