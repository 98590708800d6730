-- The rows in use of a table are sound, one after the other, where each is sound and each name has one list or none in the book that the table
-- tells. Assumes nothing.
use Prim.Native.Nat.{ℕ, zero, suc, ◌≤◌, ◌<◌}
use mathlib.Core.Path.{◌≡◌, refl}
use mathlib.Core.Bool.{Bool, true, false, cond}
use mathlib.Core.List.{List, [], ◌∷◌}
use native.Mathlib.Omega.{arith}
use lib.ListN.{length}
use Rattle.window.specs.declared.Row.{Row}
use Rattle.table.specs.Table.{rows, row_of, named, kept, in_use, rows_in_use}
use Rattle.table.proofs.Kept.{kept_two}
use Rattle.records.specs.Records.{same_name}
use Rattle.records.specs.Sound.{SoundRow, NoneNamed, Sound}
use Rattle.history.specs.History.{Book}
use Rattle.history.specs.Telling.{Stand, Told, AtMostOne}
use Rattle.history.proofs.Told.{named_is, same_name_lem}
use Rattle.history.proofs.SoundRows.{AllSound}

-- ---- rows in use, one after the other

none_named : (n : ℕ) (f : ℕ → Row) (row : Row) → ((k : ℕ) → k < n → (f k).used ≡ true → same_name row (f k) ≡ false) → NoneNamed row (kept n in_use f)
unfolding kept
none_named zero f row h = tt
none_named (suc n) f row h = go (f 0).used refl (none_named n (λ k. f (suc k)) row (λ k l. h (suc k) (omega arith)))
  where
    go : (b : Bool) → (f 0).used ≡ b → NoneNamed row (kept n in_use (λ k. f (suc k)))
        → NoneNamed row (cond b (f 0 ∷ kept n in_use (λ k. f (suc k))) (kept n in_use (λ k. f (suc k))))
    go true e on = (h 0 (omega arith) e, on)
    go false e on = on

sound_kept : (n : ℕ) (f : ℕ → Row) → ((k : ℕ) → (f k).used ≡ true → SoundRow (f k))
    → ((i : ℕ) → i < n → (j : ℕ) → j < i → (f j).used ≡ true → (f i).used ≡ true → same_name (f j) (f i) ≡ false) → Sound (kept n in_use f)
unfolding kept
sound_kept zero f s a = tt
sound_kept (suc n) f s a =
    go (f 0).used refl (sound_kept n (λ k. f (suc k)) (λ k. s (suc k)) (λ i l j m. a (suc i) (omega arith) (suc j) (omega arith)))
  where
    go : (b : Bool) → (f 0).used ≡ b → Sound (kept n in_use (λ k. f (suc k)))
        → Sound (cond b (f 0 ∷ kept n in_use (λ k. f (suc k))) (kept n in_use (λ k. f (suc k))))
    go true e on = (s 0 e, none_named n (λ k. f (suc k)) (f 0) (λ k l u. a (suc k) (omega arith) 0 (omega arith) e u), on)
    go false e on = on

-- ---- no two of one name

stand_length : (key : ℕ) (rs : List Row) (pss : List (List ℕ)) → Stand key rs pss → AtMostOne pss → length rs ≤ 1
stand_length key [] pss s p = omega arith
stand_length key (row ∷ rs) [] s p = absurd s
stand_length key (row ∷ []) (ps ∷ pss) s p = omega arith
stand_length key (row ∷ other ∷ rs) (ps ∷ []) s p = absurd s.1
stand_length key (row ∷ other ∷ rs) (ps ∷ qs ∷ rest) s p = absurd p

module _ {t : List ℕ} {book : Book} (told : Told t book) (one : (node key : ℕ) → AtMostOne (book.lists node key)) where
  apart : (i : ℕ) → i < rows → (j : ℕ) → j < i → (row_of t j).used ≡ true → (row_of t i).used ≡ true → same_name (row_of t j) (row_of t i) ≡ false
  apart i l j m u v = go (same_name (row_of t j) (row_of t i)) refl
    where
      node : ℕ
      node = (row_of t i).node

      key : ℕ
      key = (row_of t i).key

      go : (b : Bool) → same_name (row_of t j) (row_of t i) ≡ b → b ≡ false
      go true e =
          let w = same_name_lem (row_of t j).node (row_of t j).key node key e in
          let two = kept_two rows (named node key) (row_of t) i l j m (named_is node key (row_of t j) u w.0 w.1) (named_is node key (row_of t i) v refl refl) in
          let z : ⊥ = omega (arith, stand_length key (kept rows (named node key) (row_of t)) (book.lists node key) (told.names node key) (one node key)) in
          absurd z
      go false e = refl

  pub sound_table : AllSound t → Sound (rows_in_use t)
  sound_table all = sound_kept rows (row_of t) all apart
