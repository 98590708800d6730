-- Any number of steps, from the empty table and from any table handed in. Assumes nothing.
use mathlib.Core.Path.{◌≡◌, refl, ap, ap₂, subst⁻¹}
use mathlib.Core.List.{List, [], ◌∷◌}
use Prim.Native.Nat.{ℕ}
use native.Mathlib.Omega.{arith}
use lib.ListN.{length}
use Rattle.window.specs.declared.Row.{Row}
use Rattle.table.specs.Table.{rows, empty_table, row_of, named, in_use}
use Rattle.table.proofs.Words.{empty_row}
use Rattle.history.specs.History.{Book, Step, Answer, answers_of, table_at, table_of, empty_book, answers_by, book_at, book_of}
use Rattle.history.specs.HandedIn.{handed_in}
use Rattle.history.specs.Telling.{AllOf, Stand, Told}
use Rattle.table.proofs.Kept.{kept_none}
use Rattle.history.proofs.Told.{named_not}
use Rattle.history.proofs.Own.{own}
use Rattle.history.proofs.Steps.{one_step}

-- ---- any number of steps

pub history : {t : List ℕ} {book : Book} → Told t book → (steps : List Step) → AllOf steps
    → (answers_of t steps ≡ answers_by book steps) × Told (table_of t steps) (book_of book steps)
unfolding answers_of answers_by table_of book_of
history {t = t} {book = book} told [] h = (refl, told)
history {t = t} {book = book} told (s ∷ steps) h =
    let w = one_step told s h.0 in
    let on = history {t = table_at t s} {book = book_at book s} w.1 steps h.1 in
    (ap₂ (λ (a : Answer) (more : List Answer). a ∷ more) w.0 on.0, on.1)

-- ---- where a history starts

-- the empty table tells the empty book
pub told_empty : Told empty_table empty_book
told_empty =
    record {
      size = refl;
      names = λ node key.
          subst⁻¹ (λ (rs : List Row). Stand key rs []) (kept_none rows (named node key) (row_of empty_table) (λ k l. named_not node key (row_of empty_table k) (ap (λ (r : Row). r.used) (empty_row k)))) tt;
      count = ap length (kept_none rows in_use (row_of empty_table) (λ k l. ap (λ (r : Row). r.used) (empty_row k)));
    }

-- any table handed in tells its own book
pub told_handed_in : (t : List ℕ) → length t ≡ 96 → Told t (handed_in t)
unfolding handed_in row_of
told_handed_in t e = record { size = e; names = λ node key. own node key rows (row_of t) (λ k. omega arith); count = refl }
