-- Rows put one after the other are a run of words. With zeros behind them nothing is left of the table before. Assumes nothing.
use Prim.Native.Nat.{ℕ, zero, suc, ◌+◌, ◌-◌, ◌*◌, ◌^◌, ◌≤◌}
use mathlib.Core.Path.{◌≡◌, refl, sym, ap, ap₂, ◌∙◌}
use mathlib.Core.List.{List, [], ◌∷◌, ◌++◌, append-nil}
use native.Mathlib.Omega.{arith}
use lib.ListN.{length, set, take, drop, replicate, length-append, length-replicate}
use lib.Seq.{sets, take_at}
use Rattle.std.proofs.lemmas.List.{drop-replicate}
use Rattle.wire.proofs.Runs.{sets_then, sets_front}
use Rattle.window.specs.declared.Row.{Row}
use Rattle.table.specs.Table.{rows, empty_table, one_if, with_row}
use Rattle.records.specs.Restoring.{with_rows}

-- ---- rows

-- the three words of a row
abbrev words_of : Row → List ℕ
words_of row = row.node ∷ (one_if row.used * 2 ^ 48 + (row.key * 2 ^ 32 + row.highest)) ∷ row.marks ∷ []

-- those of the rows f 0 to f (n - 1)
words_to : ℕ → (ℕ → Row) → List ℕ
words_to zero f = []
words_to (suc n) f = words_to n f ++ words_of (f n)

length_words : (n : ℕ) (f : ℕ → Row) → length (words_to n f) ≡ 3 * n
unfolding words_to
length_words zero f = refl
length_words (suc n) f = length-append (words_to n f) (words_of (f n)) ∙ omega (arith, length_words n f)

row_run : (t : List ℕ) (i : ℕ) (row : Row) → with_row t i row ≡ sets t (3 * i) (words_of row)
unfolding with_row
row_run t i row =
    let a : 3 * i + 1 ≡ suc (3 * i) = omega arith in
    let b : 3 * i + 2 ≡ suc (suc (3 * i)) = omega arith in
    ap₂ (λ (j k : ℕ). set (set (set t (3 * i) row.node) j (one_if row.used * 2 ^ 48 + (row.key * 2 ^ 32 + row.highest))) k row.marks) a b

rows_run : (n : ℕ) (f : ℕ → Row) (t : List ℕ) → with_rows n f t ≡ sets t 0 (words_to n f)
unfolding with_rows words_to
rows_run zero f t = refl
rows_run (suc n) f t =
    row_run (with_rows n f t) n (f n)
    ∙ ap (λ (l : List ℕ). sets l (3 * n) (words_of (f n))) (rows_run n f t)
    ∙ sets_then t 0 (words_to n f) (words_of (f n)) (3 * n) (omega (arith, length_words n f))

-- ---- rows, and zeros behind them

no_more : (l : List ℕ) → length l ≡ 0 → l ≡ []
no_more [] e = refl
no_more (x ∷ l) e = absurd (omega arith)

-- they are the rows put into the empty table
pub all_put : (n : ℕ) (f : ℕ → Row) (t zeros tail : List ℕ) → n ≤ rows → length t ≡ 96 → zeros ≡ replicate (96 - 3 * n) 0 → length tail ≡ 0
    → take (3 * n) (with_rows n f t) ++ (zeros ++ tail) ≡ with_rows n f empty_table
all_put n f t zeros tail l e z o =
    let w : List ℕ = words_to n f in
    let a : length w ≡ 3 * n = length_words n f in
    let front : take (3 * n) (with_rows n f t) ≡ w =
    ap (take (3 * n)) (rows_run n f t ∙ sets_front t w (omega (arith, a))) ∙ take_at w (drop (length w) t) (3 * n) a in
    let behind : zeros ++ tail ≡ drop (length w) empty_table =
    ap (λ (r : List ℕ). zeros ++ r) (no_more tail o) ∙ append-nil zeros ∙ z ∙ sym (ap (λ (k : ℕ). drop k empty_table) a ∙ drop-replicate (3 * n) 96 0) in
    ap₂ (λ (u v : List ℕ). u ++ v) front behind
    ∙ sym (rows_run n f empty_table ∙ sets_front empty_table w (omega (arith, a, length-replicate {A = ℕ} 96 0)))
