-- The words of a table row by row: each row stands in its three. Assumes nothing.
use Prim.Native.Nat.{ℕ, zero, suc, ◌+◌, ◌*◌, ◌<◌}
use mathlib.Core.Path.{◌≡◌, refl, sym, ap, ◌∙◌}
use mathlib.Core.List.{List, []}
use native.Mathlib.Omega.{arith}
use Rattle.std.proofs.Common.{length, get_or, take, drop}
use Rattle.std.proofs.lemmas.List.{get_or-take, get_or-drop}
use Rattle.std.specs.Simd.{first_chunks}
use Rattle.table.proofs.Words.{fields, row_within}
use Rattle.table.specs.Table.{rows, words_by_row, row_of, row_at}

-- the row in three words is that of these words
row_in_front : (t : List ℕ) → row_of (take 3 t) 0 ≡ row_of t 0
unfolding row_of
row_in_front t =
    λ i. fields (get_or-take 3 t 0 0 (omega arith) i) (get_or-take 3 t 1 0 (omega arith) i) (get_or-take 3 t 2 0 (omega arith) i)

-- behind the first row the second is the first
row_behind : (t : List ℕ) (k : ℕ) → row_of (drop 3 t) k ≡ row_of t (suc k)
unfolding row_of
row_behind t k = λ i. fields (word (3 * k) (3 * suc k) (omega arith) i) (word (3 * k + 1) (3 * suc k + 1) (omega arith) i) (word (3 * k + 2) (3 * suc k + 2) (omega arith) i)
  where
    word : (j m : ℕ) → 3 + j ≡ m → get_or (drop 3 t) j 0 ≡ get_or t m 0
    word j m e = get_or-drop 3 t j 0 ∙ ap (λ (n : ℕ). get_or t n 0) e

length_chunks : (n : ℕ) (t : List ℕ) → length (first_chunks 3 n t) ≡ n
length_chunks zero t = refl
length_chunks (suc n) t = ap suc (length_chunks n (drop 3 t))

chunk_at : (n : ℕ) (t : List ℕ) (i : ℕ) → i < n → row_of (get_or (first_chunks 3 n t) i []) 0 ≡ row_of t i
chunk_at zero t i l = absurd (omega arith)
chunk_at (suc n) t zero l = row_in_front t
chunk_at (suc n) t (suc i) l = chunk_at n (drop 3 t) i (omega arith) ∙ row_behind t i

pub length_by_row : (t : List ℕ) → length (words_by_row t) ≡ rows
unfolding words_by_row
length_by_row t = length_chunks rows t

-- the row in the words at a number is the one of that number
pub row_by_row : (ws : List (List ℕ)) (t : List ℕ) (i : ℕ) → ws ≡ words_by_row t → i < rows → row_of (get_or ws i []) 0 ≡ row_of t i
unfolding words_by_row
row_by_row ws t i e l = ap (λ (us : List (List ℕ)). row_of (get_or us i []) 0) e ∙ chunk_at rows t i l

-- the words found at a number are the row there
pub row_at_words : (w : List ℕ) (ws : List (List ℕ)) (t : List ℕ) (i : ℕ) → w ≡ get_or ws i [] → ws ≡ words_by_row t → i < rows → row_of w 0 ≡ row_at t i
row_at_words w ws t i e f l = ap (λ (v : List ℕ). row_of v 0) e ∙ row_by_row ws t i f l ∙ sym (row_within t i l)
