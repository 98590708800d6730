-- The table: rows in words, three to a row, the search for one, and those in use ("Rows and verdicts"). Assumes nothing.
use Rattle.std.specs.Prelude.{ℕ, zero, suc, ◌+◌, ◌*◌, ◌/◌, ◌%◌, ◌^◌, Bool, true, false, not, ◌&&◌, cond, List, [], ◌∷◌, get_or, set, replicate, eqb, ltb, Option, None, Some}
use Rattle.std.specs.Simd.{first_chunks}
use Rattle.window.specs.declared.Row.{Row}

-- how many rows the gateway has
abbrev pub rows : ℕ
rows = 32

-- the empty table: every word is zero
abbrev pub empty_table : List ℕ
empty_table = replicate (3 * rows) 0

-- 1 for true, 0 for false
abbrev pub one_if : Bool → ℕ
one_if true = 1
one_if false = 0

-- the words of a table, three to a row
unfoldable pub words_by_row : List ℕ → List (List ℕ)
words_by_row t = first_chunks 3 rows t

-- the row that stands in the words from 3 * i on: node, then highest id, key id and in-use bit in one word, then the marks
unfoldable pub row_of : List ℕ → ℕ → Row
row_of t i =
    record {
      used = eqb (get_or t (3 * i + 1) 0 / 2 ^ 48 % 2) 1;
      node = get_or t (3 * i) 0;
      key = get_or t (3 * i + 1) 0 / 2 ^ 32 % 2 ^ 16;
      highest = get_or t (3 * i + 1) 0 % 2 ^ 32;
      marks = get_or t (3 * i + 2) 0 % 2 ^ 16;
    }

-- the table with a row put there: three words, and no others
unfoldable pub with_row : List ℕ → ℕ → Row → List ℕ
with_row t i row =
    set (set (set t (3 * i) row.node) (3 * i + 1) (one_if row.used * 2 ^ 48 + (row.key * 2 ^ 32 + row.highest))) (3 * i + 2) row.marks

-- a free row of zeros, as removal leaves it
abbrev pub freed : Row
freed = record { used = false; node = 0; key = 0; highest = 0; marks = 0 }

-- the row at any number: past the last it is free and zero
unfoldable pub row_at : List ℕ → ℕ → Row
row_at t i = cond (ltb i rows) (row_of t i) freed

-- the table with a row put at any number: past the last nothing changes
unfoldable pub put_at : List ℕ → ℕ → Row → List ℕ
put_at t i row = cond (ltb i rows) (with_row t i row) t

-- the same of n words, three to a row
abbrev pub put_among : ℕ → List ℕ → ℕ → Row → List ℕ
put_among n words i row = cond (ltb i (n / 3)) (with_row words i row) words

-- the least number below n at which p holds, or n
unfoldable pub first_below : ℕ → (ℕ → Bool) → ℕ
first_below zero p = 0
first_below (suc n) p = cond (p 0) 0 (suc (first_below n (λ k. p (suc k))))

-- a row in use under this name: only such a row is found
abbrev pub named : ℕ → ℕ → Row → Bool
named node key row = row.used && eqb row.node node && eqb row.key key

-- a row in use under this name, with the ids of another
abbrev pub row_under : ℕ → ℕ → Row → Row
row_under node key row = record { used = true; node = node; key = key; highest = row.highest; marks = row.marks }

-- a row under its own name, with these ids
abbrev pub with_ids : Row → ℕ → ℕ → Row
with_ids row highest marks = record { used = row.used; node = row.node; key = row.key; highest = highest; marks = marks }

-- a row that is not in use
abbrev pub is_free : Row → Bool
is_free row = not row.used

-- of n rows, the first that is in use under this name, or n
unfoldable pub find_of : ℕ → List ℕ → ℕ → ℕ → ℕ
find_of n t node key = first_below n (λ i. named node key (row_of t i))

-- of n rows, the lowest-numbered free one, or n
unfoldable pub free_of : ℕ → List ℕ → ℕ
free_of n t = first_below n (λ i. is_free (row_of t i))

-- the number of a row that was found: rows stands for none
unfoldable pub found_row : ℕ → Option ℕ
found_row i = cond (ltb i rows) (Some i) None

-- ---- the rows of which something holds

-- of the rows f 0 to f (n - 1) those of which p holds, in their order
unfoldable pub kept : ℕ → (Row → Bool) → (ℕ → Row) → List Row
kept zero p f = []
kept (suc n) p f = cond (p (f 0)) (f 0 ∷ kept n p (λ k. f (suc k))) (kept n p (λ k. f (suc k)))

-- a row in use, under whatever name
abbrev pub in_use : Row → Bool
in_use row = row.used

-- the rows of a table that are in use, in their order
abbrev pub rows_in_use : List ℕ → List Row
rows_in_use t = kept rows in_use (row_of t)
