-- A row that was put is read back, and every other row is as it was. Assumes nothing.
use Prim.Native.Nat.{ℕ, zero, suc, ◌+◌, ◌*◌, ◌/◌, ◌%◌, ◌^◌, ◌≤◌, ◌<◌}
use mathlib.Core.Path.{◌≡◌, refl, sym, ap, ap₂, ◌∙◌}
use mathlib.Core.Bool.{Bool, true, false, ◌&&◌, cond}
use mathlib.Core.List.{List}
use native.Mathlib.Omega.{arith}
use borrow.Author.Tests.{eq-eqb, ne_eqb, eqb-true, eqb-false, lt-ltb, le-ltb}
use lib.ListN.{length, get_or, set, replicate, length-set}
use lib.Seq.{get_or-set_same, get_or-set_other}
use lib.Dec.{eqb}
use Rattle.std.specs.Int.{from_bool}
use Rattle.message.proofs.Logic.{clash}
use Rattle.window.specs.declared.Row.{Row}
use Rattle.table.specs.Table.{rows, empty_table, one_if, freed, row_of, with_row, row_at, put_at, named, row_under}

-- the row of three words
abbrev pub fields : ℕ → ℕ → ℕ → Row
fields x y z = record { used = eqb (y / 2 ^ 48 % 2) 1; node = x; key = y / 2 ^ 32 % 2 ^ 16; highest = y % 2 ^ 32; marks = z % 2 ^ 16 }

-- the library's number of a bit is the one that stands in a row
pub from_bool_one_if : (b : Bool) → from_bool b ≡ one_if b
from_bool_one_if true = refl
from_bool_one_if false = refl

-- and it is a bit
pub one_if_small : (b : Bool) → one_if b ≤ 1
one_if_small true = omega arith
one_if_small false = omega arith

-- ---- a name, as the search compares it

-- another node is another name
pub other_node : (row : Row) (node key : ℕ) → (row.node ≡ node → ⊥) → false ≡ named node key row
other_node row node key h = sym (ap (λ (b : Bool). row.used && b && eqb row.key key) (ne_eqb row.node node h) ∙ go row.used)
  where
    go : (u : Bool) → (u && false && eqb row.key key) ≡ false
    go true = refl
    go false = refl

-- with this node, in-use bit and key id are compared as one number
pub this_node : (w key : ℕ) (node : Bool) → node ≡ true → key < 2 ^ 16
    → eqb (w / 2 ^ 32 % 2 ^ 17) (2 ^ 16 + key) ≡ (eqb (w / 2 ^ 48 % 2) 1 && node && eqb (w / 2 ^ 32 % 2 ^ 16) key)
this_node w key false e l = clash false e refl
this_node w key true e l = one (eqb (w / 2 ^ 32 % 2 ^ 17) (2 ^ 16 + key)) refl
  where
    two : (b : Bool) → eqb (w / 2 ^ 48 % 2) 1 ≡ b → (w / 2 ^ 32 % 2 ^ 17 ≡ 2 ^ 16 + key → ⊥) → false ≡ (b && true && eqb (w / 2 ^ 32 % 2 ^ 16) key)
    two true h n =
        let u : w / 2 ^ 48 % 2 ≡ 1 = eqb-true _ _ h in
        sym (ne_eqb (w / 2 ^ 32 % 2 ^ 16) key (λ (g : w / 2 ^ 32 % 2 ^ 16 ≡ key). n (omega arith)))
    two false h n = refl

    one : (b : Bool) → eqb (w / 2 ^ 32 % 2 ^ 17) (2 ^ 16 + key) ≡ b → b ≡ (eqb (w / 2 ^ 48 % 2) 1 && true && eqb (w / 2 ^ 32 % 2 ^ 16) key)
    one true h =
        let g : w / 2 ^ 32 % 2 ^ 17 ≡ 2 ^ 16 + key = eqb-true _ _ h in
        let u : w / 2 ^ 48 % 2 ≡ 1 = omega arith in
        let v : w / 2 ^ 32 % 2 ^ 16 ≡ key = omega arith in
        sym (ap₂ (λ (a b : Bool). a && true && b) (eq-eqb (w / 2 ^ 48 % 2) 1 u) (eq-eqb (w / 2 ^ 32 % 2 ^ 16) key v))
    one false h = two (eqb (w / 2 ^ 48 % 2) 1) refl (eqb-false _ _ h)

-- a row in use under a name is known but for its ids
pub named_row : (row : Row) (node key : ℕ) → named node key row ≡ true → row_under node key row ≡ row
named_row row node key = go row.used (eqb row.node node) (eqb row.key key) refl refl refl
  where
    go : (u n k : Bool) → row.used ≡ u → eqb row.node node ≡ n → eqb row.key key ≡ k → (u && n && k) ≡ true
        → row_under node key row ≡ row
    go true true true eu en ek h =
        let n : row.node ≡ node = eqb-true _ _ en in
        let k : row.key ≡ key = eqb-true _ _ ek in
        ap₂ (λ (x y : ℕ). record { used = true; node = x; key = y; highest = row.highest; marks = row.marks }) (sym n) (sym k)
        ∙ ap (λ (b : Bool). record { used = b; node = row.node; key = row.key; highest = row.highest; marks = row.marks }) (sym eu)
    go true true false eu en ek h = clash false h refl
    go true false k eu en ek h = clash false h refl
    go false n k eu en ek h = clash false h refl

-- ---- numbers within the table

pub row_within : (t : List ℕ) (i : ℕ) → i < rows → row_at t i ≡ row_of t i
unfolding row_at
row_within t i l = ap (λ (b : Bool). cond b (row_of t i) freed) (lt-ltb i rows l)

pub row_past : (t : List ℕ) (i : ℕ) → rows ≤ i → row_at t i ≡ freed
unfolding row_at
row_past t i l = ap (λ (b : Bool). cond b (row_of t i) freed) (le-ltb i rows l)

pub put_within : (t : List ℕ) (i : ℕ) (row : Row) → i < rows → put_at t i row ≡ with_row t i row
unfolding put_at
put_within t i row l = ap (λ (b : Bool). cond b (with_row t i row) t) (lt-ltb i rows l)

pub put_past : (t : List ℕ) (i : ℕ) (row : Row) → rows ≤ i → put_at t i row ≡ t
unfolding put_at
put_past t i row l = ap (λ (b : Bool). cond b (with_row t i row) t) (le-ltb i rows l)

-- ---- putting a row, and reading it back

-- the fields are such as their words hold
pub record Narrow (row : Row) : Type 0 where
  pub key : row.key < 2 ^ 16
  pub highest : row.highest < 2 ^ 32
  pub marks : row.marks < 2 ^ 16

pub length_put : (t : List ℕ) (i : ℕ) (row : Row) → length (with_row t i row) ≡ length t
unfolding with_row
length_put t i row = simp length-set

-- every other word is as it was
pub other_word : (t : List ℕ) (i k : ℕ) (row : Row) → (k ≡ 3 * i → ⊥) → (k ≡ 3 * i + 1 → ⊥) → (k ≡ 3 * i + 2 → ⊥) → get_or (with_row t i row) k 0 ≡ get_or t k 0
unfolding with_row
other_word t i k row n₀ n₁ n₂ =
    let y : ℕ = one_if row.used * 2 ^ 48 + (row.key * 2 ^ 32 + row.highest) in
    get_or-set_other (set (set t (3 * i) row.node) (3 * i + 1) y) (3 * i + 2) k row.marks 0 n₂
    ∙ get_or-set_other (set t (3 * i) row.node) (3 * i + 1) k y 0 n₁
    ∙ get_or-set_other t (3 * i) k row.node 0 n₀

-- so is every other row
pub other_row : (t : List ℕ) (i j : ℕ) (row : Row) → (j ≡ i → ⊥) → row_of (with_row t i row) j ≡ row_of t j
unfolding row_of
other_row t i j row n =
    let a = other_word t i (3 * j) row (λ e. n (omega arith)) (λ e. omega arith) (λ e. omega arith) in
    let b = other_word t i (3 * j + 1) row (λ e. omega arith) (λ e. n (omega arith)) (λ e. omega arith) in
    let c = other_word t i (3 * j + 2) row (λ e. omega arith) (λ e. omega arith) (λ e. n (omega arith)) in
    λ k. fields (a k) (b k) (c k)

-- the three words of a row say it
words_say : (row : Row) → Narrow row → fields row.node (one_if row.used * 2 ^ 48 + (row.key * 2 ^ 32 + row.highest)) row.marks ≡ row
words_say row s =
    let u = back row.used (row.key * 2 ^ 32 + row.highest) (omega (arith, s.key, s.highest)) in
    let k : (one_if row.used * 2 ^ 48 + (row.key * 2 ^ 32 + row.highest)) / 2 ^ 32 % 2 ^ 16 ≡ row.key = omega (arith, s.key, s.highest) in
    let h : (one_if row.used * 2 ^ 48 + (row.key * 2 ^ 32 + row.highest)) % 2 ^ 32 ≡ row.highest = omega (arith, s.highest) in
    let m : row.marks % 2 ^ 16 ≡ row.marks = omega (arith, s.marks) in
    λ i. record { used = u i; node = row.node; key = k i; highest = h i; marks = m i }
  where
    back : (b : Bool) (x : ℕ) → x < 2 ^ 48 → eqb ((one_if b * 2 ^ 48 + x) / 2 ^ 48 % 2) 1 ≡ b
    back true x l = eq-eqb ((1 * 2 ^ 48 + x) / 2 ^ 48 % 2) 1 (omega arith)
    back false x l = ne_eqb ((0 * 2 ^ 48 + x) / 2 ^ 48 % 2) 1 (λ e. omega arith)

-- what was put is read back
pub same_row : (t : List ℕ) (i : ℕ) (row : Row) → 3 * i + 2 < length t → Narrow row → row_of (with_row t i row) i ≡ row
unfolding row_of with_row
same_row t i row l s =
    let y : ℕ = one_if row.used * 2 ^ 48 + (row.key * 2 ^ 32 + row.highest) in
    let one : List ℕ = set t (3 * i) row.node in
    let two : List ℕ = set one (3 * i + 1) y in
    let a : get_or (set two (3 * i + 2) row.marks) (3 * i) 0 ≡ row.node =
    get_or-set_other two (3 * i + 2) (3 * i) row.marks 0 (λ e. omega arith)
    ∙ get_or-set_other one (3 * i + 1) (3 * i) y 0 (λ e. omega arith)
    ∙ get_or-set_same t (3 * i) row.node 0 (omega arith) in
    let b : get_or (set two (3 * i + 2) row.marks) (3 * i + 1) 0 ≡ y =
    get_or-set_other two (3 * i + 2) (3 * i + 1) row.marks 0 (λ e. omega arith)
    ∙ get_or-set_same one (3 * i + 1) y 0 (omega (arith, length-set t (3 * i) row.node)) in
    let c : get_or (set two (3 * i + 2) row.marks) (3 * i + 2) 0 ≡ row.marks =
    get_or-set_same two (3 * i + 2) row.marks 0 (omega (arith, length-set t (3 * i) row.node, length-set one (3 * i + 1) y)) in
    (λ k. fields (a k) (b k) (c k)) ∙ words_say row s

-- ---- the empty table

pub zero_word : (n k : ℕ) → get_or (replicate {A = ℕ} n 0) k 0 ≡ 0
zero_word zero k = refl
zero_word (suc n) zero = refl
zero_word (suc n) (suc k) = zero_word n k

-- every row of it is free and zero
pub empty_row : (k : ℕ) → row_of empty_table k ≡ freed
unfolding row_of
empty_row k = let z : (j : ℕ) → get_or empty_table j 0 ≡ 0 = zero_word 96 in λ i. fields (z (3 * k) i) (z (3 * k + 1) i) (z (3 * k + 2) i)
