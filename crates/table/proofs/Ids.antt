-- Putting ids alone into a row whose name is known: it comes to the row put whole. Assumes nothing.
use Prim.Native.Nat.{ℕ, ◌+◌, ◌*◌, ◌/◌, ◌%◌, ◌^◌, ◌<◌}
use mathlib.Core.Path.{◌≡◌, refl, sym, ap, ap₂, ◌∙◌}
use mathlib.Core.Bool.{Bool, true, false}
use mathlib.Core.List.{List}
use native.Mathlib.Omega.{arith}
use borrow.Author.Tests.{eqb-true, eqb-false}
use lib.ListN.{get_or, set}
use lib.Seq.{set-get_or}
use lib.Dec.{eqb}
use Rattle.window.specs.Rows.{rolled_of}
use Rattle.window.specs.declared.Row.{Row}
use Rattle.window.specs.declared.Rolled.{Rolled}
use Rattle.window.proofs.Rows.{stays_in_use}
use Rattle.table.specs.Table.{rows, one_if, row_of, with_row, row_at, put_at, named, row_under, with_ids, find_of}
use Rattle.table.proofs.Words.{named_row, row_within, put_within}
use Rattle.table.proofs.Found.{found_is_named}

-- key id and in-use bit are as they were, and the other bits of their word are clear
kept_name : (w h : ℕ) → w / 2 ^ 32 % 2 ^ 17 * 2 ^ 32 + h ≡ one_if (eqb (w / 2 ^ 48 % 2) 1) * 2 ^ 48 + (w / 2 ^ 32 % 2 ^ 16 * 2 ^ 32 + h)
kept_name w h = go (eqb (w / 2 ^ 48 % 2) 1) refl
  where
    go : (b : Bool) → eqb (w / 2 ^ 48 % 2) 1 ≡ b → w / 2 ^ 32 % 2 ^ 17 * 2 ^ 32 + h ≡ one_if b * 2 ^ 48 + (w / 2 ^ 32 % 2 ^ 16 * 2 ^ 32 + h)
    go true e = let u : w / 2 ^ 48 % 2 ≡ 1 = eqb-true _ _ e in omega arith
    go false e = let u : w / 2 ^ 48 % 2 ≡ 1 → ⊥ = eqb-false _ _ e in omega arith

-- two words are stored, and that is the row with these ids: the word of its node has what it had
pub ids_put : (t : List ℕ) (i h m : ℕ) → i < rows
    → set (set t (3 * i + 1) (get_or t (3 * i + 1) 0 / 2 ^ 32 % 2 ^ 17 * 2 ^ 32 + h)) (3 * i + 2) m ≡ put_at t i (with_ids (row_at t i) h m)
unfolding row_of with_row
ids_put t i h m l =
    sym (put_within t i (with_ids (row_at t i) h m) l
    ∙ ap (λ (r : Row). with_row t i (with_ids r h m)) (row_within t i l)
    ∙ ap₂ (λ (s : List ℕ) (w : ℕ). set (set s (3 * i + 1) w) (3 * i + 2) m) (set-get_or t (3 * i) 0) (sym (kept_name (get_or t (3 * i + 1) 0) h)))

-- the row of a name is known but for its ids
pub named_with_ids : (row : Row) (node key h m : ℕ) → named node key row ≡ true
    → with_ids row h m ≡ record { used = true; node = node; key = key; highest = h; marks = m }
named_with_ids row node key h m e = sym (ap (λ (r : Row). with_ids r h m) (named_row row node key e))

-- where a row has the name of another in use, putting the other's ids puts the other whole
pub ids_put_row : (t : List ℕ) (i node key : ℕ) (row : Row) → i < rows → named node key (row_of t i) ≡ true
    → row.used ≡ true → row.node ≡ node → row.key ≡ key → put_at t i (with_ids (row_at t i) row.highest row.marks) ≡ put_at t i row
ids_put_row t i node key row l e u n k =
    ap (λ (r : Row). put_at t i (with_ids r row.highest row.marks)) (row_within t i l)
    ∙ ap (put_at t i) (named_with_ids (row_of t i) node key row.highest row.marks e)
    ∙ (λ j. put_at t i (record { used = sym u j; node = sym n j; key = sym k j; highest = row.highest; marks = row.marks }))

-- as the code goes: the row found is rolled, and putting its ids puts it whole
pub rolled_ids_put : (t : List ℕ) (i node key id : ℕ) (row : Row) (rolled : Rolled) → i ≡ find_of rows t node key → i < rows
    → row ≡ row_under node key (row_at t i) → rolled ≡ rolled_of row id
    → put_at t i (with_ids (row_at t i) rolled.row.highest rolled.row.marks) ≡ put_at t i rolled.row
rolled_ids_put t i node key id row rolled e l r q =
    let s = stays_in_use row id (ap (λ (x : Row). x.used) r) in
    ids_put_row t i node key rolled.row l (found_is_named t node key i e l)
    (ap (λ (x : Rolled). x.row.used) q ∙ s.0)
    (ap (λ (x : Rolled). x.row.node) q ∙ s.1 ∙ ap (λ (x : Row). x.node) r)
    (ap (λ (x : Rolled). x.row.key) q ∙ s.2 ∙ ap (λ (x : Row). x.key) r)
