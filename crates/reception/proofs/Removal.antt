-- What a removal leaves: the row of the name free and zero, all others as they were, and that row used again. Assumes nothing.
use Rattle.std.specs.Prelude.{Result, Ok, Err}
use Prim.Native.Nat.{ℕ, ◌+◌, ◌*◌, ◌≤◌, ◌<◌}
use mathlib.Core.Path.{◌≡◌, refl, sym, ap, ◌∙◌}
use mathlib.Core.Bool.{Bool, true, false, not, cond}
use mathlib.Core.List.{List}
use native.Mathlib.Omega.{arith}
use native.Mathlib.Decide.{ℕ_discrete}
use borrow.Author.Tests.{lt-ltb}
use lib.Dec.{ltb}
use lib.ListN.{length, get_or, set, length-set}
use lib.Seq.{get_or-set_same, get_or-set_other}
use Rattle.message.specs.Reasons.{refusal}
use Rattle.message.specs.declared.answers.Refusal.{Refusal}
use Rattle.message.specs.declared.answers.Reason.TheVariants.{NoRow}
use Rattle.table.specs.Table.{rows, freed, row_of, with_row, named, is_free, find_of, free_of}
use Rattle.table.proofs.Least.{least_is}
use Rattle.table.proofs.Words.{fields}
use Rattle.table.proofs.Promises.{other_row, other_word, length_put}
use Rattle.table.proofs.Found.{none_there_none_found}
use Rattle.admission.specs.Admission.{row_for}
use Rattle.admission.proofs.Places.{opens}
use Rattle.reception.specs.Removing.{remove_of, remove_table}

module _ (t : List ℕ) (node key : ℕ) where
  -- ---- what stays

  -- A refused removal changes nothing.
  pub refused_removal_changes_nothing : (r : Refusal) → remove_of t node key ≡ Err r → remove_table t node key ≡ t
  unfolding remove_of remove_table
  refused_removal_changes_nothing r e = go (ltb (find_of rows t node key) rows) e
    where
      go : (b : Bool) → ◌≡◌ {A = Result (Unit {0}) Refusal} (cond b (Ok tt) (Err (refusal NoRow))) (Err r) → cond b (with_row t (find_of rows t node key) freed) t ≡ t
      go true e = let z : ◌≡◌ {A = ℕ} 0 1 = cc in let w : ⊥ = omega arith in absurd w
      go false e = refl

  -- A refusal of removing points at no byte.
  pub removal_points_at_no_byte : (r : Refusal) → remove_of t node key ≡ Err r → r.offset ≡ 0
  unfolding remove_of
  removal_points_at_no_byte r e = go (ltb (find_of rows t node key) rows) e
    where
      go : (b : Bool) → ◌≡◌ {A = Result (Unit {0}) Refusal} (cond b (Ok tt) (Err (refusal NoRow))) (Err r) → r.offset ≡ 0
      go true e = let z : ◌≡◌ {A = ℕ} 0 1 = cc in let w : ⊥ = omega arith in absurd w
      go false e = let s : refusal NoRow ≡ r = cc in sym (ap (λ (q : Refusal). q.offset) s)

  -- No removal changes another row than that of its name.
  pub removal_touches_one_row : (j : ℕ) → (j ≡ find_of rows t node key → ⊥) → row_of (remove_table t node key) j ≡ row_of t j
  unfolding remove_table
  removal_touches_one_row j n = go (ltb (find_of rows t node key) rows)
    where
      go : (b : Bool) → row_of (cond b (with_row t (find_of rows t node key) freed) t) j ≡ row_of t j
      go true = other_row t (find_of rows t node key) j freed n
      go false = refl

  -- Nor any other word than that row's three.
  pub removal_touches_three_words : (k : ℕ)
      → let place : ℕ = find_of rows t node key in
      (k ≡ 3 * place → ⊥) → (k ≡ 3 * place + 1 → ⊥) → (k ≡ 3 * place + 2 → ⊥) → get_or (remove_table t node key) k 0 ≡ get_or t k 0
  unfolding remove_table
  removal_touches_three_words k n₀ n₁ n₂ = go (ltb (find_of rows t node key) rows)
    where
      go : (b : Bool) → get_or (cond b (with_row t (find_of rows t node key) freed) t) k 0 ≡ get_or t k 0
      go true = other_word t (find_of rows t node key) k freed n₀ n₁ n₂
      go false = refl

  -- Nor the table's length.
  pub removal_keeps_the_length : length (remove_table t node key) ≡ length t
  unfolding remove_table
  removal_keeps_the_length = go (ltb (find_of rows t node key) rows)
    where
      go : (b : Bool) → length (cond b (with_row t (find_of rows t node key) freed) t) ≡ length t
      go true = length_put t (find_of rows t node key) freed
      go false = refl

  -- ---- the row removed

  module _ (size : length t ≡ 96) (l : find_of rows t node key < rows) where
    is_put : remove_table t node key ≡ with_row t (find_of rows t node key) freed
    unfolding remove_table
    is_put = ap (λ (b : Bool). cond b (with_row t (find_of rows t node key) freed) t) (lt-ltb (find_of rows t node key) rows l)

    -- Its three words are zero.
    pub removed_words_are_zero : let place : ℕ = find_of rows t node key in
        let after : List ℕ = remove_table t node key in (get_or after (3 * place) 0 ≡ 0) × (get_or after (3 * place + 1) 0 ≡ 0) × (get_or after (3 * place + 2) 0 ≡ 0)
    unfolding with_row
    removed_words_are_zero =
        let i : ℕ = find_of rows t node key in
        let one : List ℕ = set t (3 * i) 0 in
        let two : List ℕ = set one (3 * i + 1) 0 in
        let short : 3 * i + 2 < length t = omega (arith, size, l) in
        let a : get_or (set two (3 * i + 2) 0) (3 * i) 0 ≡ 0 =
        get_or-set_other two (3 * i + 2) (3 * i) 0 0 (λ e. omega arith)
        ∙ get_or-set_other one (3 * i + 1) (3 * i) 0 0 (λ e. omega arith)
        ∙ get_or-set_same t (3 * i) 0 0 (omega (arith, short)) in
        let b : get_or (set two (3 * i + 2) 0) (3 * i + 1) 0 ≡ 0 =
        get_or-set_other two (3 * i + 2) (3 * i + 1) 0 0 (λ e. omega arith)
        ∙ get_or-set_same one (3 * i + 1) 0 0 (omega (arith, short, length-set t (3 * i) 0)) in
        let c : get_or (set two (3 * i + 2) 0) (3 * i + 2) 0 ≡ 0 =
        get_or-set_same two (3 * i + 2) 0 0 (omega (arith, short, length-set t (3 * i) 0, length-set one (3 * i + 1) 0)) in (
          ap (λ (after : List ℕ). get_or after (3 * i) 0) is_put ∙ a,
          ap (λ (after : List ℕ). get_or after (3 * i + 1) 0) is_put ∙ b,
          ap (λ (after : List ℕ). get_or after (3 * i + 2) 0) is_put ∙ c,
        )

    -- So it is free, and zero in every field.
    pub removed_row_is_free_and_zero : row_of (remove_table t node key) (find_of rows t node key) ≡ freed
    unfolding row_of
    removed_row_is_free_and_zero = let w = removed_words_are_zero in λ k. fields (w.0 k) (w.1 k) (w.2 k)

    -- A name that had this row only has none then.
    pub removed_name_has_no_row : ((k : ℕ) → k < rows → named node key (row_of t k) ≡ true → k ≡ find_of rows t node key)
        → find_of rows (remove_table t node key) node key ≡ rows
    removed_name_has_no_row alone = none_there_none_found (remove_table t node key) node key (λ k lk. go k lk (ℕ_discrete k (find_of rows t node key)))
      where
        other : (k : ℕ) → k < rows → (k ≡ find_of rows t node key → ⊥) → (b : Bool) → named node key (row_of t k) ≡ b → b ≡ false
        other k lk n true e = absurd (n (alone k lk e))
        other k lk n false e = refl

        go : (k : ℕ) → k < rows → Dec (k ≡ find_of rows t node key) → named node key (row_of (remove_table t node key) k) ≡ false
        go k lk (yes e) = ap (λ (j : ℕ). named node key (row_of (remove_table t node key) j)) e ∙ ap (named node key) removed_row_is_free_and_zero
        go k lk (no n) = ap (named node key) (removal_touches_one_row k n) ∙ other k lk n (named node key (row_of t k)) refl

    module _ (before : (k : ℕ) → k < find_of rows t node key → (row_of t k).used ≡ true) where
      -- Where all rows before it are in use it is the lowest free one.
      pub removed_row_is_the_lowest_free : free_of rows (remove_table t node key) ≡ find_of rows t node key
      unfolding free_of
      removed_row_is_the_lowest_free =
          least_is rows (λ k. is_free (row_of (remove_table t node key) k)) (find_of rows t node key) l
          (λ k lk. ap is_free (removal_touches_one_row k (λ e. omega arith)) ∙ ap not (before k lk))
          (ap is_free removed_row_is_free_and_zero)

      -- The next name without a row then opens it.
      pub removed_row_is_used_again : (other kind : ℕ) → rows ≤ find_of rows (remove_table t node key) other kind → row_for (remove_table t node key) other kind ≡ find_of rows t node key
      removed_row_is_used_again other kind none = (opens (remove_table t node key) other kind 0 none).0 ∙ removed_row_is_the_lowest_free
