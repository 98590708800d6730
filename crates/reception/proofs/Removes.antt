-- Removing where there is a row, and where there is none. Assumes nothing.
use Rattle.std.specs.Prelude.{Ok, Err}
use Prim.Native.Nat.{ℕ, ◌≤◌, ◌<◌}
use mathlib.Core.Path.{◌≡◌, sym, ap, ◌∙◌, subst}
use mathlib.Core.Bool.{Bool, cond}
use mathlib.Core.List.{List}
use borrow.Author.Tests.{lt-ltb, le-ltb}
use Rattle.message.specs.Reasons.{refusal}
use Rattle.message.specs.declared.answers.Reason.TheVariants.{NoRow}
use Rattle.table.specs.Table.{rows, freed, with_row, put_at, find_of}
use Rattle.reception.specs.Removing.{remove_of, remove_table}
use Rattle.table.proofs.Words.{put_within}

module _ (t : List ℕ) (node key i : ℕ) (e : i ≡ find_of rows t node key) where
  pub removes : (after : List ℕ) → i < rows → after ≡ put_at t i freed → (Ok tt ≡ remove_of t node key) × (after ≡ remove_table t node key)
  unfolding remove_of remove_table
  removes after l p =
      let h = lt-ltb (find_of rows t node key) rows (subst (λ (k : ℕ). k < rows) e l) in (
        sym (ap (λ (b : Bool). cond b (Ok tt) (Err (refusal NoRow))) h),
        p ∙ put_within t i freed l ∙ ap (λ (k : ℕ). with_row t k freed) e ∙ sym (ap (λ (b : Bool). cond b (with_row t (find_of rows t node key) freed) t) h),
      )

  pub removes_none : rows ≤ i → (Err (refusal NoRow) ≡ remove_of t node key) × (t ≡ remove_table t node key)
  unfolding remove_of remove_table
  removes_none l =
      let h = le-ltb (find_of rows t node key) rows (subst (λ (k : ℕ). rows ≤ k) e l) in
      (sym (ap (λ (b : Bool). cond b (Ok tt) (Err (refusal NoRow))) h), sym (ap (λ (b : Bool). cond b (with_row t (find_of rows t node key) freed) t) h))
