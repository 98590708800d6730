-- What rolling the row of three words leaves and says, by its verdict. Assumes nothing.
use Prim.Native.Nat.{ℕ}
use mathlib.Core.Path.{◌≡◌, sym, ap, ◌∙◌}
use mathlib.Core.List.{List, [], ◌∷◌}
use lib.ListN.{get_or}
use Rattle.window.specs.declared.Row.{Row}
use Rattle.window.specs.declared.Rolled.{Rolled}
use Rattle.window.specs.declared.Verdict.{Verdict}
use Rattle.window.specs.Rows.{rolled_of}
use Rattle.table.specs.Table.{row_of, with_row}
use Rattle.gateway_rows.specs.Rows.{words_after, rolled_words}
use Rattle.places.specs.Answers.{verdict_number}

-- the row of three words is that of the list they stand in
pub three_words : (words : List ℕ) → row_of (get_or words 0 0 ∷ get_or words 1 0 ∷ get_or words 2 0 ∷ []) 0 ≡ row_of words 0
unfolding row_of
three_words words = λ i. row_of words 0

module _ (words : List ℕ) (id : ℕ) (row : Row) (given : Rolled) (read : row ≡ row_of (get_or words 0 0 ∷ get_or words 1 0 ∷ get_or words 2 0 ∷ []) 0) (rolled : given ≡ rolled_of row id) where
  is_rolled : given ≡ rolled_of (row_of words 0) id
  is_rolled = rolled ∙ ap (λ (r : Row). rolled_of r id) (read ∙ three_words words)

  pub rolled_new : (new : List ℕ) → given.verdict ≡ Verdict.New → new ≡ with_row words 0 given.row
      → (new ≡ rolled_words (rolled_of (row_of words 0) id) words) × (1 ≡ verdict_number (rolled_of (row_of words 0) id).verdict)
  rolled_new new v e = (
    e ∙ sym (ap (λ (x : Verdict). words_after x given.row words) v) ∙ ap (λ (x : Rolled). rolled_words x words) is_rolled,
    sym (ap verdict_number v) ∙ ap (λ (x : Rolled). verdict_number x.verdict) is_rolled,
  )

  pub rolled_again : given.verdict ≡ Verdict.Duplicate
      → (words ≡ rolled_words (rolled_of (row_of words 0) id) words) × (2 ≡ verdict_number (rolled_of (row_of words 0) id).verdict)
  rolled_again v = (
    sym (ap (λ (x : Verdict). words_after x given.row words) v) ∙ ap (λ (x : Rolled). rolled_words x words) is_rolled,
    sym (ap verdict_number v) ∙ ap (λ (x : Rolled). verdict_number x.verdict) is_rolled,
  )
