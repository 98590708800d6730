-- Two tables with the same rows in use, in the same order, tell the same books. Assumes nothing.
use Prim.Native.Nat.{ℕ, zero, suc}
use mathlib.Core.Path.{◌≡◌, refl, sym, ap, subst⁻¹, ◌∙◌}
use mathlib.Core.Bool.{Bool, true, false, cond}
use mathlib.Core.List.{List, [], ◌∷◌}
use lib.ListN.{length}
use Rattle.window.specs.declared.Row.{Row}
use Rattle.table.specs.Table.{rows, row_of, named, kept, in_use, rows_in_use}
use Rattle.history.specs.History.{Book}
use Rattle.history.specs.Telling.{Stand, Told}
use Rattle.history.proofs.Told.{named_not}

-- the rows of a list of which p holds
abbrev those : (Row → Bool) → List Row → List Row
those p [] = []
those p (row ∷ rs) = cond (p row) (row ∷ those p rs) (those p rs)

-- they stand among rows of which less is asked
kept_those : (n : ℕ) (p q : Row → Bool) (f : ℕ → Row) → ((row : Row) → q row ≡ false → p row ≡ false) → kept n p f ≡ those p (kept n q f)
unfolding kept
kept_those zero p q f h = refl
kept_those (suc n) p q f h = go (q (f 0)) refl (kept_those n p q (λ k. f (suc k)) h)
  where
    go : (b : Bool) → q (f 0) ≡ b → kept n p (λ k. f (suc k)) ≡ those p (kept n q (λ k. f (suc k)))
        → cond (p (f 0)) (f 0 ∷ kept n p (λ k. f (suc k))) (kept n p (λ k. f (suc k))) ≡ those p (cond b (f 0 ∷ kept n q (λ k. f (suc k))) (kept n q (λ k. f (suc k))))
    go true e on = ap (λ (rs : List Row). cond (p (f 0)) (f 0 ∷ rs) rs) on
    go false e on = ap (λ (b : Bool). cond b (f 0 ∷ kept n p (λ k. f (suc k))) (kept n p (λ k. f (suc k)))) (h (f 0) e) ∙ on

pub tells_the_same : {t : List ℕ} {book : Book} → Told t book → (other : List ℕ) → length other ≡ 96 → rows_in_use other ≡ rows_in_use t → Told other book
tells_the_same {t} {book} told other size same =
    record {
      size = size;
      names = λ node key.
          subst⁻¹ (λ (rs : List Row). Stand key rs (book.lists node key))
          (among node key other ∙ ap (those (named node key)) same ∙ sym (among node key t))
          (told.names node key);
      count = ap length same ∙ told.count;
    }
  where
    among : (node key : ℕ) (u : List ℕ) → kept rows (named node key) (row_of u) ≡ those (named node key) (rows_in_use u)
    among node key u = kept_those rows (named node key) in_use (row_of u) (named_not node key)
