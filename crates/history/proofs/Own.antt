-- Rows stand for their own lists, each its highest id and its marks. Assumes nothing.
use Prim.Native.Nat.{ℕ, zero, suc, ◌^◌, ◌<◌}
use mathlib.Core.Path.{◌≡◌, refl, subst}
use mathlib.Core.Bool.{Bool, true, false, cond}
use mathlib.Core.List.{◌∷◌, map}
use Rattle.window.specs.Rows.{marks_held, list_of}
use Rattle.window.specs.declared.Row.{Row}
use Rattle.window.proofs.History.{Stands, stands_own}
use Rattle.window.proofs.Rows.{fits_gateway}
use Rattle.table.specs.Table.{named, kept}
use Rattle.history.specs.Telling.{Stand}
use Rattle.history.proofs.Told.{named_node}

-- rows under a name stand for their own lists
pub own : (node key n : ℕ) (f : ℕ → Row) → ((k : ℕ) → (f k).highest < 2 ^ 32) → Stand key (kept n (named node key) f) (map (list_of marks_held) (kept n (named node key) f))
unfolding kept
own node key zero f h = tt
own node key (suc n) f h = go (named node key (f 0)) refl (own node key n (λ k. f (suc k)) (λ k. h (suc k)))
  where
    go : (b : Bool) → named node key (f 0) ≡ b → Stand key (kept n (named node key) (λ k. f (suc k))) (map (list_of marks_held) (kept n (named node key) (λ k. f (suc k))))
        → Stand key (cond b (f 0 ∷ kept n (named node key) (λ k. f (suc k))) (kept n (named node key) (λ k. f (suc k))))
        (map (list_of marks_held) (cond b (f 0 ∷ kept n (named node key) (λ k. f (suc k))) (kept n (named node key) (λ k. f (suc k)))))
    go true e s = (subst (λ (k : ℕ). Stands marks_held k (f 0) (list_of marks_held (f 0))) (named_node node key (f 0) e).2 (stands_own (fits_gateway (f 0).key) (f 0) (h 0)), s)
    go false e s = s
