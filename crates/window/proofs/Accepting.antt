-- What is new, by the place of its position, and the list after an id; over B and W. Assumes nothing.
use Rattle.std.proofs.Common.{◌≡◌, ℕ, ◌+◌, ◌-◌, ◌<◌, ◌≤◌, Bool, true, false, cond, not, ◌&&◌, ◌||◌, ltb, leb, List, ◌∷◌, ap, ◌∙◌, arith, le-ltb, lt-ltb, le-leb}
use native.Mathlib.Decide.{ℕ_discrete, dec_lt}
use borrow.Author.Tests.{lt-leb}
use Rattle.window.proofs.Lists.{member_under}
use Rattle.window.specs.Rule.{member, greatest, position_after, is_new_position, accepts, step}

-- ---- what is new
module _ (W : ℕ) (ps : List ℕ) (p : ℕ) where
  pub new_above : greatest ps < p → is_new_position W ps p ≡ true
  unfolding is_new_position
  new_above h = ap (λ (b : Bool). b || leb (greatest ps - W) p && ltb p (greatest ps) && not (member p ps)) (lt-ltb (greatest ps) p h)

  pub new_same : p ≡ greatest ps → is_new_position W ps p ≡ false
  unfolding is_new_position
  new_same e =
      rw (le-ltb (greatest ps) p (omega arith), le-leb (greatest ps - W) p (omega arith), le-ltb p (greatest ps) (omega arith))

  pub new_near : greatest ps ≤ p + W → p < greatest ps → is_new_position W ps p ≡ not (member p ps)
  unfolding is_new_position
  new_near l h =
      rw (le-ltb (greatest ps) p (omega arith), le-leb (greatest ps - W) p (omega arith), lt-ltb p (greatest ps) (omega arith))

  pub new_old : p + W < greatest ps → is_new_position W ps p ≡ false
  unfolding is_new_position
  new_old h = rw (le-ltb (greatest ps) p (omega arith), lt-leb (greatest ps - W) p (omega arith))

  -- what is in the list is not new
  pub new_never : member p ps ≡ true → is_new_position W ps p ≡ false
  new_never e = go (ℕ_discrete p (greatest ps)) (dec_lt (p + W) (greatest ps))
    where
      go : Dec (p ≡ greatest ps) → Dec (p + W < greatest ps) → is_new_position W ps p ≡ false
      go (yes q) l = new_same q
      go (no q) (yes l) = new_old l
      go (no q) (no l) = new_near (omega arith) (omega (arith, member_under p ps e)) ∙ ap not e

-- ---- the list after an id
module _ (B W : ℕ) (ps : List ℕ) (id : ℕ) where
  pub step_old : accepts B W ps id ≡ false → step B W ps id ≡ ps
  unfolding step
  step_old e = ap (λ (b : Bool). cond b (position_after B ps id ∷ ps) ps) e

  pub step_new : accepts B W ps id ≡ true → step B W ps id ≡ position_after B ps id ∷ ps
  unfolding step
  step_new e = ap (λ (b : Bool). cond b (position_after B ps id ∷ ps) ps) e
