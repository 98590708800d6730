-- The rule with fewer marks and with more, on one list: where the verdicts are the same, and where they are not. Over B and both numbers of marks.
-- Assumes nothing.
use mathlib.Core.Path.{◌≡◌, refl, sym, ap, ap₂, ◌∙◌, subst⁻¹}
use mathlib.Core.Bool.{Bool, true, false, cond, true≢false}
use mathlib.Core.List.{List, [], ◌∷◌}
use Prim.Native.Nat.{ℕ, ◌≤◌, ◌<◌}
use native.Mathlib.Omega.{arith}
use native.Mathlib.Decide.{ℕ_discrete, dec_lt, dec_le}
use Rattle.window.specs.Rule.{greatest, position_after, is_new_position, accepts, step}
use Rattle.window.specs.Windows.{late_by}
use Rattle.window.specs.History.{verdict_of, ruled}
use Rattle.window.specs.declared.Verdict.{Verdict}
use Rattle.window.proofs.History.{heard_new}
use Rattle.window.proofs.Accepting.{new_above, new_same, new_near, new_old}
use Rattle.widths.specs.Trial.{farthest_new}

-- ---- one id
module _ (B : ℕ) (ps : List ℕ) (id : ℕ) where
  -- further behind than the marks reach, it is a duplicate
  pub too_late : (W : ℕ) → W < late_by B ps id → accepts B W ps id ≡ false
  unfolding accepts
  too_late W h = new_old W ps (position_after B ps id) (omega arith)

  -- so what is new is within the marks
  pub late_most : (W : ℕ) → accepts B W ps id ≡ true → late_by B ps id ≤ W
  late_most W a = go (dec_lt W (late_by B ps id))
    where
      go : Dec (W < late_by B ps id) → late_by B ps id ≤ W
      go (yes h) = absurd (true≢false (sym a ∙ too_late W h))
      go (no h) = omega arith

  -- within the fewer marks both say the same
  pub near_alike : (w W : ℕ) → w ≤ W → late_by B ps id ≤ w → accepts B w ps id ≡ accepts B W ps id
  unfolding accepts
  near_alike w W l h = go (dec_lt M p) (ℕ_discrete p M)
    where
      M : ℕ
      M = greatest ps

      p : ℕ
      p = position_after B ps id

      go : Dec (M < p) → Dec (p ≡ M) → is_new_position w ps p ≡ is_new_position W ps p
      go (yes a) e = new_above w ps p a ∙ sym (new_above W ps p a)
      go (no a) (yes e) = new_same w ps p e ∙ sym (new_same W ps p e)
      go (no a) (no e) = new_near w ps p (omega arith) (omega arith) ∙ sym (new_near W ps p (omega arith) (omega arith))

  -- so they do wherever what the more marks find new is within the fewer
  pub alike : (w W : ℕ) → w ≤ W → cond (accepts B W ps id) (late_by B ps id) 0 ≤ w → accepts B w ps id ≡ accepts B W ps id
  alike w W l h = go (accepts B W ps id) refl (dec_le (late_by B ps id) w) h
    where
      go : (b : Bool) → accepts B W ps id ≡ b → Dec (late_by B ps id ≤ w) → cond b (late_by B ps id) 0 ≤ w → accepts B w ps id ≡ accepts B W ps id
      go b e (yes n) h = near_alike w W l n
      go true e (no n) h = absurd (n h)
      go false e (no n) h = too_late w (omega arith) ∙ sym e

  -- the list after it
  pub step_alike : (w W : ℕ) → accepts B w ps id ≡ accepts B W ps id → step B w ps id ≡ step B W ps id
  unfolding step
  step_alike w W a = ap (λ (b : Bool). cond b (position_after B ps id ∷ ps) ps) a

-- ---- any number of ids
module _ (B w W : ℕ) (l : w ≤ W) where
  -- the verdicts are the same where no new id is further behind than the fewer marks
  pub same_verdicts_lem : (ps ids : List ℕ) → farthest_new B W ps ids ≤ w → ruled B w ps ids ≡ ruled B W ps ids
  unfolding ruled farthest_new
  same_verdicts_lem ps [] h = refl
  same_verdicts_lem ps (id ∷ ids) h =
      let a = alike B ps id w W l (omega arith) in
      ap₂ (λ (v : Verdict) (vs : List Verdict). v ∷ vs) (ap verdict_of a)
      (ap (λ (qs : List ℕ). ruled B w qs ids) (step_alike B ps id w W a) ∙ same_verdicts_lem (step B W ps id) ids (omega arith))

  -- and they are not where one is
  first : List Verdict → Bool
  first [] = false
  first (v ∷ vs) = heard_new v

  rest : List Verdict → List Verdict
  rest [] = []
  rest (v ∷ vs) = vs

  pub other_verdicts : (ps ids : List ℕ) → w < farthest_new B W ps ids → ruled B w ps ids ≡ ruled B W ps ids → ⊥
  unfolding ruled farthest_new first rest
  other_verdicts ps [] h e = omega arith
  other_verdicts ps (id ∷ ids) h e = go (accepts B W ps id) refl (dec_le late w) (other_verdicts (step B W ps id) ids)
    where
      late : ℕ
      late = late_by B ps id

      Later : Type 0
      Later = w < farthest_new B W (step B W ps id) ids → ruled B w (step B W ps id) ids ≡ ruled B W (step B W ps id) ids → ⊥

      on : cond (accepts B W ps id) late 0 ≤ w → Later → ⊥
      on n later =
          let a = alike B ps id w W l n in
          later (omega arith) (ap (λ (qs : List ℕ). ruled B w qs ids) (sym (step_alike B ps id w W a)) ∙ ap rest e)

      go : (b : Bool) → accepts B W ps id ≡ b → Dec (late ≤ w) → Later → ⊥
      go true a (no n) later =
          true≢false (sym (ap (λ (b : Bool). first (verdict_of b ∷ ruled B W (step B W ps id) ids)) a)
          ∙ sym (ap first e) ∙ ap (λ (b : Bool). first (verdict_of b ∷ ruled B w (step B w ps id) ids)) (too_late B ps id w (omega arith)))
      go true a (yes n) later = on (subst⁻¹ (λ (b : Bool). cond b late 0 ≤ w) a n) later
      go false a d later = on (subst⁻¹ (λ (b : Bool). cond b late 0 ≤ w) a (omega arith)) later

-- no new id is further behind than the marks
pub farthest_most : (B W : ℕ) (ps ids : List ℕ) → farthest_new B W ps ids ≤ W
unfolding farthest_new
farthest_most B W ps [] = omega arith
farthest_most B W ps (id ∷ ids) = omega (arith, head (accepts B W ps id) refl, farthest_most B W (step B W ps id) ids)
  where
    head : (b : Bool) → accepts B W ps id ≡ b → cond b (late_by B ps id) 0 ≤ W
    head true e = late_most B ps id W e
    head false e = omega arith
