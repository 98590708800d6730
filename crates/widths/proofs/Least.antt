-- The least number of marks is how far behind the farthest new id of 63 marks lay, or 1. Assumes nothing.
use mathlib.Core.Path.{◌≡◌, refl, sym, ap, ap₂, ◌∙◌}
use mathlib.Core.Bool.{Bool, true, false, cond, ◌&&◌, true≢false}
use mathlib.Core.List.{List, [], ◌∷◌}
use Prim.Native.Nat.{ℕ, zero, suc, ◌+◌, ◌≤◌, ◌<◌, max}
use native.Mathlib.Omega.{arith}
use Rattle.std.proofs.Math.Bool.{and-eq-true_iff}
use native.Mathlib.Decide.{dec_le}
use Rattle.window.specs.Rows.{behind_encrypted}
use Rattle.window.specs.declared.Verdict.{Verdict}
use Rattle.window.specs.declared.Verdict.TheVariants.{New, Duplicate}
use Rattle.widths.specs.Trial.{verdicts_with, farthest_new, same_verdict, same_verdicts, least_from, least_of}
use Rattle.widths.proofs.Fewer.{same_verdicts_lem, other_verdicts, farthest_most}

-- ---- lists of verdicts that are the same
verdict_itself : (v : Verdict) → same_verdict v v ≡ true
verdict_itself New = refl
verdict_itself Duplicate = refl

verdict_equal : (u v : Verdict) → same_verdict u v ≡ true → u ≡ v
verdict_equal New New e = refl
verdict_equal New Duplicate e = absurd (true≢false (sym e))
verdict_equal Duplicate New e = absurd (true≢false (sym e))
verdict_equal Duplicate Duplicate e = refl

same_itself : (vs : List Verdict) → same_verdicts vs vs ≡ true
same_itself [] = refl
same_itself (v ∷ vs) = ap₂ (λ (a b : Bool). a && b) (verdict_itself v) (same_itself vs)

same_equal : (us vs : List Verdict) → same_verdicts us vs ≡ true → us ≡ vs
same_equal [] [] e = refl
same_equal [] (v ∷ vs) e = absurd (true≢false (sym e))
same_equal (u ∷ us) [] e = absurd (true≢false (sym e))
same_equal (u ∷ us) (v ∷ vs) e =
    let b = (and-eq-true_iff (same_verdict u v) (same_verdicts us vs)).0 e in
    ap₂ (λ (x : Verdict) (xs : List Verdict). x ∷ xs) (verdict_equal u v b.0) (same_equal us vs b.1)

-- ---- the search for the first
module _ (ids : List ℕ) where
  abbrev farthest : ℕ
  farthest = farthest_new behind_encrypted 63 [] ids

  enough : (W : ℕ) → W ≤ 63 → farthest ≤ W → same_verdicts (verdicts_with W ids) (verdicts_with 63 ids) ≡ true
  enough W l h =
      ap (λ (vs : List Verdict). same_verdicts vs (verdicts_with 63 ids)) (same_verdicts_lem behind_encrypted W 63 l [] ids h) ∙ same_itself (verdicts_with 63 ids)

  few : (W : ℕ) → W ≤ 63 → W < farthest → same_verdicts (verdicts_with W ids) (verdicts_with 63 ids) ≡ false
  few W l h = go (same_verdicts (verdicts_with W ids) (verdicts_with 63 ids)) refl
    where
      go : (b : Bool) → same_verdicts (verdicts_with W ids) (verdicts_with 63 ids) ≡ b → b ≡ false
      go true e = absurd (other_verdicts behind_encrypted W 63 l [] ids h (same_equal (verdicts_with W ids) (verdicts_with 63 ids) e))
      go false e = refl

  least_from_lem : (tries W : ℕ) → W + tries ≤ 63 → farthest ≤ W + tries → least_from tries W ids ≡ max W farthest
  unfolding least_from
  least_from_lem zero W l h = omega arith
  least_from_lem (suc tries) W l h = go (dec_le farthest W) (least_from_lem tries (suc W) (omega arith) (omega arith))
    where
      go : Dec (farthest ≤ W) → least_from tries (suc W) ids ≡ max (suc W) farthest → least_from (suc tries) W ids ≡ max W farthest
      go (yes n) later = ap (λ (b : Bool). cond b W (least_from tries (suc W) ids)) (enough W (omega arith) n) ∙ omega arith
      go (no n) later = ap (λ (b : Bool). cond b W (least_from tries (suc W) ids)) (few W (omega arith) (omega arith)) ∙ later ∙ omega arith

  pub least_is : least_of ids ≡ max 1 farthest
  unfolding least_of
  least_is = least_from_lem 62 1 (omega arith) (farthest_most behind_encrypted 63 [] ids)
