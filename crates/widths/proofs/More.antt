-- The rule with fewer marks and with more, each on its own list: what the fewer find new, the more do too. Over B and both numbers of marks.
-- Assumes nothing.
use mathlib.Core.Path.{◌≡◌, refl, sym, ap, ap₂, ◌∙◌, subst₂}
use mathlib.Core.Bool.{Bool, true, false, cond, not, true≢false}
use mathlib.Core.List.{List, [], ◌∷◌}
use Prim.Native.Nat.{ℕ, ◌+◌, ◌-◌, ◌≤◌, ◌<◌}
use native.Mathlib.Omega.{arith}
use lib.Dec.{ltb}
use borrow.Author.Tests.{lt-ltb, le-ltb}
use native.Mathlib.Decide.{ℕ_discrete, dec_lt}
use Rattle.window.specs.Rule.{member, greatest, position_of, position_after, is_new_position, accepts, step}
use Rattle.window.specs.Windows.{late_by}
use Rattle.window.specs.History.{verdict_of, ruled}
use Rattle.window.specs.declared.Verdict.{Verdict}
use Rattle.window.specs.declared.Verdict.TheVariants.{New, Duplicate}
use Rattle.window.proofs.Accepting.{new_above, new_same, new_near, new_old, step_new, step_old}
use Rattle.window.proofs.History.{heard_new}
use Rattle.window.proofs.Lists.{member_here, member_there}
use Rattle.widths.specs.Trial.{NewToo, new_among, lost_of, lost_from, unless_lost, without_lost}

-- the list of w marks and that of more: the same greatest position, and the same positions among the w below it
pub record Within (w : ℕ) (ps qs : List ℕ) : Type 0 where
  pub place : (B id : ℕ) → position_after B ps id ≡ position_after B qs id
  pub top : greatest ps ≡ greatest qs
  pub near : (p : ℕ) → greatest ps ≤ p + w → member p ps ≡ member p qs

pub within_none : (w : ℕ) → Within w [] []
within_none w = record { place = λ B id. refl; top = refl; near = λ p h. refl }

-- a position joins both
both_join : {w : ℕ} {ps qs : List ℕ} (p : ℕ) → Within w ps qs → Within w (p ∷ ps) (p ∷ qs)
unfolding position_after greatest
both_join {w} {ps} {qs} p s =
    record {
      place = λ B id. ap (λ (M : ℕ). position_of B M id) top;
      top = top;
      near = λ x h. go x h (ℕ_discrete x p);
    }
  where
    top : greatest (p ∷ ps) ≡ greatest (p ∷ qs)
    top = omega (arith, s.top)

    go : (x : ℕ) → greatest (p ∷ ps) ≤ x + w → Dec (x ≡ p) → member x (p ∷ ps) ≡ member x (p ∷ qs)
    go x h (yes e) = member_here x p ps e ∙ sym (member_here x p qs e)
    go x h (no e) = member_there x p ps e ∙ s.near x (omega arith) ∙ sym (member_there x p qs e)

-- one that lies behind the w marks joins the list of more
one_joins : {w : ℕ} (ps : List ℕ) {qs : List ℕ} (p : ℕ) → p + w < greatest ps → Within w ps qs → Within w ps (p ∷ qs)
unfolding position_after greatest
one_joins {w} [] p h s = absurd (omega arith)
one_joins {w} (a ∷ ps) {qs} p h s =
    record {
      place = λ B id. ap (λ (M : ℕ). position_of B M id) top;
      top = top;
      near = λ x l. s.near x l ∙ sym (member_there x p qs (λ e. omega arith));
    }
  where
    top : greatest (a ∷ ps) ≡ greatest (p ∷ qs)
    top = omega (arith, s.top)

-- one id
module _ (B w W : ℕ) (l : w ≤ W) (ps qs : List ℕ) (id : ℕ) (s : Within w ps qs) where
  abbrev p : ℕ
  p = position_after B ps id

  -- what the more marks say, at the same position
  more : {b : Bool} → is_new_position W qs p ≡ b → accepts B W qs id ≡ b
  unfolding accepts
  more e = ap (is_new_position W qs) (sym (s.place B id)) ∙ e

  fewer : {b : Bool} → is_new_position w ps p ≡ b → accepts B w ps id ≡ b
  unfolding accepts
  fewer e = e

  -- 1 for what is new, and what of it the fewer marks lose
  lost : ℕ
  lost = cond (accepts B W qs id) (lost_of w (late_by B qs id)) 0

  Goes : Type 0
  Goes =
      Within w (step B w ps id) (step B W qs id)
      × (accepts B w ps id ≡ true → accepts B W qs id ≡ true)
      × (cond (accepts B w ps id) 1 0 + lost ≡ cond (accepts B W qs id) 1 0)

  -- how far behind it lies is the same by both lists
  late_same : late_by B qs id ≡ greatest ps - p
  late_same = ap₂ (λ (a b : ℕ). a - b) (sym s.top) (sym (s.place B id))

  both_new : greatest ps ≤ p + w → accepts B w ps id ≡ true → accepts B W qs id ≡ true → Goes
  unfolding Goes lost
  both_new n e f = (
    subst₂ (Within w) (sym (step_new B w ps id e)) (ap (λ (q : ℕ). q ∷ qs) (s.place B id) ∙ sym (step_new B W qs id f)) (both_join p s),
    λ _. f,
    ap₂ (λ (a b : Bool). cond a 1 0 + cond b (lost_of w (late_by B qs id)) 0) e f
        ∙ ap (λ (b : Bool). 1 + cond {A = ℕ} b 1 0) (le-ltb w (late_by B qs id) (omega (arith, late_same)))
        ∙ sym (ap (λ (b : Bool). cond {A = ℕ} b 1 0) f),
  )

  both_old : accepts B w ps id ≡ false → accepts B W qs id ≡ false → Goes
  unfolding Goes lost
  both_old e f = (
    subst₂ (Within w) (sym (step_old B w ps id e)) (sym (step_old B W qs id f)) s,
    λ t. absurd (true≢false (sym t ∙ e)),
    ap₂ (λ (a b : Bool). cond a 1 0 + cond b (lost_of w (late_by B qs id)) 0) e f ∙ sym (ap (λ (b : Bool). cond {A = ℕ} b 1 0) f),
  )

  one_new : p + w < greatest ps → accepts B w ps id ≡ false → accepts B W qs id ≡ true → Goes
  unfolding Goes lost
  one_new h e f = (
    subst₂ (Within w) (sym (step_old B w ps id e)) (ap (λ (q : ℕ). q ∷ qs) (s.place B id) ∙ sym (step_new B W qs id f)) (one_joins ps p h s),
    λ _. f,
    ap₂ (λ (a b : Bool). cond a 1 0 + cond b (lost_of w (late_by B qs id)) 0) e f
        ∙ ap (λ (b : Bool). 0 + cond {A = ℕ} b 1 0) (lt-ltb w (late_by B qs id) (omega (arith, late_same)))
        ∙ sym (ap (λ (b : Bool). cond {A = ℕ} b 1 0) f),
  )

  pub goes_on : Within w (step B w ps id) (step B W qs id)
      × (accepts B w ps id ≡ true → accepts B W qs id ≡ true)
      × (cond (accepts B w ps id) 1 0 + cond (accepts B W qs id) (lost_of w (late_by B qs id)) 0 ≡ cond (accepts B W qs id) 1 0)
  unfolding Goes lost
  goes_on = go (dec_lt M p) (ℕ_discrete p M) (dec_lt (p + w) M)
    where
      M : ℕ
      M = greatest ps

      -- within the w marks both go by the same mark
      by : (b : Bool) → p < M → M ≤ p + w → member p ps ≡ b → Goes
      by true a n e =
          both_old (fewer (new_near w ps p (omega arith) a ∙ ap not e))
          (more (new_near W qs p (omega (arith, s.top)) (omega (arith, s.top)) ∙ ap not (sym (s.near p n) ∙ e)))
      by false a n e =
          both_new n (fewer (new_near w ps p (omega arith) a ∙ ap not e))
          (more (new_near W qs p (omega (arith, s.top)) (omega (arith, s.top)) ∙ ap not (sym (s.near p n) ∙ e)))

      -- behind them the fewer say nothing new
      far : (b : Bool) → p + w < M → is_new_position W qs p ≡ b → Goes
      far true n e = one_new n (fewer (new_old w ps p n)) (more e)
      far false n e = both_old (fewer (new_old w ps p n)) (more e)

      go : Dec (M < p) → Dec (p ≡ M) → Dec (p + w < M) → Goes
      go (yes a) e n = both_new (omega arith) (fewer (new_above w ps p a)) (more (new_above W qs p (omega (arith, s.top))))
      go (no a) (yes e) n = both_old (fewer (new_same w ps p e)) (more (new_same W qs p (e ∙ s.top)))
      go (no a) (no e) (yes n) = far (is_new_position W qs p) n refl
      go (no a) (no e) (no n) = by (member p ps) (omega arith) (omega arith) refl

-- any number of ids
pub new_too : (B w W : ℕ) → w ≤ W → (ps qs ids : List ℕ) → Within w ps qs → NewToo (ruled B w ps ids) (ruled B W qs ids)
unfolding ruled
new_too B w W l ps qs [] s = tt
new_too B w W l ps qs (id ∷ ids) s =
    let on = goes_on B w W l ps qs id s in
    (verdict (accepts B w ps id) (accepts B W qs id) on.1, new_too B w W l (step B w ps id) (step B W qs id) ids on.0)
  where
    told : (b : Bool) → verdict_of b ≡ New → b ≡ true
    told true e = refl
    told false e = absurd (true≢false (sym (ap heard_new e)))

    verdict : (a b : Bool) → (a ≡ true → b ≡ true) → verdict_of a ≡ New → verdict_of b ≡ New
    verdict a b f e = ap verdict_of (f (told a e))

-- what the more marks find new is what the fewer do, and what these lose
pub lost_besides : (B w W : ℕ) → w ≤ W → (ps qs ids : List ℕ) → Within w ps qs
    → new_among (ruled B w ps ids) + lost_from B W w qs ids ≡ new_among (ruled B W qs ids)
unfolding ruled lost_from
lost_besides B w W l ps qs [] s = omega arith
lost_besides B w W l ps qs (id ∷ ids) s =
    let on = goes_on B w W l ps qs id s in
    add (accepts B w ps id) (accepts B W qs id) (ruled B w (step B w ps id) ids) (ruled B W (step B W qs id) ids) _ _ on.2
    (lost_besides B w W l (step B w ps id) (step B W qs id) ids on.0)
  where
    add : (a b : Bool) (us vs : List Verdict) (x n : ℕ) → cond a 1 0 + x ≡ cond b 1 0 → new_among us + n ≡ new_among vs
        → new_among (verdict_of a ∷ us) + (x + n) ≡ new_among (verdict_of b ∷ vs)
    add true true us vs x n e f = omega (arith, e, f)
    add true false us vs x n e f = omega (arith, e, f)
    add false true us vs x n e f = omega (arith, e, f)
    add false false us vs x n e f = omega (arith, e, f)

-- and id by id
pub without_lost_lem : (B w W : ℕ) → w ≤ W → (ps qs ids : List ℕ) → Within w ps qs → ruled B w ps ids ≡ without_lost B W w qs ids
unfolding ruled without_lost
without_lost_lem B w W l ps qs [] s = refl
without_lost_lem B w W l ps qs (id ∷ ids) s =
    let on = goes_on B w W l ps qs id s in
    ap₂ (λ (v : Verdict) (vs : List Verdict). v ∷ vs)
    (one (accepts B w ps id) (accepts B W qs id) (ltb w (late_by B qs id)) on.2)
    (without_lost_lem B w W l (step B w ps id) (step B W qs id) ids on.0)
  where
    one : (a b lost : Bool) → cond a 1 0 + cond b (cond lost 1 0) 0 ≡ cond b 1 0 → verdict_of a ≡ unless_lost lost (verdict_of b)
    one true true true e = absurd (omega (arith, e))
    one false true true e = refl
    one true true false e = refl
    one false true false e = absurd (omega (arith, e))
    one true false lost e = absurd (omega (arith, e))
    one false false lost e = refl

-- so there are no fewer of them
pub no_fewer : (us vs : List Verdict) → NewToo us vs → new_among us ≤ new_among vs
no_fewer [] [] s = omega arith
no_fewer [] (v ∷ vs) s = absurd s
no_fewer (u ∷ us) [] s = absurd s
no_fewer (New ∷ us) (New ∷ vs) s = omega (arith, no_fewer us vs s.1)
no_fewer (New ∷ us) (Duplicate ∷ vs) s = absurd (true≢false (sym (ap heard_new (s.0 refl))))
no_fewer (Duplicate ∷ us) (New ∷ vs) s = omega (arith, no_fewer us vs s.1)
no_fewer (Duplicate ∷ us) (Duplicate ∷ vs) s = no_fewer us vs s.1
