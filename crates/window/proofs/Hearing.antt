-- The laws at a window, over B and W: what it stands for, what an id can come to, and that a window which shows a list goes on showing it.
-- Assumes nothing.
use Rattle.std.proofs.Common.{◌≡◌, ℕ, suc, ◌+◌, ◌-◌, ◌%◌, ◌^◌, ◌<◌, Bool, true, false, cond, Option, Some, None, List, [], ◌∷◌, sym, refl, ap, ◌∙◌, subst, mod-eq_of_lt, arith, pow_pos}
use mathlib.Core.Path.{subst⁻¹}
use Rattle.window.specs.Rule.{member, greatest, marked, position_after, accepts, step, marks_number}
use Rattle.window.specs.Windows.{list_in, late_by, heard_as, heard_by, heard_at, window_after}
use Rattle.window.specs.History.{ShowsIn}
use Rattle.window.specs.declared.windows.Window.{Window}
use Rattle.window.specs.declared.windows.Heard.{Heard}
use Rattle.window.proofs.Bits.{number_lt}
use Rattle.window.proofs.Lists.{member_there, greatest_over, greatest_in, marked_at, marked_greatest}
use Rattle.window.proofs.Positions.{Fits}
use Rattle.window.proofs.Marks.{Keeps, Outcome, outcome_first}
use Rattle.window.proofs.Alike.{agree, late_agree}
use Rattle.window.proofs.Growing.{Far, keeps_far}

-- ---- what a window stands for

-- the list of a window in use
abbrev pub own_in : ℕ → Window → List ℕ
own_in W window = (window.highest + 2 ^ 32) ∷ marked W window.marks (window.highest + 2 ^ 32)

module _ (W : ℕ) (window : Window) where
  pub window_used : window.used ≡ true → list_in W window ≡ own_in W window
  window_used u = ap (λ (b : Bool). cond b (own_in W window) []) u

  pub window_free : window.used ≡ false → list_in W window ≡ []
  window_free u = ap (λ (b : Bool). cond b (own_in W window) []) u

-- its highest id and its marks keep it
pub keeps_own_in : {B W : ℕ} → Fits B W → (window : Window) → window.highest < 2 ^ 32 → Keeps W (own_in W window) window.highest window.marks
keeps_own_in {B} {W} fits window l =
    let M : ℕ = window.highest + 2 ^ 32 in
    let rest : List ℕ = marked W window.marks M in
    let g : greatest (M ∷ rest) ≡ M = greatest_over M rest (marked_greatest window.marks M W) in
    record {
      high = ap (λ (x : ℕ). x % 2 ^ 32) g ∙ omega arith;
      far = omega (arith, g);
      held = greatest_in M rest;
      marks = λ k h.
          sym (ap (λ (x : ℕ). member (x - suc k) (M ∷ rest)) g
          ∙ member_there (M - suc k) M rest (λ e. omega arith)
          ∙ marked_at window.marks M W k (omega arith) h);
    }

pub keeps_window : {B W : ℕ} → Fits B W → (window : Window) → window.used ≡ true → window.highest < 2 ^ 32 → Keeps W (list_in W window) window.highest window.marks
keeps_window {B} {W} fits window u l =
    subst⁻¹ (λ (ps : List ℕ). Keeps W ps window.highest window.marks) (window_used W window u) (keeps_own_in fits window l)

-- ---- what an id comes to
module _ {B W : ℕ} (window : Window) (id : ℕ) where
  pub heard_old : {h m : ℕ} → Outcome B W (list_in W window) id false h m → heard_at B W window id ≡ None
  unfolding heard_at heard_by
  heard_old o =
      let ps : List ℕ = list_in W window in
      ap (λ (b : Bool). cond b (Some (heard_as (late_by B ps id) (greatest (step B W ps id) % 2 ^ 32) (marks_number W (step B W ps id)))) None) o.new

  pub heard_new_lem : {h m late : ℕ} → Outcome B W (list_in W window) id true h m → late_by B (list_in W window) id ≡ late → heard_at B W window id ≡ Some (heard_as late h m)
  unfolding heard_at heard_by
  heard_new_lem o e = λ i. cond (o.new i) (Some (heard_as (e i) (o.high i) (o.marks i))) None

  pub heard_first : Fits B W → window.used ≡ false → id < 2 ^ 32 → heard_at B W window id ≡ Some (heard_as 0 id 0)
  unfolding position_after greatest
  heard_first fits u l =
      heard_new_lem (subst⁻¹ (λ (ps : List ℕ). Outcome B W ps id true id 0) (window_free W window u) (outcome_first B W id fits l))
      (ap (λ (ps : List ℕ). late_by B ps id) (window_free W window u) ∙ omega arith)

-- the marks of a new id have no other bits
abbrev marks_in : Option Heard → ℕ
marks_in (Some heard) = heard.marks
marks_in None = 0

pub heard_marks : (B W : ℕ) (window : Window) (id : ℕ) (heard : Heard) → heard_at B W window id ≡ Some heard → heard.marks < 2 ^ W
unfolding heard_at heard_by marks_number
heard_marks B W window id heard e = subst (λ (x : ℕ). x < 2 ^ W) (ap marks_in e) (go (accepts B W ps id))
  where
    ps : List ℕ
    ps = list_in W window

    qs : List ℕ
    qs = step B W ps id

    go : (b : Bool) → marks_in (cond b (Some (heard_as (late_by B ps id) (greatest qs % 2 ^ 32) (marks_number W qs))) None) < 2 ^ W
    go true = number_lt W (λ k. member (greatest qs - suc k) qs)
    go false = pow_pos W

-- ---- the full list

-- the short list of a window may be replaced by any list that it shows, so by the full one
pub hears_full : {B W : ℕ} → Fits B W → (window : Window) (ps : List ℕ) (id : ℕ) → Far ps → ShowsIn W window ps → id < 2 ^ 32
    → heard_at B W window id ≡ heard_by B W ps id
unfolding heard_at heard_by
hears_full {B} {W} fits window [] id f s l = ap (λ (qs : List ℕ). heard_by B W qs id) (window_free W window s)
hears_full {B} {W} fits window (p ∷ ps) id f s l =
    let lh : window.highest < 2 ^ 32 = omega (arith, s.1) in
    let own : Keeps W (list_in W window) window.highest window.marks = keeps_window fits window s.0 lh in
    let full : Keeps W (p ∷ ps) window.highest window.marks =
    subst⁻¹ (λ (h : ℕ). Keeps W (p ∷ ps) h window.marks) s.1 (keeps_far W p ps window.marks f s.2) in
    let o = agree B W fits window.highest window.marks id lh l (list_in W window) (p ∷ ps) own full in
    let e = late_agree B W fits window.highest window.marks id lh l (list_in W window) (p ∷ ps) own full in
    λ i. cond (o.new i) (Some (heard_as (e i) (o.high i) (o.marks i))) None

-- the window then shows the list after the id
pub shows_on : (B W : ℕ) (window : Window) (ps : List ℕ) (id : ℕ) → ShowsIn W window ps → ShowsIn W (window_after window (heard_by B W ps id)) (step B W ps id)
unfolding heard_by step marks_number
shows_on B W window ps id s = go (accepts B W ps id) (position_after B ps id) (late_by B ps id)
  where
    go : (b : Bool) (p late : ℕ) → let qs : List ℕ = cond b (p ∷ ps) ps in ShowsIn W (window_after window (cond b (Some (heard_as late (greatest qs % 2 ^ 32) (marks_number W qs))) None)) qs
    go true p late = (refl, refl, mod-eq_of_lt (number_lt W (λ k. member (greatest (p ∷ ps) - suc k) (p ∷ ps))))
    go false p late = s
