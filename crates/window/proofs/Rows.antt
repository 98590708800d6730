-- The laws at a row, over B and W: what it stands for, and what rolling it can come to. Assumes nothing.
use Rattle.std.proofs.Common.{◌≡◌, ℕ, suc, ◌+◌, ◌-◌, ◌%◌, ◌^◌, ◌<◌, ◌≤◌, Bool, true, false, cond, eqb, Option, Some, None, List, [], refl, ap, ◌∙◌, ap₂, arith}
use mathlib.Core.Path.{subst⁻¹}
use Rattle.window.specs.Rule.{member, greatest, accepts, step, marks_number}
use Rattle.window.specs.Rows.{window_of, list_of, taken, again, judged, rolled_at, marks_held, behind_plain, behind_encrypted, behind_of, rolled_of}
use Rattle.window.specs.Windows.{list_in, late_by, heard_as, heard_by, heard_at}
use Rattle.window.specs.History.{Distinct}
use Rattle.window.specs.declared.Row.{Row}
use Rattle.window.specs.declared.Rolled.{Rolled}
use Rattle.window.specs.declared.windows.Heard.{Heard}
use Rattle.window.proofs.Bits.{number_lt}
use Rattle.window.proofs.Lists.{marked_out, marked_distinct}
use Rattle.window.proofs.Positions.{Fits}
use Rattle.window.proofs.Marks.{Keeps, Outcome, outcome_first}
use Rattle.window.proofs.Hearing.{own_in, window_used, window_free, keeps_own_in, keeps_window}

-- the gateway's numbers are such as the laws ask for
pub fits_gateway : (key : ℕ) → Fits (behind_of key) marks_held
unfolding behind_of
fits_gateway key = go (eqb key 0)
  where
    go : (b : Bool) → Fits (cond b behind_plain behind_encrypted) marks_held
    go true = omega arith
    go false = omega arith

-- no row looks further behind than an encrypted one
pub behind_most : (key : ℕ) → behind_of key ≤ behind_encrypted
unfolding behind_of
behind_most key = go (eqb key 0)
  where
    go : (b : Bool) → cond b behind_plain behind_encrypted ≤ behind_encrypted
    go true = omega arith
    go false = omega arith

-- ---- what a row stands for

-- the list of a row in use
abbrev pub own : ℕ → Row → List ℕ
own W row = own_in W (window_of row)

module _ (W : ℕ) (row : Row) where
  pub list_used : row.used ≡ true → list_of W row ≡ own W row
  unfolding list_of
  list_used = window_used W (window_of row)

  pub list_free : row.used ≡ false → list_of W row ≡ []
  unfolding list_of
  list_free = window_free W (window_of row)

-- its highest id and its marks keep it
pub keeps_own : {B W : ℕ} → Fits B W → (row : Row) → row.highest < 2 ^ 32 → Keeps W (own W row) row.highest row.marks
keeps_own fits row = keeps_own_in fits (window_of row)

pub keeps_row : {B W : ℕ} → Fits B W → (row : Row) → row.used ≡ true → row.highest < 2 ^ 32 → Keeps W (list_of W row) row.highest row.marks
unfolding list_of
keeps_row fits row = keeps_window fits (window_of row)

-- and it holds no position twice
pub list_distinct : {B W : ℕ} → Fits B W → (row : Row) → Distinct (list_of W row)
unfolding list_of
list_distinct {B} {W} fits row = go row.used
  where
    M : ℕ
    M = row.highest + 2 ^ 32

    go : (b : Bool) → Distinct (cond b (own W row) [])
    go true = (marked_out row.marks M W M (λ k h e. omega arith), marked_distinct row.marks M W (omega arith))
    go false = tt

-- ---- what rolling it comes to
module _ {B W : ℕ} (row : Row) (id : ℕ) where
  pub row_old : {h m : ℕ} → Outcome B W (list_of W row) id false h m → rolled_at B W row id ≡ again row
  unfolding rolled_at judged
  row_old o = ap (λ (b : Bool). judged W row b (step B W (list_of W row) id)) o.new

  pub row_new : {h m : ℕ} → Outcome B W (list_of W row) id true h m → rolled_at B W row id ≡ taken row h m
  unfolding rolled_at judged
  row_new o = ap (λ (b : Bool). judged W row b (step B W (list_of W row) id)) o.new ∙ ap₂ (taken row) o.high o.marks

  pub row_first : Fits B W → row.used ≡ false → id < 2 ^ 32 → rolled_at B W row id ≡ taken row id 0
  row_first fits u l =
      row_new (subst⁻¹ (λ (ps : List ℕ). Outcome B W ps id true id 0) (list_free W row u) (outcome_first B W id fits l))

-- a property of what rolling gives holds if it holds of a row taken, whose marks have no other bits, and of the row as it was
pub either : (B W : ℕ) (row : Row) (id : ℕ) (P : Rolled → Type 0) → ((h m : ℕ) → m < 2 ^ W → P (taken row h m)) → P (again row) → P (rolled_at B W row id)
unfolding rolled_at judged marks_number
either B W row id P t a = go (accepts B W (list_of W row) id) (step B W (list_of W row) id)
  where
    go : (b : Bool) (ps : List ℕ) → P (judged W row b ps)
    go true ps = t (greatest ps % 2 ^ 32) (marks_number W ps) (number_lt W (λ k. member (greatest ps - suc k) ps))
    go false ps = a

-- a row in use stays in use under its name
pub stays_in_use : (row : Row) (id : ℕ) → row.used ≡ true
    → ((rolled_of row id).row.used ≡ true) × ((rolled_of row id).row.node ≡ row.node) × ((rolled_of row id).row.key ≡ row.key)
unfolding rolled_of
stays_in_use row id u =
    either (behind_of row.key) marks_held row id (λ r. (r.row.used ≡ true) × (r.row.node ≡ row.node) × (r.row.key ≡ row.key))
    (λ h m l. (refl, refl, refl)) (u, refl, refl)

-- ---- a row and its window

-- a row by what an id is to its window
abbrev pub rolled_by : Row → Option Heard → Rolled
rolled_by row (Some heard) = taken row heard.highest heard.marks
rolled_by row None = again row

-- rolling a row by a list is hearing by it
pub judged_hears : (B W : ℕ) (row : Row) (ps : List ℕ) (id : ℕ) → judged W row (accepts B W ps id) (step B W ps id) ≡ rolled_by row (heard_by B W ps id)
unfolding judged heard_by
judged_hears B W row ps id = go (accepts B W ps id)
  where
    qs : List ℕ
    qs = step B W ps id

    go : (b : Bool) → judged W row b qs ≡ rolled_by row (cond b (Some (heard_as (late_by B ps id) (greatest qs % 2 ^ 32) (marks_number W qs))) None)
    go true = refl
    go false = refl

-- so it is hearing by its window
pub row_hears : (B W : ℕ) (row : Row) (id : ℕ) → rolled_at B W row id ≡ rolled_by row (heard_at B W (window_of row) id)
unfolding rolled_at heard_at list_of
row_hears B W row id = judged_hears B W row (list_in W (window_of row)) id
