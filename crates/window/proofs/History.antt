-- The history of one row, over B and W: a row that shows a list goes on showing it, and gives the verdicts that the rule gives on the full list.
-- Assumes nothing.
use Rattle.std.proofs.Common.{◌≡◌, ℕ, suc, ◌+◌, ◌-◌, ◌%◌, ◌^◌, ◌<◌, Bool, true, false, Option, Some, None, List, [], ◌∷◌, sym, refl, ap, ◌∙◌, true≢false, mod-eq_of_lt, arith, pow_pos}
use mathlib.Core.Path.{subst⁻¹}
use native.Mathlib.Nat.{zero-mod}
use Rattle.window.specs.Rule.{member, greatest, position_after, accepts, step, accepted, marks_number}
use Rattle.window.specs.Windows.{heard_by, window_after}
use Rattle.window.specs.Rows.{window_of, list_of, row_in_use, opened, again, judged, rolled_at}
use Rattle.window.specs.History.{Ids, row_after, verdicts_of, verdict_of, ruled, ShowsIn, Shows}
use Rattle.window.specs.declared.Row.{Row}
use Rattle.window.specs.declared.Rolled.{Rolled}
use Rattle.window.specs.declared.windows.Heard.{Heard}
use Rattle.window.specs.declared.Verdict.{Verdict}
use Rattle.window.specs.declared.Verdict.TheVariants.{New, Duplicate}
use Rattle.window.proofs.Bits.{number_of}
use Rattle.window.proofs.Positions.{Fits}
use Rattle.window.proofs.Marks.{Keeps, outcome_first}
use Rattle.window.proofs.Accepting.{step_new}
use Rattle.window.proofs.Growing.{Far, far_step}
use Rattle.window.proofs.Hearing.{hears_full, shows_on}
use Rattle.window.proofs.Rows.{own, list_used, list_free, keeps_own, either, rolled_by, judged_hears, row_hears}

-- ---- one message

-- the short list of a row may be replaced by any list that the row shows, so by the full one: rolling it comes to the same
pub full_list : {B W : ℕ} → Fits B W → (row : Row) (ps : List ℕ) (id : ℕ) → Far ps → Shows W row ps → id < 2 ^ 32
    → rolled_at B W row id ≡ judged W row (accepts B W ps id) (step B W ps id)
full_list {B} {W} fits row ps id f s l =
    row_hears B W row id ∙ ap (rolled_by row) (hears_full fits (window_of row) ps id f s l) ∙ sym (judged_hears B W row ps id)

-- the rule's verdict
judged_verdict : (W : ℕ) (row : Row) (b : Bool) (ps : List ℕ) → (judged W row b ps).verdict ≡ verdict_of b
unfolding judged
judged_verdict W row true ps = refl
judged_verdict W row false ps = refl

-- the row then shows the list after the id
judged_shows : (B W : ℕ) (row : Row) (ps : List ℕ) (id : ℕ) → Shows W row ps → Shows W (judged W row (accepts B W ps id) (step B W ps id)).row (step B W ps id)
judged_shows B W row ps id s =
    subst⁻¹ (λ (r : Rolled). Shows W r.row (step B W ps id)) (judged_hears B W row ps id)
    (go (heard_by B W ps id) (step B W ps id) (shows_on B W (window_of row) ps id s))
  where
    go : (heard : Option Heard) (qs : List ℕ) → ShowsIn W (window_after (window_of row) heard) qs → Shows W (rolled_by row heard).row qs
    go (Some heard) qs s = s
    go None qs s = s

-- is the verdict `New`?
abbrev pub heard_new : Verdict → Bool
heard_new New = true
heard_new Duplicate = false

heard_verdict : (b : Bool) → heard_new (verdict_of b) ≡ b
heard_verdict true = refl
heard_verdict false = refl

-- ---- what a row of a key stands for
pub record Stands (W key : ℕ) (row : Row) (ps : List ℕ) : Type 0 where
  pub name : row.key ≡ key
  pub far : Far ps
  pub shows : Shows W row ps

-- a row handed in, whatever stands in it, stands for its own list
pub stands_own : {B W : ℕ} → Fits B W → (row : Row) → row.highest < 2 ^ 32 → Stands W row.key row (list_of W row)
unfolding marks_number
stands_own {B} {W} fits row l = go row.used refl
  where
    keeps : Keeps W (own W row) row.highest row.marks
    keeps = keeps_own fits row l

    go : (b : Bool) → row.used ≡ b → Stands W row.key row (list_of W row)
    go true u =
        subst⁻¹ (Stands W row.key row) (list_used W row u)
        (record {
          name = refl;
          far = keeps.far;
          shows = (u, sym keeps.high, sym (number_of W row.marks (λ k. member (greatest (own W row) - suc k) (own W row)) keeps.marks));
        })
    go false u = subst⁻¹ (Stands W row.key row) (list_free W row u) (record { name = refl; far = tt; shows = u })

-- a row just opened stands for its first id alone
pub stands_opened : {B W : ℕ} → Fits B W → (node key n : ℕ) → n < 2 ^ 32 → Stands W key (opened node key n) ((n + 2 ^ 32) ∷ [])
unfolding position_after greatest
stands_opened {B} {W} fits node key n l =
    let o = outcome_first B W n fits l in
    record {
      name = refl;
      far = omega arith;
      shows = (refl, omega arith, zero-mod (2 ^ W) ∙ sym o.marks ∙ ap (marks_number W) (step_new B W [] n o.new));
    }

-- ---- what messages leave as it is

-- what one message leaves, any number of them leave
pub all_along : (P : Row → Type 0) (roll : Row → ℕ → Rolled) → ((row : Row) (id : ℕ) → P row → P (roll row id).row) → (row : Row) (ids : List ℕ) → P row → P (row_after roll row ids)
unfolding row_after
all_along P roll on row [] h = h
all_along P roll on row (id ∷ ids) h = all_along P roll on (roll row id).row ids (on row id h)

-- a row in use with no other bits is given whole by its name and a list that it shows
pub whole : (W : ℕ) (row : Row) (ps : List ℕ) → row.used ≡ true → row.marks < 2 ^ W → Shows W row ps → row ≡ row_in_use row.node row.key (greatest ps % 2 ^ 32) (marks_number W ps)
whole W row [] u l s = absurd (true≢false (sym u ∙ s))
whole W row (p ∷ ps) u l s =
    let e : row.marks ≡ marks_number W (p ∷ ps) = sym (mod-eq_of_lt l) ∙ s.2 in
    λ i. record { used = u i; node = row.node; key = row.key; highest = s.1 i; marks = e i }

-- ---- any number of messages

-- a function rolls the rows of one key as the rule does
pub record Rolls (B W : ℕ) (roll : Row → ℕ → Rolled) (key : ℕ) : Type 0 where
  pub fits : Fits B W
  pub same : (row : Row) (id : ℕ) → row.key ≡ key → roll row id ≡ rolled_at B W row id

module _ {B W : ℕ} {roll : Row → ℕ → Rolled} {key : ℕ} (r : Rolls B W roll key) where
  module _ {row : Row} {ps : List ℕ} (s : Stands W key row ps) (id : ℕ) (l : id < 2 ^ 32) where
    pub rolls_full : roll row id ≡ judged W row (accepts B W ps id) (step B W ps id)
    rolls_full = r.same row id s.name ∙ full_list r.fits row ps id s.far s.shows l

    pub verdict_on : (roll row id).verdict ≡ verdict_of (accepts B W ps id)
    verdict_on = ap (λ (x : Rolled). x.verdict) rolls_full ∙ judged_verdict W row (accepts B W ps id) (step B W ps id)

    pub stands_on : Stands W key (roll row id).row (step B W ps id)
    stands_on =
        record {
          name = ap (λ (x : Rolled). x.row.key) (r.same row id s.name) ∙ either B W row id (λ x. x.row.key ≡ key) (λ h m l. s.name) s.name;
          far = far_step B W ps id s.far;
          shows = subst⁻¹ (λ (x : Rolled). Shows W x.row (step B W ps id)) rolls_full (judged_shows B W row ps id s.shows);
        }

    -- what a row takes as new, the rule accepts
    pub was_accepted : (roll row id).verdict ≡ New → accepts B W ps id ≡ true
    was_accepted new = sym (heard_verdict (accepts B W ps id)) ∙ ap heard_new (sym verdict_on ∙ new)

    -- what the rule does not accept changes no row
    pub refused : accepts B W ps id ≡ false → roll row id ≡ again row
    unfolding judged
    refused e = rolls_full ∙ ap (λ (b : Bool). judged W row b (step B W ps id)) e

  -- the verdicts are the rule's on the full list, and the row shows the full list
  pub history : {row : Row} {ps : List ℕ} → Stands W key row ps → (ids : List ℕ) → Ids ids
      → (verdicts_of roll row ids ≡ ruled B W ps ids) × Stands W key (row_after roll row ids) (accepted B W ps ids)
  unfolding verdicts_of ruled row_after accepted
  history s [] h = (refl, s)
  history {row = row} {ps = ps} s (id ∷ ids) h =
      let on = history {row = (roll row id).row} {ps = step B W ps id} (stands_on s id h.0) ids h.1 in
      ((λ i. verdict_on s id h.0 i ∷ on.0 i), on.1)

  -- from its first id on, a row is given whole by the full list
  pub whole_along : (node n : ℕ) → n < 2 ^ 32 → (ids : List ℕ) → Ids ids
      → let full : List ℕ = accepted B W ((n + 2 ^ 32) ∷ []) ids in row_after roll (opened node key n) ids ≡ row_in_use node key (greatest full % 2 ^ 32) (marks_number W full)
  whole_along node n l ids h =
      let full : List ℕ = accepted B W ((n + 2 ^ 32) ∷ []) ids in
      let k : Kept (row_after roll (opened node key n) ids) = all_along Kept roll on (opened node key n) ids (refl, refl, refl, pow_pos W) in
      let s = (history (stands_opened r.fits node key n l) ids h).1.shows in
      whole W (row_after roll (opened node key n) ids) full k.0 k.3 s
      ∙ (λ i. row_in_use (k.1 i) (k.2 i) (greatest full % 2 ^ 32) (marks_number W full))
    where
      -- what no message changes
      Kept : Row → Type 0
      Kept r = (r.used ≡ true) × (r.node ≡ node) × (r.key ≡ key) × (r.marks < 2 ^ W)

      on : (row : Row) (id : ℕ) → Kept row → Kept (roll row id).row
      on row id h =
          subst⁻¹ (λ (x : Rolled). Kept x.row) (r.same row id h.2)
          (either B W row id (λ x. Kept x.row) (λ y m l. (refl, h.1, h.2, l)) h)
