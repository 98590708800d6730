-- A run of 63 marks follows the rule: what it counts of ids, from any list that its window shows. Over two lesser numbers of marks. Assumes nothing.
use mathlib.Core.Path.{◌≡◌, subst, subst⁻¹}
use mathlib.Core.Bool.{Bool, true, false, cond}
use mathlib.Core.List.{List, [], ◌∷◌}
use Prim.Native.Nat.{ℕ, suc, ◌+◌, ◌%◌, ◌^◌, ◌≤◌, ◌<◌, max}
use native.Mathlib.Omega.{arith}
use lib.Dec.{ltb}
use lib.ListN.{length}
use Rattle.window.specs.Rule.{greatest, accepts, step, marks_number}
use Rattle.window.specs.Windows.{late_by, heard_as, heard_by, window_after, most_marks}
use Rattle.window.specs.Rows.{behind_encrypted}
use Rattle.window.specs.History.{verdict_of, ruled, ShowsIn}
use Rattle.window.specs.declared.Verdict.{Verdict}
use Rattle.window.specs.declared.windows.Heard.{Heard}
use Rattle.std.specs.Prelude.{Option, Some, None}
use Rattle.window.proofs.Bits.{cond_le}
use Rattle.window.proofs.Positions.{Fits}
use Rattle.window.proofs.Growing.{Far, far_step}
use Rattle.window.proofs.Hearing.{hears_full, shows_on}
use Rattle.widths.specs.Trial.{verdicts_with, new_among, duplicates_among, farthest_new, lost_of, lost_from}
use Rattle.widths.specs.Runs.{ran, run_after, Passed}
use Rattle.widths.specs.declared.Run.{Run}

-- the step of a new id, with what was added up by other names
pub ran_new : (v w : ℕ) (run : Run) (late h m x y f : ℕ) → x ≡ lost_of v late → y ≡ lost_of w late → f ≡ max run.farthest late
    → record { window = record { used = true; highest = h; marks = m }; found = run.found + 1; past = run.past + x; beyond = run.beyond + y; farthest = f } ≡ ran v w run (Some (heard_as late h m))
ran_new v w run late h m x y f ex ey ef =
    λ i. record { window = record { used = true; highest = h; marks = m }; found = run.found + 1; past = run.past + ex i; beyond = run.beyond + ey i; farthest = ef i }

-- an id counts once at most
pub ran_once : (v w : ℕ) (run : Run) (heard : Option Heard)
    → ((ran v w run heard).found ≤ suc run.found) × ((ran v w run heard).past ≤ suc run.past) × ((ran v w run heard).beyond ≤ suc run.beyond)
ran_once v w run (Some heard) = (omega arith, omega (arith, cond_le (ltb v heard.late) 1), omega (arith, cond_le (ltb w heard.late) 1))
ran_once v w run None = (omega arith, omega arith, omega arith)

-- and each is new or a duplicate
pub counted_once : (B W : ℕ) (ps ids : List ℕ) → new_among (ruled B W ps ids) + duplicates_among (ruled B W ps ids) ≡ length ids
unfolding ruled
counted_once B W ps [] = omega arith
counted_once B W ps (id ∷ ids) = go (accepts B W ps id) (counted_once B W (step B W ps id) ids)
  where
    rest : List Verdict
    rest = ruled B W (step B W ps id) ids

    go : (b : Bool) → new_among rest + duplicates_among rest ≡ length ids
        → new_among (verdict_of b ∷ rest) + duplicates_among (verdict_of b ∷ rest) ≡ length (id ∷ ids)
    go true e = omega arith
    go false e = omega arith

-- what a run has counted, with what the rule says of the ids that are left, from the list ps of those before them
pub record Counting (v w : ℕ) (run : Run) (ps ids : List ℕ) (n x y f : ℕ) : Type 0 where
  pub far : Far ps
  pub shows : ShowsIn most_marks run.window ps
  pub new : run.found + new_among (ruled behind_encrypted most_marks ps ids) ≡ n
  pub past : run.past + lost_from behind_encrypted most_marks v ps ids ≡ x
  pub beyond : run.beyond + lost_from behind_encrypted most_marks w ps ids ≡ y
  pub farthest : max run.farthest (farthest_new behind_encrypted most_marks ps ids) ≡ f

-- one id more
pub counting_on : (v w : ℕ) {run : Run} {ps : List ℕ} {id : ℕ} {ids : List ℕ} {n x y f : ℕ}
    → id < 2 ^ 32 → Counting v w run ps (id ∷ ids) n x y f → Counting v w (run_after v w run id) (step behind_encrypted most_marks ps id) ids n x y f
unfolding ruled farthest_new lost_from heard_by
counting_on v w {run} {ps} {id} {ids} {n} {x} {y} {f} li c =
    subst⁻¹ (λ (h : Option Heard). Counting v w (ran v w run h) qs ids n x y f) (hears_full fits run.window ps id c.far c.shows li)
    (go (accepts B W ps id) (late_by B ps id) (greatest qs % 2 ^ 32) (marks_number W qs) (shows_on B W run.window ps id c.shows) c.new c.past c.beyond c.farthest)
  where
    B : ℕ
    B = behind_encrypted

    W : ℕ
    W = most_marks

    qs : List ℕ
    qs = step B W ps id

    fits : Fits B W
    fits = omega arith

    go : (b : Bool) (late h m : ℕ) → let heard : Option Heard = cond b (Some (heard_as late h m)) None in ShowsIn W (window_after run.window heard) qs
        → run.found + new_among (verdict_of b ∷ ruled B W qs ids) ≡ n
        → run.past + (cond b (lost_of v late) 0 + lost_from B W v qs ids) ≡ x
        → run.beyond + (cond b (lost_of w late) 0 + lost_from B W w qs ids) ≡ y
        → max run.farthest (max (cond b late 0) (farthest_new B W qs ids)) ≡ f
        → Counting v w (ran v w run heard) qs ids n x y f
    go true late h m s en ex ey ef =
        record { far = far_step B W ps id c.far; shows = s; new = omega arith; past = omega (arith, ex); beyond = omega (arith, ey); farthest = omega arith }
    go false late h m s en ex ey ef =
        record { far = far_step B W ps id c.far; shows = s; new = en; past = omega arith; beyond = omega arith; farthest = omega arith }

-- what a run that has counted some of the ids has still to count, from some list that its window shows
abbrev pub Left : ℕ → ℕ → List ℕ → Run → List ℕ → Type 0
Left v w all run ids =
    (ps : List ℕ)
    × Counting v w run ps ids
    (new_among (verdicts_with most_marks all))
    (lost_from behind_encrypted most_marks v [] all)
    (lost_from behind_encrypted most_marks w [] all)
    (farthest_new behind_encrypted most_marks [] all)

module _ (v w : ℕ) (all : List ℕ) where
  -- from the first id on
  pub left_first : (run : Run) → run.window.used ≡ false → run.found ≡ 0 → run.past ≡ 0 → run.beyond ≡ 0 → run.farthest ≡ 0 → Left v w all run all
  left_first run u n x y f =
      ([], record { far = tt; shows = u; new = omega arith; past = omega arith; beyond = omega arith; farthest = omega arith })

  pub left_on : (run next : Run) (left ids : List ℕ) (id : ℕ) → id < 2 ^ 32 → left ≡ id ∷ ids → next ≡ run_after v w run id → Left v w all run left → Left v w all next ids
  left_on run next left ids id li e n c = (
    step behind_encrypted most_marks c.0 id,
    subst⁻¹ (λ (r : Run). Counting v w r (step behind_encrypted most_marks c.0 id) ids news past beyond farthest) n
        (counting_on v w li (subst (λ (js : List ℕ). Counting v w run c.0 js news past beyond farthest) e c.1)),
  )
    where
      news : ℕ
      news = new_among (verdicts_with most_marks all)

      past : ℕ
      past = lost_from behind_encrypted most_marks v [] all

      beyond : ℕ
      beyond = lost_from behind_encrypted most_marks w [] all

      farthest : ℕ
      farthest = farthest_new behind_encrypted most_marks [] all

  -- to the last
  pub left_none : (run : Run) (left : List ℕ) → left ≡ [] → Left v w all run left → Passed v w all run
  unfolding ruled farthest_new lost_from
  left_none run left none c =
      let last : Left v w all run [] = subst (Left v w all run) none c in
      record {
        found = omega (arith, last.1.new);
        past = omega (arith, last.1.past);
        beyond = omega (arith, last.1.beyond);
        farthest = omega (arith, last.1.farthest);
      }
