-- The count as it goes, with what two lesser numbers of marks, v and w, would lose: steps that only private contracts cite. Assumes nothing.
use Rattle.std.specs.Prelude.{ℕ, ◌+◌, ◌-◌, max, ◌≡◌, true, Option, Some, None, List, []}
use Rattle.window.specs.Windows.{heard_at, most_marks}
use Rattle.window.specs.Rows.{behind_encrypted}
use Rattle.window.specs.declared.windows.Heard.{Heard}
use Rattle.widths.specs.Trial.{verdicts_with, new_among, farthest_new, lost_of, lost_from}
use Rattle.widths.specs.declared.Run.{Run}
use Rattle.widths.specs.declared.Tally.{Tally}

-- the run after an answer of its window: a duplicate changes nothing
abbrev pub ran : ℕ → ℕ → Run → Option Heard → Run
ran v w run (Some heard) =
    record {
      window = record { used = true; highest = heard.highest; marks = heard.marks };
      found = run.found + 1;
      past = run.past + lost_of v heard.late;
      beyond = run.beyond + lost_of w heard.late;
      farthest = max run.farthest heard.late;
    }
ran v w run None = run

-- the run after one id more
abbrev pub run_after : ℕ → ℕ → Run → ℕ → Run
run_after v w run id = ran v w run (heard_at behind_encrypted most_marks run.window id)

-- what a run has counted of all ids
pub record Passed (v w : ℕ) (ids : List ℕ) (run : Run) : Type 0 where
  pub found : run.found ≡ new_among (verdicts_with most_marks ids)
  pub past : run.past ≡ lost_from behind_encrypted most_marks v [] ids
  pub beyond : run.beyond ≡ lost_from behind_encrypted most_marks w [] ids
  pub farthest : run.farthest ≡ farthest_new behind_encrypted most_marks [] ids

-- a tally of so many new ids among all
abbrev pub tallied_of : ℕ → ℕ → ℕ → Tally
tallied_of held new all = record { held = held; new = new; duplicate = all - new }
