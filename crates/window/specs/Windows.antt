-- The rule of positions at a window: what it stands for, and what an arriving id comes to, over B and W. Assumes nothing.
use Rattle.std.specs.Prelude.{ℕ, ◌+◌, ◌-◌, ◌%◌, ◌^◌, true, cond, Option, Some, None, List, [], ◌∷◌}
use Rattle.window.specs.Rule.{position_after, accepts, step, greatest, marks_number, marked}
use Rattle.window.specs.declared.windows.Window.{Window}
use Rattle.window.specs.declared.windows.Heard.{Heard}

-- the positions that a window stands for: none while it is not in use, else that of its highest id and those of its marks
abbrev pub list_in : ℕ → Window → List ℕ
list_in W window = cond window.used ((window.highest + 2 ^ 32) ∷ marked W window.marks (window.highest + 2 ^ 32)) []

-- how far an arriving id lies behind the greatest position of a list: 0 where it is ahead of it
abbrev pub late_by : ℕ → List ℕ → ℕ → ℕ
late_by B ps id = greatest ps - position_after B ps id

-- a new id, so far behind the highest, and the highest id and the marks after it
abbrev pub heard_as : ℕ → ℕ → ℕ → Heard
heard_as late highest marks = record { late = late; highest = highest; marks = marks }

-- what an arriving id is, by a list: of a new id the highest is the greatest position modulo 2^32 and the marks are those of the list after it;
-- none is a duplicate
unfoldable pub heard_by : ℕ → ℕ → List ℕ → ℕ → Option Heard
heard_by B W ps id =
    cond (accepts B W ps id) (Some (heard_as (late_by B ps id) (greatest (step B W ps id) % 2 ^ 32) (marks_number W (step B W ps id)))) None

-- the same by the positions that a window stands for
unfoldable pub heard_at : ℕ → ℕ → Window → ℕ → Option Heard
heard_at B W window id = heard_by B W (list_in W window) id

-- the window after it: a new id leaves it in use, and a duplicate changes nothing
abbrev pub window_after : Window → Option Heard → Window
window_after window (Some heard) = record { used = true; highest = heard.highest; marks = heard.marks }
window_after window None = window

-- the most marks that a window has
abbrev pub most_marks : ℕ
most_marks = 63
