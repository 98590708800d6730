-- `window::Row::rolled` meets its contract: a row is a window under its name. Assumes nothing.
use Rattle.std.proofs.Common.{◌≡◌, ℕ, Option, sym, ap, ◌∙◌, ap₂, arith}
use Rattle.window.specs.Rows.{behind_of, marks_held, rolled_of}
use Rattle.window.specs.Windows.{heard_at}
use Rattle.window.specs.declared.Row.{Row}
use Rattle.window.specs.declared.windows.Window.{Window}
use Rattle.window.specs.declared.windows.Heard.{Heard}
use Rattle.window.specs.Rows.{window_of}
use Rattle.window.proofs.Rows.{fits_gateway, behind_most, rolled_by, row_hears}
use Rattle.window.proofs.Hearing.{heard_marks}
use Rattle.window.proofs.Row.rolled.Goals as goal

-- what the window of a row hears, told by its answer and by how far back the row looks
rolls : (row : Row) (id : ℕ) {B : ℕ} {window : Window} {heard answer : Option Heard} → B ≡ behind_of row.key → window ≡ window_of row
    → heard ≡ heard_at B marks_held window id → heard ≡ answer → rolled_by row answer ≡ rolled_of row id
unfolding rolled_of
rolls row id b w h e =
    sym
    (row_hears (behind_of row.key) marks_held row id
    ∙ ap (rolled_by row) (ap₂ (λ (x : ℕ) (y : Window). heard_at x marks_held y id) (sym b) (sym w) ∙ sym h ∙ e))

pub heard_within-requires : goal.heard_within-requires
heard_within-requires c =
    let key = c.args.self.key in
    (omega arith, omega (arith, c.behind.ensures, fits_gateway key), omega (arith, c.behind.ensures, behind_most key))

pub overflow_cast-heard : goal.overflow_cast-heard
overflow_cast-heard c =
    let l = heard_marks _ _ _ _ _ (sym c.heard_within.ensures ∙ c.in-Some.is) in
    omega (arith, l)

pub returns-in-Some : goal.returns-in-Some
returns-in-Some c = c.taken.ensures ∙ rolls _ _ c.behind.ensures c.from.ensures c.heard_within.ensures c.in-Some.is

pub returns-in-None : goal.returns-in-None
returns-in-None c = c.again.ensures ∙ rolls _ _ c.behind.ensures c.from.ensures c.heard_within.ensures c.in-None.is
