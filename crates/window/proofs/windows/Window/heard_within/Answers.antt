-- `window::windows::Window::heard_within` meets its contract: each of its returns is one of the places that an arriving id can have
-- (proofs/Marks.antt). Assumes nothing.
use Rattle.std.proofs.Common.{◌≡◌, ℕ, suc, ◌+◌, ◌-◌, ◌/◌, ◌%◌, ◌^◌, ◌<◌, ◌≤◌, Some, not, true, false, sym, ap, ◌∙◌, ap₂, arith, eq-eqb, ne_eqb}
use borrow.Author.Tests.{not-true, not-false}
use lib.Bits.{bit_or}
use Rattle.window.specs.Rule.{bit_at}
use Rattle.window.specs.Rows.{behind_encrypted}
use Rattle.window.specs.Windows.{list_in, heard_as, most_marks}
use Rattle.window.specs.declared.windows.Window.{Window}
use Rattle.window.proofs.Bits.{shl_one}
use Rattle.window.proofs.Positions.{Fits}
use Rattle.window.proofs.Marks.{Arrival, outcome_same, outcome_ahead, outcome_past, outcome_old, outcome_marked, outcome_filled, late_ahead, late_behind}
use Rattle.window.proofs.Hearing.{keeps_window, heard_old, heard_new_lem, heard_first}
use Rattle.window.proofs.windows.Window.heard_within.Goals as goal

-- the contract asks of the numbers what the laws ask
fits : {behind held : ℕ} → (held ≤ most_marks) × (held ≤ behind) × (behind ≤ behind_encrypted) → Fits behind held
fits r = record { window = r.1; behind = omega arith }

-- the way forward to an id, as the code has it
abbrev way : Window → ℕ → ℕ
way window id = (id + (2 ^ 32 - window.highest)) % 2 ^ 32

-- an id arrives at a window in use
arrives : {behind held : ℕ} (window : Window) (id : ℕ) → (held ≤ most_marks) × (held ≤ behind) × (behind ≤ behind_encrypted)
    → not window.used ≡ false → window.highest < 2 ^ 32 → id < 2 ^ 32
    → Arrival behind held (list_in held window) window.highest window.marks id (way window id)
arrives window id r used high small =
    record { fits = fits r; keeps = keeps_window (fits r) window (not-false window.used used) high; small = omega arith; around = omega arith }

-- its bit, as the code asks for it
bit_set : (m k : ℕ) → m / 2 ^ k % 2 ≡ 1 → bit_at m k ≡ true
unfolding bit_at
bit_set m k e = eq-eqb _ _ e

bit_clear : (m k : ℕ) → (m / 2 ^ k % 2 ≡ 1 → ⊥) → bit_at m k ≡ false
unfolding bit_at
bit_clear m k e = ne_eqb _ _ e

pub returns-then-not-self : goal.returns-then-not-self
returns-then-not-self c =
    ap Some c.new.ensures
    ∙ sym (heard_first c.args.self c.args.id (fits c.requires) (not-true c.args.self.used c.if-not-self.true) (omega arith))

pub returns-then-ahead-eq0 : goal.returns-then-ahead-eq0
returns-then-ahead-eq0 c =
    let a = arrives c.args.self c.args.id c.requires c.if-not-self.false (omega arith) (omega arith) in
    sym (heard_old c.args.self c.args.id (outcome_same a c.if-ahead-eq0.true))

pub returns-then-ahead-held : goal.returns-then-ahead-held
returns-then-ahead-held c =
    let a = arrives c.args.self c.args.id c.requires c.if-not-self.false (omega arith) (omega arith) in
    let l : way c.args.self c.args.id + c.args.behind < 2 ^ 32 = omega (arith, c.if-ahead-held.true) in
    ap Some (c.new-then-ahead-held.ensures ∙ ap (heard_as 0 c.args.id) c.shifted.ensures)
    ∙ sym (heard_new_lem c.args.self c.args.id (outcome_ahead a (omega (arith, c.if-ahead-eq0.false)) l) (late_ahead a l))

pub returns-then-self-bit-eq1 : goal.returns-then-self-bit-eq1
returns-then-self-bit-eq1 c =
    let a = arrives c.args.self c.args.id c.requires c.if-not-self.false (omega arith) (omega arith) in
    sym (heard_old c.args.self c.args.id (outcome_marked a _ (omega arith) c.if-bit-held.true (bit_set _ _ c.if-self-bit-eq1.true)))

pub returns-then-bit-held : goal.returns-then-bit-held
returns-then-bit-held c =
    let a = arrives c.args.self c.args.id c.requires c.if-not-self.false (omega arith) (omega arith) in
    let d : ℕ = way c.args.self c.args.id in
    let bit : ℕ = 4294967295 - d in
    let l : bit < c.args.held = c.if-bit-held.true in
    let e : d + suc bit ≡ 2 ^ 32 = omega arith in
    ap Some (c.new-then-bit-held.ensures
    ∙ ap (heard_as (bit + 1) c.args.self.highest)
    (ap₂ (λ (x y : ℕ). bit_or c.args.self.marks x % y) (shl_one bit 64 (omega arith)) (shl_one c.args.held 64 (omega arith))))
    ∙ sym (heard_new_lem c.args.self c.args.id (outcome_filled a bit e l (bit_clear _ _ c.if-self-bit-eq1.false)) (late_behind a (omega arith) ∙ omega arith))

pub returns-then-bit-behind : goal.returns-then-bit-behind
returns-then-bit-behind c =
    let a = arrives c.args.self c.args.id c.requires c.if-not-self.false (omega arith) (omega arith) in
    sym (heard_old c.args.self c.args.id (outcome_old a (omega (arith, c.if-bit-behind.true)) (omega (arith, c.if-bit-held.false))))

pub returns : goal.returns
returns c =
    let a = arrives c.args.self c.args.id c.requires c.if-not-self.false (omega arith) (omega arith) in
    let l : way c.args.self c.args.id + c.args.behind < 2 ^ 32 = omega (arith, c.if-bit-behind.false, c.if-ahead-eq0.false) in
    ap Some c.new-2.ensures
    ∙ sym (heard_new_lem c.args.self c.args.id (outcome_past a (omega (arith, c.if-ahead-held.false)) l) (late_ahead a l))
