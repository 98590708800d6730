-- Only one outcome fits each public contract: two that its clause allows are equal, the verdict and what a lent row holds at exit included.
-- The laws are stated over the clauses themselves, as the source has them. Assumes nothing.
use Rattle.std.proofs.Common.{◌≡◌, ℕ, Option, sym, ◌∙◌}
use seplogic.Ra.Ura.{Ura}
use base.Logic.{SProp, ent, via}
use prog.Memory.{Memory}
use prog.Routine.{Routine}
use types.Logic.{Logic}
use contract.Monad.{Fun, conj, conj_l, conj_r, fact, fact_use, fact_mono}
use contract.Lifetimes.{Lfts}
use denote.MutBor.{MutBor}
use denote.Triple.Clauses.{AtExit}
use Rattle.window.specs.declared.windows.Window.{Window}
use Rattle.window.specs.declared.windows.Heard.{Heard}
use Rattle.window.specs.declared.Row.{Row}
use Rattle.window.specs.declared.Rolled.{Rolled}
use Rattle.window.specs.declared.Verdict.{Verdict}
use Rattle.window.specs.contracts.windows.Window.heard as heard
use Rattle.window.specs.contracts.WindowFromRow.from as window_from
use Rattle.window.specs.contracts.Row.open as opening
use Rattle.window.specs.contracts.Row.rolled as rolled
use Rattle.window.specs.contracts.Row.roll as roll

module _ {M : Type 1} {𝓤 : Ura M} (𝓛 : Logic 𝓤) (at_mem : Memory → SProp 𝓤) (run : Routine → Fun 𝓤) where
  -- two facts, and what follows from them
  both : (φ ψ χ : Type 0) → (φ → ψ → χ) → ent 𝓤 (conj 𝓤 (fact 𝓤 φ) (fact 𝓤 ψ)) (fact 𝓤 χ)
  both φ ψ χ k =
      fact_use 𝓤 φ (conj_l 𝓤 (fact 𝓤 φ) (fact 𝓤 ψ)) (λ x. via 𝓤 (fact 𝓤 ψ) (conj_r 𝓤 (fact 𝓤 φ) (fact 𝓤 ψ)) (fact_mono 𝓤 ψ χ (k x)))

  -- `Window::heard` gives one answer
  pub one_heard : (window : Window) (held id : ℕ) (r s : Option Heard)
      → let allows : Option Heard → SProp 𝓤 = λ x. (heard.clauses 𝓛 at_mem run tt (window, (held, (id, tt)))).ensures tt x (window, (held, (id, tt))) in
      ent 𝓤 (conj 𝓤 (allows r) (allows s)) (fact 𝓤 (r ≡ s))
  one_heard window held id r s = both _ _ _ (λ e f. e ∙ sym f)

  -- `Window::from` gives one window
  pub one_window_from : (row : Row) (r s : Window)
      → let allows : Window → SProp 𝓤 = λ x. (window_from.clauses 𝓛 at_mem run tt (row, tt)).ensures tt x (row, tt) in
      ent 𝓤 (conj 𝓤 (allows r) (allows s)) (fact 𝓤 (r ≡ s))
  one_window_from row r s = both _ _ _ (λ e f. e ∙ sym f)

  -- `Row::open` gives one row
  pub one_open : (node key id : ℕ) (r s : Row)
      → let allows : Row → SProp 𝓤 = λ x. (opening.clauses 𝓛 at_mem run tt (node, (key, (id, tt)))).ensures tt x (node, (key, (id, tt))) in
      ent 𝓤 (conj 𝓤 (allows r) (allows s)) (fact 𝓤 (r ≡ s))
  one_open node key id r s = both _ _ _ (λ e f. e ∙ sym f)

  -- `Row::rolled` gives one verdict and one row
  pub one_rolled : (row : Row) (id : ℕ) (r s : Rolled)
      → let allows : Rolled → SProp 𝓤 = λ x. (rolled.clauses 𝓛 at_mem run tt (row, (id, tt))).ensures tt x (row, (id, tt)) in
      ent 𝓤 (conj 𝓤 (allows r) (allows s)) (fact 𝓤 (r ≡ s))
  one_rolled row id r s = both _ _ _ (λ e f. e ∙ sym f)

  -- `Row::roll` gives one verdict, and leaves one row behind the reference
  pub one_roll : (κs : Lfts 1) (row : MutBor Row) (id : ℕ) (r s : Verdict) (x y : AtExit roll.ended κs)
      → let allows : Verdict → AtExit roll.ended κs → SProp 𝓤 = λ v e. (roll.clauses 𝓛 at_mem run κs (row, (id, tt))).ensures tt v e in
      ent 𝓤 (conj 𝓤 (allows r x) (allows s y)) (fact 𝓤 ((r ≡ s) × (x.0.now ≡ y.0.now)))
  one_roll κs row id r s x y = both _ _ _ (λ e f. (e.0 ∙ sym f.0, e.1 ∙ sym f.1))
