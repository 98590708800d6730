-- Only one outcome fits each public contract: two that its clauses allow are equal, the buffer at exit included.
-- The laws are stated over the clauses themselves, as the source has them. Assumes nothing.
use mathlib.Core.Path.{◌≡◌, sym, ap, ◌∙◌}
use mathlib.Core.List.{List, ◌++◌}
use Prim.Native.Nat.{ℕ}
use lib.ListN.{length, drop}
use seplogic.Ra.Ura.{Ura}
use base.Logic.{SProp, ent, via}
use prog.Memory.{Memory}
use prog.Routine.{Routine}
use types.Logic.{Logic}
use contract.Monad.{Fun, conj, conj_mono, fact}
use contract.Lifetimes.{Lfts}
use denote.MutBor.{MutBor}
use denote.Triple.Clauses.{AtExit}
use Rattle.lines.specs.Lines.{line_text, last_text, figures_text}
use Rattle.lines.specs.declared.Said.{Said}
use Rattle.lines.specs.declared.Figure.{Figure}
use Rattle.wire.proofs.One.{both, two}
use Rattle.lines.specs.contracts.line as line
use Rattle.lines.specs.contracts.last as last
use Rattle.lines.specs.contracts.figures as figures

-- a text at the front, and what was there after it
same : {r s : ℕ} {new other : List ℕ} (old text : List ℕ) → (r ≡ length text) × (new ≡ text ++ drop r old) → (s ≡ length text) × (other ≡ text ++ drop s old)
    → (r ≡ s) × (new ≡ other)
same {r} {s} old text e f = let k : r ≡ s = e.0 ∙ sym f.0 in (k, e.1 ∙ ap (λ n. text ++ drop n old) k ∙ sym f.1)

module _ {M : Type 1} {𝓤 : Ura M} (𝓛 : Logic 𝓤) (at_mem : Memory → SProp 𝓤) (run : Routine → Fun 𝓤) where
  -- `line` makes one text, and leaves one buffer
  pub one_line : (κs : Lfts 1) (ordinal : ℕ) (said : Said) (out : MutBor (List ℕ)) (r s : ℕ) (x y : AtExit line.ended κs)
      → let allows : ℕ → AtExit line.ended κs → SProp 𝓤 = λ v e. (line.clauses 𝓛 at_mem run κs (ordinal, (said, (out, tt)))).ensures tt v e in
      ent 𝓤 (conj 𝓤 (allows r x) (allows s y)) (fact 𝓤 ((r ≡ s) × (x.1.1.0.now ≡ y.1.1.0.now)))
  one_line κs ordinal said out r s x y =
      via 𝓤 _ (conj_mono 𝓤 (two 𝓤 _ _) (two 𝓤 _ _)) (both 𝓤 _ _ _ (λ e f. same out.now (line_text ordinal said) e.0 f.0))

  -- `last` makes one text, and leaves one buffer
  pub one_last : (κs : Lfts 1) (left : ℕ) (out : MutBor (List ℕ)) (r s : ℕ) (x y : AtExit last.ended κs)
      → let allows : ℕ → AtExit last.ended κs → SProp 𝓤 = λ v e. (last.clauses 𝓛 at_mem run κs (left, (out, tt))).ensures tt v e in
      ent 𝓤 (conj 𝓤 (allows r x) (allows s y)) (fact 𝓤 ((r ≡ s) × (x.1.0.now ≡ y.1.0.now)))
  one_last κs left out r s x y =
      via 𝓤 _ (conj_mono 𝓤 (two 𝓤 _ _) (two 𝓤 _ _)) (both 𝓤 _ _ _ (λ e f. same out.now (last_text left) e.0 f.0))

  -- `figures` makes one text, and leaves one buffer
  pub one_figures : (κs : Lfts 1) (figure : Figure) (out : MutBor (List ℕ)) (r s : ℕ) (x y : AtExit figures.ended κs)
      → let allows : ℕ → AtExit figures.ended κs → SProp 𝓤 = λ v e. (figures.clauses 𝓛 at_mem run κs (figure, (out, tt))).ensures tt v e in
      ent 𝓤 (conj 𝓤 (allows r x) (allows s y)) (fact 𝓤 ((r ≡ s) × (x.1.0.now ≡ y.1.0.now)))
  one_figures κs figure out r s x y =
      via 𝓤 _ (conj_mono 𝓤 (two 𝓤 _ _) (two 𝓤 _ _)) (both 𝓤 _ _ _ (λ e f. same out.now (figures_text figure) e.0 f.0))
