-- Only one outcome fits each public contract: two that its clause allows are equal.
-- The laws are stated over the clauses themselves, as the source has them. Assumes nothing.
use mathlib.Core.Path.{◌≡◌, sym, ◌∙◌}
use mathlib.Core.List.{List}
use Prim.Native.Nat.{ℕ}
use Rattle.std.specs.Prelude.{Result}
use seplogic.Ra.Ura.{Ura}
use base.Logic.{SProp, ent}
use prog.Memory.{Memory}
use prog.Routine.{Routine}
use types.Logic.{Logic}
use contract.Monad.{Fun, conj, fact}
use contract.Lifetimes.{Lfts}
use denote.Ref.{Bor}
use denote.Triple.Clauses.{AtExit}
use Rattle.wire.proofs.One.{both}
use Rattle.widths.specs.declared.Tally.{Tally}
use Rattle.widths.specs.declared.Tried.{Tried}
use Rattle.widths.specs.declared.Refusal.{Refusal}
use Rattle.widths.specs.contracts.Refusal.number as number
use Rattle.widths.specs.contracts.count as count
use Rattle.widths.specs.contracts.trial as trial

module _ {M : Type 1} {𝓤 : Ura M} (𝓛 : Logic 𝓤) (at_mem : Memory → SProp 𝓤) (run : Routine → Fun 𝓤) where
  -- `Refusal::number` gives one number
  pub one_refusal_number : (refusal : Refusal) (r s : ℕ)
      → let allows : ℕ → SProp 𝓤 = λ v. (number.clauses 𝓛 at_mem run tt (refusal, tt)).ensures tt v (refusal, tt) in
      ent 𝓤 (conj 𝓤 (allows r) (allows s)) (fact 𝓤 (r ≡ s))
  one_refusal_number refusal r s = both 𝓤 _ _ _ (λ e f. e ∙ sym f)

  -- `count` gives one tally
  pub one_count : (κs : Lfts 1) (held : ℕ) (ids : Bor (List ℕ)) (r s : Tally) (x y : AtExit count.ended κs)
      → let allows : Tally → AtExit count.ended κs → SProp 𝓤 = λ v e. (count.clauses 𝓛 at_mem run κs (held, (ids, tt))).ensures tt v e in
      ent 𝓤 (conj 𝓤 (allows r x) (allows s y)) (fact 𝓤 (r ≡ s))
  one_count κs held ids r s x y = both 𝓤 _ _ _ (λ e f. e ∙ sym f)

  -- `trial` gives one answer
  pub one_trial : (κs : Lfts 1) (ids : Bor (List ℕ)) (r s : Result Tried Refusal) (x y : AtExit trial.ended κs)
      → let allows : Result Tried Refusal → AtExit trial.ended κs → SProp 𝓤 = λ v e. (trial.clauses 𝓛 at_mem run κs (ids, tt)).ensures tt v e in
      ent 𝓤 (conj 𝓤 (allows r x) (allows s y)) (fact 𝓤 (r ≡ s))
  one_trial κs ids r s x y = both 𝓤 _ _ _ (λ e f. e ∙ sym f)
