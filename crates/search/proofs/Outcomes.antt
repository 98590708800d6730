-- Only one outcome fits each public function: two that its clause allows are equal.
-- The laws are stated over the clauses themselves, as the source has them. Assumes nothing.
use mathlib.Core.Path.{◌≡◌, sym, ◌∙◌}
use Prim.Native.Nat.{ℕ}
use seplogic.Ra.Ura.{Ura}
use base.Logic.{SProp, ent}
use prog.Memory.{Memory}
use prog.Routine.{Routine}
use types.Logic.{Logic}
use contract.Monad.{Fun, conj, fact}
use contract.Lifetimes.{Lfts}
use denote.Ref.{Bor}
use denote.Triple.Clauses.{AtExit}
use mathlib.Core.List.{List}
use Rattle.std.proofs.Common.{Option}
use Rattle.wire.proofs.One.{both}
use Rattle.search.specs.contracts.find as finding
use Rattle.search.specs.contracts.find_free as freeing

module _ {M : Type 1} {𝓤 : Ura M} (𝓛 : Logic 𝓤) (at_mem : Memory → SProp 𝓤) (run : Routine → Fun 𝓤) where
  -- `find` gives one number or none
  pub one_find : (κs : Lfts 1) (table : Bor (List ℕ)) (node key : ℕ) (r s : Option ℕ) (x y : AtExit finding.ended κs)
      → let allows : Option ℕ → AtExit finding.ended κs → SProp 𝓤 = λ v e. (finding.clauses 𝓛 at_mem run κs (table, (node, (key, tt)))).ensures tt v e in
      ent 𝓤 (conj 𝓤 (allows r x) (allows s y)) (fact 𝓤 (r ≡ s))
  one_find κs table node key r s x y = both 𝓤 _ _ _ (λ e f. e ∙ sym f)

  -- `find_free` gives one number or none
  pub one_find_free : (κs : Lfts 1) (table : Bor (List ℕ)) (r s : Option ℕ) (x y : AtExit freeing.ended κs)
      → let allows : Option ℕ → AtExit freeing.ended κs → SProp 𝓤 = λ v e. (freeing.clauses 𝓛 at_mem run κs (table, tt)).ensures tt v e in
      ent 𝓤 (conj 𝓤 (allows r x) (allows s y)) (fact 𝓤 (r ≡ s))
  one_find_free κs table r s x y = both 𝓤 _ _ _ (λ e f. e ∙ sym f)
