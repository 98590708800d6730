-- Only one outcome fits `test_saved`: two that its clause allows are equal.
-- The law is stated over the clauses themselves, as the source has them. Assumes nothing.
use Prim.Native.Nat.{ℕ}
use mathlib.Core.Path.{◌≡◌, sym, ◌∙◌}
use mathlib.Core.List.{List}
use seplogic.Ra.Ura.{Ura}
use base.Logic.{SProp, ent}
use prog.Memory.{Memory}
use prog.Routine.{Routine}
use types.Logic.{Logic}
use contract.Monad.{Fun, conj, fact}
use contract.Lifetimes.{Lfts}
use denote.Ref.{Bor}
use denote.Triple.Clauses.{AtExit}
use Rattle.std.specs.Prelude.{Result}
use Rattle.message.specs.declared.answers.Reason.{Reason}
use Rattle.wire.proofs.One.{both}
use Rattle.faults.specs.contracts.test_saved as test

module _ {M : Type 1} {𝓤 : Ura M} (𝓛 : Logic 𝓤) (at_mem : Memory → SProp 𝓤) (run : Routine → Fun 𝓤) where
  -- it gives one answer
  pub one_test_saved : (κs : Lfts 1) (bytes : Bor (List ℕ)) (r s : Result (Unit {0}) Reason) (x y : AtExit test.ended κs)
      → let allows : Result (Unit {0}) Reason → AtExit test.ended κs → SProp 𝓤 = λ v e. (test.clauses 𝓛 at_mem run κs (bytes, tt)).ensures tt v e in
      ent 𝓤 (conj 𝓤 (allows r x) (allows s y)) (fact 𝓤 (r ≡ s))
  one_test_saved κs bytes r s x y = both 𝓤 _ _ _ (λ e f. e ∙ sym f)
