-- Only one outcome fits the contract of `begin`: two that its clause allows are equal. That of `read_outer` is among those of the format.
-- The law is stated over the clause itself, as the source has it. Assumes nothing.
use Rattle.std.specs.Prelude.{Result}
use Prim.Native.Nat.{ℕ}
use mathlib.Core.Path.{◌≡◌, sym, ◌∙◌}
use mathlib.Core.List.{List}
use seplogic.Ra.Ura.{Ura}
use base.Logic.{SProp, ent}
use prog.Memory.{Memory}
use prog.Routine.{Routine}
use types.Logic.{Logic}
use contract.Monad.{Fun, conj, fact}
use contract.Lifetimes.{Lfts}
use denote.Ref.{Bor}
use denote.Triple.Clauses.{AtExit}
use Rattle.message.specs.declared.value.Message.{Message}
use Rattle.message.specs.declared.answers.Refusal.{Refusal}
use Rattle.wire.proofs.One.{both}
use Rattle.outer.specs.contracts.outer.begin as begin

module _ {M : Type 1} {𝓤 : Ura M} (𝓛 : Logic 𝓤) (at_mem : Memory → SProp 𝓤) (run : Routine → Fun 𝓤) where
  pub one_begin : (κs : Lfts 1) (bytes : Bor (List ℕ)) (r s : Result Message Refusal) (x y : AtExit begin.ended κs)
      → let allows : Result Message Refusal → AtExit begin.ended κs → SProp 𝓤 = λ v e. (begin.clauses 𝓛 at_mem run κs (bytes, tt)).ensures tt v e in
      ent 𝓤 (conj 𝓤 (allows r x) (allows s y)) (fact 𝓤 (r ≡ s))
  one_begin κs bytes r s x y = both 𝓤 _ _ _ (λ e f. e ∙ sym f)
