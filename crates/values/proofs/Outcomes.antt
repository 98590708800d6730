-- Only one outcome fits `load`: two that its clause allows are equal.
-- The law is stated over the clause itself, as the source has it. Assumes nothing.
use Rattle.std.specs.Prelude.{Option}
use Prim.Native.Nat.{ℕ}
use mathlib.Core.Path.{◌≡◌, sym, ◌∙◌}
use mathlib.Core.List.{List}
use seplogic.Ra.Ura.{Ura}
use base.Logic.{SProp, ent}
use prog.Memory.{Memory}
use prog.Routine.{Routine}
use types.Logic.{Logic}
use contract.Monad.{Fun, conj, fact}
use contract.Lifetimes.{Lfts}
use denote.Ref.{Bor}
use denote.Triple.Clauses.{AtExit}
use Rattle.message.specs.declared.value.Message.{Message}
use Rattle.wire.proofs.One.{both}
use Rattle.values.specs.contracts.load as load

pub one_load : {M : Type 1} {𝓤 : Ura M} (𝓛 : Logic 𝓤) (at_mem : Memory → SProp 𝓤) (run : Routine → Fun 𝓤)
    (κs : Lfts 1) (fields : Bor (List ℕ)) (r s : Option Message) (x y : AtExit load.ended κs)
    → let allows : Option Message → AtExit load.ended κs → SProp 𝓤 = λ v e. (load.clauses 𝓛 at_mem run κs (fields, tt)).ensures tt v e in
    ent 𝓤 (conj 𝓤 (allows r x) (allows s y)) (fact 𝓤 (r ≡ s))
one_load {𝓤 = 𝓤} 𝓛 at_mem run κs fields r s x y = both 𝓤 _ _ _ (λ e f. e ∙ sym f)
