-- Only one outcome fits `restore`: two that its clauses allow are equal, the table included.
-- The law is stated over the clauses themselves, as the source has them. Assumes nothing.
use Rattle.std.specs.Prelude.{Result}
use Prim.Native.Nat.{ℕ}
use mathlib.Core.Path.{◌≡◌, sym, ◌∙◌}
use mathlib.Core.List.{List}
use seplogic.Ra.Ura.{Ura}
use base.Logic.{SProp, ent, via}
use prog.Memory.{Memory}
use prog.Routine.{Routine}
use types.Logic.{Logic}
use contract.Monad.{Fun, conj, conj_mono, fact}
use contract.Lifetimes.{Lfts}
use denote.MutBor.{MutBor}
use denote.Ref.{Bor}
use denote.Triple.Clauses.{AtExit}
use Rattle.message.specs.declared.answers.Refusal.{Refusal}
use Rattle.wire.proofs.One.{both, two}
use Rattle.restoring.specs.contracts.restore as restoring

module _ {M : Type 1} {𝓤 : Ura M} (𝓛 : Logic 𝓤) (at_mem : Memory → SProp 𝓤) (run : Routine → Fun 𝓤) where
  -- it gives one answer, and leaves one table
  pub one_restore : (κs : Lfts 2) (table : MutBor (List ℕ)) (bytes : Bor (List ℕ)) (r s : Result ℕ Refusal) (x y : AtExit restoring.ended κs)
      → let allows : Result ℕ Refusal → AtExit restoring.ended κs → SProp 𝓤 = λ v e. (restoring.clauses 𝓛 at_mem run κs (table, (bytes, tt))).ensures tt v e in
      ent 𝓤 (conj 𝓤 (allows r x) (allows s y)) (fact 𝓤 ((r ≡ s) × (x.0.now ≡ y.0.now)))
  one_restore κs table bytes r s x y =
      via 𝓤 _ (conj_mono 𝓤 (two 𝓤 _ _) (two 𝓤 _ _)) (both 𝓤 _ _ _ (λ e f. (e.0 ∙ sym f.0, e.1 ∙ sym f.1)))
