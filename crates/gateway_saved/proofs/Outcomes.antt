-- Only one outcome fits each exported function: two that its clauses allow are equal, all that is lent included.
-- The laws are stated over the clauses themselves, as the source has them. Assumes nothing.
use Prim.Native.Nat.{ℕ}
use mathlib.Core.Path.{◌≡◌, sym, ◌∙◌}
use mathlib.Core.List.{List}
use seplogic.Ra.Ura.{Ura}
use base.Logic.{SProp, ent, via}
use prog.Memory.{Memory}
use prog.Routine.{Routine}
use types.Logic.{Logic}
use contract.Monad.{Fun, conj, conj_mono, fact}
use contract.Lifetimes.{Lfts}
use denote.MutBor.{MutBor}
use denote.Ref.{Bor}
use denote.Triple.Clauses.{AtExit}
use Rattle.wire.proofs.One.{both, three}
use Rattle.gateway_saved.specs.contracts.saved.kabizarle_save as saving
use Rattle.gateway_saved.specs.contracts.saved.kabizarle_restore as restoring

module _ {M : Type 1} {𝓤 : Ura M} (𝓛 : Logic 𝓤) (at_mem : Memory → SProp 𝓤) (run : Routine → Fun 𝓤) where
  -- `kabizarle_save` gives one number, and leaves one buffer and one length
  pub one_save : (κs : Lfts 3) (table : Bor (List ℕ)) (out : MutBor (List ℕ)) (written : MutBor ℕ) (r s : ℕ) (x y : AtExit saving.ended κs)
      → let allows : ℕ → AtExit saving.ended κs → SProp 𝓤 = λ v e. (saving.clauses 𝓛 at_mem run κs (table, (out, (written, tt)))).ensures tt v e in
      ent 𝓤 (conj 𝓤 (allows r x) (allows s y)) (fact 𝓤 ((r ≡ s) × ((x.1.0.now ≡ y.1.0.now) × (x.1.1.0.now ≡ y.1.1.0.now))))
  one_save κs table out written r s x y =
      via 𝓤 _ (conj_mono 𝓤 (three 𝓤 _ _ _) (three 𝓤 _ _ _)) (both 𝓤 _ _ _ (λ e f. (e.0 ∙ sym f.0, (e.1.0 ∙ sym f.1.0, e.1.1 ∙ sym f.1.1))))

  -- `kabizarle_restore` gives one number, and leaves one table and one count
  pub one_restore : (κs : Lfts 3) (table : MutBor (List ℕ)) (bytes : Bor (List ℕ)) (placed : MutBor ℕ) (r s : ℕ) (x y : AtExit restoring.ended κs)
      → let allows : ℕ → AtExit restoring.ended κs → SProp 𝓤 = λ v e. (restoring.clauses 𝓛 at_mem run κs (table, (bytes, (placed, tt)))).ensures tt v e in
      ent 𝓤 (conj 𝓤 (allows r x) (allows s y)) (fact 𝓤 ((r ≡ s) × ((x.0.now ≡ y.0.now) × (x.1.1.0.now ≡ y.1.1.0.now))))
  one_restore κs table bytes placed r s x y =
      via 𝓤 _ (conj_mono 𝓤 (three 𝓤 _ _ _) (three 𝓤 _ _ _)) (both 𝓤 _ _ _ (λ e f. (e.0 ∙ sym f.0, (e.1.0 ∙ sym f.1.0, e.1.1 ∙ sym f.1.1))))
