-- Only one outcome fits each public contract: two that its clauses allow are equal, what is lent included.
-- The laws are stated over the clauses themselves, as the source has them. Assumes nothing.
use Rattle.std.specs.Prelude.{Result}
use mathlib.Core.Path.{◌≡◌, sym, ◌∙◌}
use Prim.Native.Nat.{ℕ}
use seplogic.Ra.Ura.{Ura}
use base.Logic.{SProp, ent, via}
use prog.Memory.{Memory}
use prog.Routine.{Routine}
use types.Logic.{Logic}
use contract.Monad.{Fun, conj, conj_mono, fact}
use contract.Lifetimes.{Lfts}
use denote.MutBor.{MutBor}
use denote.Ref.{Bor}
use denote.Triple.Clauses.{AtExit}
use mathlib.Core.List.{List}
use Rattle.message.specs.declared.answers.Refusal.{Refusal}
use Rattle.admission.specs.declared.answers.Received.{Received}
use Rattle.reception.specs.declared.receiving.Delivery.{Delivery}
use Rattle.wire.proofs.One.{both, two, three}
use Rattle.reception.specs.contracts.removing.remove as removing
use Rattle.reception.specs.contracts.receiving.receive as receiving

module _ {M : Type 1} {𝓤 : Ura M} (𝓛 : Logic 𝓤) (at_mem : Memory → SProp 𝓤) (run : Routine → Fun 𝓤) where
  -- `remove` gives one answer, and leaves one table
  pub one_removal : (κs : Lfts 1) (table : MutBor (List ℕ)) (node key : ℕ) (r s : Result (Unit {0}) Refusal) (x y : AtExit removing.ended κs)
      → let allows : Result (Unit {0}) Refusal → AtExit removing.ended κs → SProp 𝓤 = λ v e. (removing.clauses 𝓛 at_mem run κs (table, (node, (key, tt)))).ensures tt v e in
      ent 𝓤 (conj 𝓤 (allows r x) (allows s y)) (fact 𝓤 ((r ≡ s) × (x.0.now ≡ y.0.now)))
  one_removal κs table node key r s x y =
      via 𝓤 _ (conj_mono 𝓤 (two 𝓤 _ _) (two 𝓤 _ _)) (both 𝓤 _ _ _ (λ e f. (e.0 ∙ sym f.0, e.1 ∙ sym f.1)))

  -- `receive` gives one answer, and leaves one table and one buffer
  pub one_receipt : (κs : Lfts 3) (delivery : Delivery) (bytes : Bor (List ℕ)) (table out : MutBor (List ℕ)) (r s : Result Received Refusal) (x y : AtExit receiving.ended κs)
      → let allows : Result Received Refusal → AtExit receiving.ended κs → SProp 𝓤 = λ v e. (receiving.clauses 𝓛 at_mem run κs (delivery, (bytes, (table, (out, tt))))).ensures tt v e in
      ent 𝓤 (conj 𝓤 (allows r x) (allows s y))
      (fact 𝓤 ((r ≡ s) × ((x.1.1.0.now ≡ y.1.1.0.now) × (x.1.1.1.0.now ≡ y.1.1.1.0.now))))
  one_receipt κs delivery bytes table out r s x y =
      via 𝓤 _ (conj_mono 𝓤 (three 𝓤 _ _ _) (three 𝓤 _ _ _))
      (both 𝓤 _ _ _ (λ e f. (e.0 ∙ sym f.0, (e.1.0 ∙ sym f.1.0, e.1.1 ∙ sym f.1.1))))
