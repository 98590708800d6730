-- Only one outcome fits each exported function: two that its clauses allow are equal, all that is lent included.
-- The laws are stated over the clauses themselves, as the source has them. Assumes nothing.
use Prim.Native.Nat.{ℕ}
use mathlib.Core.Path.{◌≡◌, sym, ◌∙◌}
use mathlib.Core.Bool.{Bool}
use mathlib.Core.List.{List}
use seplogic.Ra.Ura.{Ura}
use base.Logic.{SProp, ent, via}
use prog.Memory.{Memory}
use prog.Routine.{Routine}
use types.Logic.{Logic}
use contract.Monad.{Fun, conj, conj_mono, fact}
use contract.Lifetimes.{Lfts}
use denote.MutBor.{MutBor}
use denote.Ref.{Bor}
use denote.Triple.Clauses.{AtExit}
use Rattle.wire.proofs.One.{both, two, five}
use Rattle.gateway.specs.contracts.receiving.kabizarle_receive as receiving
use Rattle.gateway.specs.contracts.removing.kabizarle_remove as removing

module _ {M : Type 1} {𝓤 : Ura M} (𝓛 : Logic 𝓤) (at_mem : Memory → SProp 𝓤) (run : Routine → Fun 𝓤) where
  -- `kabizarle_receive` gives one number, and leaves one table, one buffer, the fields in one state and one offset
  pub one_receive : (κs : Lfts 5) (own link : ℕ) (passed : Bool) (id : ℕ) (bytes : Bor (List ℕ)) (table out fields : MutBor (List ℕ)) (offset : MutBor ℕ) (r s : ℕ) (x y : AtExit receiving.ended κs)
      → let allows : ℕ → AtExit receiving.ended κs → SProp 𝓤 = λ v e. (receiving.clauses 𝓛 at_mem run κs (own, (link, (passed, (id, (bytes, (table, (out, (fields, (offset, tt)))))))))).ensures tt v e in
      ent 𝓤 (conj 𝓤 (allows r x) (allows s y)) (fact 𝓤 ((r ≡ s) × ((x.1.1.1.1.1.0.now ≡ y.1.1.1.1.1.0.now) × ((x.1.1.1.1.1.1.0.now ≡ y.1.1.1.1.1.1.0.now) × ((x.1.1.1.1.1.1.1.0.now ≡ y.1.1.1.1.1.1.1.0.now) × (x.1.1.1.1.1.1.1.1.0.now ≡ y.1.1.1.1.1.1.1.1.0.now))))))
  one_receive κs own link passed id bytes table out fields offset r s x y =
      via 𝓤 _ (conj_mono 𝓤 (five 𝓤 _ _ _ _ _) (five 𝓤 _ _ _ _ _)) (both 𝓤 _ _ _ (λ e f. (e.0 ∙ sym f.0, (e.1.0 ∙ sym f.1.0, (e.1.1.0 ∙ sym f.1.1.0, (e.1.1.1.0 ∙ sym f.1.1.1.0, e.1.1.1.1 ∙ sym f.1.1.1.1))))))

  -- `kabizarle_remove` gives one number, and leaves one table
  pub one_remove : (κs : Lfts 1) (table : MutBor (List ℕ)) (node key : ℕ) (r s : ℕ) (x y : AtExit removing.ended κs)
      → let allows : ℕ → AtExit removing.ended κs → SProp 𝓤 = λ v e. (removing.clauses 𝓛 at_mem run κs (table, (node, (key, tt)))).ensures tt v e in
      ent 𝓤 (conj 𝓤 (allows r x) (allows s y)) (fact 𝓤 ((r ≡ s) × (x.0.now ≡ y.0.now)))
  one_remove κs table node key r s x y =
      via 𝓤 _ (conj_mono 𝓤 (two 𝓤 _ _) (two 𝓤 _ _)) (both 𝓤 _ _ _ (λ e f. (e.0 ∙ sym f.0, e.1 ∙ sym f.1)))
