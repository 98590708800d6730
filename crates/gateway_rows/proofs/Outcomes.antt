-- Only one outcome fits each exported function: two that its clauses allow are equal, all that is lent included.
-- The laws are stated over the clauses themselves, as the source has them. Assumes nothing.
use Prim.Native.Nat.{ℕ}
use mathlib.Core.Path.{◌≡◌, sym, ◌∙◌}
use mathlib.Core.List.{List}
use seplogic.Ra.Ura.{Ura}
use base.Logic.{SProp, ent, via}
use prog.Memory.{Memory}
use prog.Routine.{Routine}
use types.Logic.{Logic}
use contract.Monad.{Fun, conj, conj_mono, fact}
use contract.Lifetimes.{Lfts}
use denote.MutBor.{MutBor}
use denote.Ref.{Bor}
use denote.Triple.Clauses.{AtExit}
use Rattle.wire.proofs.One.{both, two, three}
use Rattle.gateway_rows.specs.contracts.rows.kabizarle_roll as rolling
use Rattle.gateway_rows.specs.contracts.rows.kabizarle_row as row

module _ {M : Type 1} {𝓤 : Ura M} (𝓛 : Logic 𝓤) (at_mem : Memory → SProp 𝓤) (run : Routine → Fun 𝓤) where
  -- `kabizarle_roll` gives one number, and leaves one row and one verdict
  pub one_roll : (κs : Lfts 2) (row : MutBor (List ℕ)) (id : ℕ) (verdict : MutBor ℕ) (r s : ℕ) (x y : AtExit rolling.ended κs)
      → let allows : ℕ → AtExit rolling.ended κs → SProp 𝓤 = λ v e. (rolling.clauses 𝓛 at_mem run κs (row, (id, (verdict, tt)))).ensures tt v e in
      ent 𝓤 (conj 𝓤 (allows r x) (allows s y)) (fact 𝓤 ((r ≡ s) × ((x.0.now ≡ y.0.now) × (x.1.1.0.now ≡ y.1.1.0.now))))
  one_roll κs row id verdict r s x y =
      via 𝓤 _ (conj_mono 𝓤 (three 𝓤 _ _ _) (three 𝓤 _ _ _)) (both 𝓤 _ _ _ (λ e f. (e.0 ∙ sym f.0, (e.1.0 ∙ sym f.1.0, e.1.1 ∙ sym f.1.1))))

  -- `kabizarle_row` gives one number, and leaves the fields of one row
  pub one_row : (κs : Lfts 2) (table : Bor (List ℕ)) (number : ℕ) (places : MutBor (List ℕ)) (r s : ℕ) (x y : AtExit row.ended κs)
      → let allows : ℕ → AtExit row.ended κs → SProp 𝓤 = λ v e. (row.clauses 𝓛 at_mem run κs (table, (number, (places, tt)))).ensures tt v e in
      ent 𝓤 (conj 𝓤 (allows r x) (allows s y)) (fact 𝓤 ((r ≡ s) × (x.1.1.0.now ≡ y.1.1.0.now)))
  one_row κs table number places r s x y =
      via 𝓤 _ (conj_mono 𝓤 (two 𝓤 _ _) (two 𝓤 _ _)) (both 𝓤 _ _ _ (λ e f. (e.0 ∙ sym f.0, e.1 ∙ sym f.1)))
