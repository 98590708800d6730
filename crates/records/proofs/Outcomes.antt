-- Only one outcome fits each public contract: two that its clause allows are equal.
-- The laws are stated over the clauses themselves, as the source has them. Assumes nothing.
use mathlib.Core.Path.{◌≡◌, sym, ◌∙◌}
use Prim.Native.Nat.{ℕ}
use seplogic.Ra.Ura.{Ura}
use base.Logic.{SProp, ent}
use prog.Memory.{Memory}
use prog.Routine.{Routine}
use types.Logic.{Logic}
use contract.Monad.{Fun, conj, fact}
use contract.Lifetimes.{Lfts}
use denote.Ref.{Bor}
use denote.Triple.Clauses.{AtExit}
use mathlib.Core.Bool.{Bool}
use mathlib.Core.List.{List}
use Rattle.window.specs.declared.Row.{Row}
use Rattle.wire.proofs.One.{both}
use Rattle.records.specs.contracts.row_in as reading
use Rattle.records.specs.contracts.wrong_mark as mark
use Rattle.records.specs.contracts.bad_row as row

module _ {M : Type 1} {𝓤 : Ura M} (𝓛 : Logic 𝓤) (at_mem : Memory → SProp 𝓤) (run : Routine → Fun 𝓤) where
  -- `row_in` gives one row
  pub one_row_in : (κs : Lfts 1) (bytes : Bor (List ℕ)) (r s : Row) (x y : AtExit reading.ended κs)
      → let allows : Row → AtExit reading.ended κs → SProp 𝓤 = λ v e. (reading.clauses 𝓛 at_mem run κs (bytes, tt)).ensures tt v e in
      ent 𝓤 (conj 𝓤 (allows r x) (allows s y)) (fact 𝓤 (r ≡ s))
  one_row_in κs bytes r s x y = both 𝓤 _ _ _ (λ e f. e ∙ sym f)

  -- `wrong_mark` gives one truth value
  pub one_wrong_mark : (κs : Lfts 1) (bytes : Bor (List ℕ)) (r s : Bool) (x y : AtExit mark.ended κs)
      → let allows : Bool → AtExit mark.ended κs → SProp 𝓤 = λ v e. (mark.clauses 𝓛 at_mem run κs (bytes, tt)).ensures tt v e in
      ent 𝓤 (conj 𝓤 (allows r x) (allows s y)) (fact 𝓤 (r ≡ s))
  one_wrong_mark κs bytes r s x y = both 𝓤 _ _ _ (λ e f. e ∙ sym f)

  -- `bad_row` gives one truth value
  pub one_bad_row : (this : Row) (r s : Bool)
      → let allows : Bool → SProp 𝓤 = λ v. (row.clauses 𝓛 at_mem run tt (this, tt)).ensures tt v (this, tt) in
      ent 𝓤 (conj 𝓤 (allows r) (allows s)) (fact 𝓤 (r ≡ s))
  one_bad_row this r s = both 𝓤 _ _ _ (λ e f. e ∙ sym f)
