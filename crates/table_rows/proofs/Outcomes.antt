-- Only one outcome fits each public contract: two that its clause allows are equal, what is lent included.
-- The laws are stated over the clauses themselves, as the source has them. Assumes nothing.
use mathlib.Core.Path.{◌≡◌, sym, ◌∙◌}
use Prim.Native.Nat.{ℕ}
use seplogic.Ra.Ura.{Ura}
use base.Logic.{SProp, ent}
use prog.Memory.{Memory}
use prog.Routine.{Routine}
use types.Logic.{Logic}
use contract.Monad.{Fun, conj, fact}
use contract.Lifetimes.{Lfts}
use denote.MutBor.{MutBor}
use denote.Ref.{Bor}
use denote.Triple.Clauses.{AtExit}
use mathlib.Core.List.{List}
use Rattle.window.specs.declared.Row.{Row}
use Rattle.wire.proofs.One.{both}
use Rattle.table_rows.specs.contracts.row_at as reading
use Rattle.table_rows.specs.contracts.put_row as putting
use Rattle.table_rows.specs.contracts.put_ids as changing
use Rattle.table_rows.specs.contracts.row_under as under

module _ {M : Type 1} {𝓤 : Ura M} (𝓛 : Logic 𝓤) (at_mem : Memory → SProp 𝓤) (run : Routine → Fun 𝓤) where
  -- `row_at` gives one row
  pub one_row_at : (κs : Lfts 1) (table : Bor (List ℕ)) (number : ℕ) (r s : Row) (x y : AtExit reading.ended κs)
      → let allows : Row → AtExit reading.ended κs → SProp 𝓤 = λ v e. (reading.clauses 𝓛 at_mem run κs (table, (number, tt))).ensures tt v e in
      ent 𝓤 (conj 𝓤 (allows r x) (allows s y)) (fact 𝓤 (r ≡ s))
  one_row_at κs table number r s x y = both 𝓤 _ _ _ (λ e f. e ∙ sym f)

  -- `put_row` leaves one table
  pub one_put_row : (κs : Lfts 1) (table : MutBor (List ℕ)) (number : ℕ) (row : Row) (r s : Unit {0}) (x y : AtExit putting.ended κs)
      → let allows : Unit {0} → AtExit putting.ended κs → SProp 𝓤 = λ v e. (putting.clauses 𝓛 at_mem run κs (table, (number, (row, tt)))).ensures tt v e in
      ent 𝓤 (conj 𝓤 (allows r x) (allows s y)) (fact 𝓤 (x.0.now ≡ y.0.now))
  one_put_row κs table number row r s x y = both 𝓤 _ _ _ (λ e f. e ∙ sym f)

  -- `put_ids` leaves one table
  pub one_put_ids : (κs : Lfts 1) (table : MutBor (List ℕ)) (number highest marks : ℕ) (r s : Unit {0}) (x y : AtExit changing.ended κs)
      → let allows : Unit {0} → AtExit changing.ended κs → SProp 𝓤 = λ v e. (changing.clauses 𝓛 at_mem run κs (table, (number, (highest, (marks, tt))))).ensures tt v e in
      ent 𝓤 (conj 𝓤 (allows r x) (allows s y)) (fact 𝓤 (x.0.now ≡ y.0.now))
  one_put_ids κs table number highest marks r s x y = both 𝓤 _ _ _ (λ e f. e ∙ sym f)

  -- `row_under` gives one row
  pub one_row_under : (κs : Lfts 1) (table : Bor (List ℕ)) (number node key : ℕ) (r s : Row) (x y : AtExit under.ended κs)
      → let allows : Row → AtExit under.ended κs → SProp 𝓤 = λ v e. (under.clauses 𝓛 at_mem run κs (table, (number, (node, (key, tt))))).ensures tt v e in
      ent 𝓤 (conj 𝓤 (allows r x) (allows s y)) (fact 𝓤 (r ≡ s))
  one_row_under κs table number node key r s x y = both 𝓤 _ _ _ (λ e f. e ∙ sym f)
