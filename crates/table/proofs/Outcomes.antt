-- Only one outcome fits each public contract: two that its clause allows are equal, what is lent included.
-- The laws are stated over the clauses themselves, as the source has them. Assumes nothing.
use mathlib.Core.Path.{◌≡◌, sym, ◌∙◌}
use Prim.Native.Nat.{ℕ}
use seplogic.Ra.Ura.{Ura}
use base.Logic.{SProp, ent}
use prog.Memory.{Memory}
use prog.Routine.{Routine}
use types.Logic.{Logic}
use contract.Monad.{Fun, conj, fact}
use contract.Lifetimes.{Lfts}
use denote.MutBor.{MutBor}
use denote.Ref.{Bor}
use denote.RattleType.{RattleType}
use denote.Triple.Clauses.{AtExit}
use mathlib.Core.List.{List}
use mathlib.Core.Bool.{Bool}
use Rattle.window.specs.declared.Row.{Row}
use Rattle.wire.proofs.One.{both}
use Rattle.table.specs.contracts.rows.put_at as putting
use Rattle.table.specs.contracts.rows.put_words as storing
use Rattle.table.specs.contracts.rows.row_from as words
use Rattle.table.specs.contracts.rows.as_rows as rows
use Rattle.table.specs.contracts.rows.state_of as state
use Rattle.std.specs.contracts.prelude.U64FromBool.from as bit

module _ {M : Type 1} {𝓤 : Ura M} (𝓛 : Logic 𝓤) (at_mem : Memory → SProp 𝓤) (run : Routine → Fun 𝓤) where
  -- `put_at` leaves one list of words, of however many
  pub one_put_at : (n : RattleType) (κs : Lfts 2) (words : MutBor (List ℕ)) (number : ℕ) (row : Row) (r s : Unit {0}) (x y : AtExit (putting.ended n) κs)
      → let allows : Unit {0} → AtExit (putting.ended n) κs → SProp 𝓤 = λ v e. (putting.clauses n 𝓛 at_mem run κs (words, (number, (row, tt)))).ensures tt v e in
      ent 𝓤 (conj 𝓤 (allows r x) (allows s y)) (fact 𝓤 (x.0.now ≡ y.0.now))
  one_put_at n κs words number row r s x y = both 𝓤 _ _ _ (λ e f. e ∙ sym f)

  -- `put_words` leaves three words
  pub one_put_words : (κs : Lfts 1) (three : MutBor (List ℕ)) (row : Row) (r s : Unit {0}) (x y : AtExit storing.ended κs)
      → let allows : Unit {0} → AtExit storing.ended κs → SProp 𝓤 = λ v e. (storing.clauses 𝓛 at_mem run κs (three, (row, tt))).ensures tt v e in
      ent 𝓤 (conj 𝓤 (allows r x) (allows s y)) (fact 𝓤 (x.0.now ≡ y.0.now))
  one_put_words κs three row r s x y = both 𝓤 _ _ _ (λ e f. e ∙ sym f)

  -- `row_from` gives one row
  pub one_row_from : (κs : Lfts 1) (three : Bor (List ℕ)) (r s : Row) (x y : AtExit words.ended κs)
      → let allows : Row → AtExit words.ended κs → SProp 𝓤 = λ v e. (words.clauses 𝓛 at_mem run κs (three, tt)).ensures tt v e in
      ent 𝓤 (conj 𝓤 (allows r x) (allows s y)) (fact 𝓤 (r ≡ s))
  one_row_from κs three r s x y = both 𝓤 _ _ _ (λ e f. e ∙ sym f)

  -- `state_of` gives one word
  pub one_state_of : (κs : Lfts 0) (row : Row) (r s : ℕ) (x y : AtExit state.ended κs)
      → let allows : ℕ → AtExit state.ended κs → SProp 𝓤 = λ v e. (state.clauses 𝓛 at_mem run κs (row, tt)).ensures tt v e in
      ent 𝓤 (conj 𝓤 (allows r x) (allows s y)) (fact 𝓤 (r ≡ s))
  one_state_of κs row r s x y = both 𝓤 _ _ _ (λ e f. e ∙ sym f)

  -- the library's `from`, which gives the bit of a row in use, gives one
  pub one_use_bit : (κs : Lfts 0) (used : Bool) (r s : ℕ) (x y : AtExit bit.ended κs)
      → let allows : ℕ → AtExit bit.ended κs → SProp 𝓤 = λ v e. (bit.clauses 𝓛 at_mem run κs (used, tt)).ensures tt v e in
      ent 𝓤 (conj 𝓤 (allows r x) (allows s y)) (fact 𝓤 (r ≡ s))
  one_use_bit κs used r s x y = both 𝓤 _ _ _ (λ e f. e ∙ sym f)

  -- `as_rows` gives one list of rows
  pub one_as_rows : (κs : Lfts 1) (table : Bor (List ℕ)) (r s : Bor (List (List ℕ))) (x y : AtExit rows.ended κs)
      → let allows : Bor (List (List ℕ)) → AtExit rows.ended κs → SProp 𝓤 = λ v e. (rows.clauses 𝓛 at_mem run κs (table, tt)).ensures tt v e in
      ent 𝓤 (conj 𝓤 (allows r x) (allows s y)) (fact 𝓤 (r.now ≡ s.now))
  one_as_rows κs table r s x y = both 𝓤 _ _ _ (λ e f. e.0 ∙ sym f.0)
