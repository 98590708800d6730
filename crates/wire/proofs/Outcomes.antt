-- Only one outcome fits each public contract of numbers as bytes: two that its clause allows are equal, what a lent buffer holds at exit included.
-- The laws are stated over the clauses themselves, as the source has them. Assumes nothing.
use Prim.Native.Nat.{ℕ}
use mathlib.Core.Path.{◌≡◌, sym, ◌∙◌}
use mathlib.Core.List.{List}
use seplogic.Ra.Ura.{Ura}
use base.Logic.{SProp, ent}
use prog.Memory.{Memory}
use prog.Routine.{Routine}
use types.Logic.{Logic}
use contract.Monad.{Fun, conj, fact}
use contract.Lifetimes.{Lfts}
use denote.Ref.{Bor}
use denote.MutBor.{MutBor}
use denote.Triple.Clauses.{AtExit}
use Rattle.wire.proofs.One.{both}
use Rattle.wire.specs.contracts.number.u8.U8Number.get as get8
use Rattle.wire.specs.contracts.number.u16.U16Number.get as get16
use Rattle.wire.specs.contracts.packet.get_big16 as get_big16
use Rattle.wire.specs.contracts.number.u32.U32Number.get as get32
use Rattle.wire.specs.contracts.number.u64.get64 as get64
use Rattle.wire.specs.contracts.number.u64.U64Number.get as get_node
use Rattle.wire.specs.contracts.number.u8.U8Number.put as put8
use Rattle.wire.specs.contracts.number.u16.U16Number.put as put16
use Rattle.wire.specs.contracts.number.u32.U32Number.put as put32
use Rattle.wire.specs.contracts.number.u64.put64 as put64
use Rattle.wire.specs.contracts.number.u64.U64Number.put as put_node

module _ {M : Type 1} {𝓤 : Ura M} (𝓛 : Logic 𝓤) (at_mem : Memory → SProp 𝓤) (run : Routine → Fun 𝓤) where
  pub one_get8 : (κs : Lfts 1) (bytes : Bor (List ℕ)) (r s : ℕ) (x y : AtExit get8.ended κs)
      → let allows : ℕ → AtExit get8.ended κs → SProp 𝓤 = λ v e. (get8.clauses 𝓛 at_mem run κs (bytes, tt)).ensures tt v e in
      ent 𝓤 (conj 𝓤 (allows r x) (allows s y)) (fact 𝓤 (r ≡ s))
  one_get8 κs bytes r s x y = both 𝓤 _ _ _ (λ e f. e ∙ sym f)

  pub one_get16 : (κs : Lfts 1) (bytes : Bor (List ℕ)) (r s : ℕ) (x y : AtExit get16.ended κs)
      → let allows : ℕ → AtExit get16.ended κs → SProp 𝓤 = λ v e. (get16.clauses 𝓛 at_mem run κs (bytes, tt)).ensures tt v e in
      ent 𝓤 (conj 𝓤 (allows r x) (allows s y)) (fact 𝓤 (r ≡ s))
  one_get16 κs bytes r s x y = both 𝓤 _ _ _ (λ e f. e ∙ sym f)

  pub one_get_big16 : (κs : Lfts 1) (bytes : Bor (List ℕ)) (r s : ℕ) (x y : AtExit get_big16.ended κs)
      → let allows : ℕ → AtExit get_big16.ended κs → SProp 𝓤 = λ v e. (get_big16.clauses 𝓛 at_mem run κs (bytes, tt)).ensures tt v e in
      ent 𝓤 (conj 𝓤 (allows r x) (allows s y)) (fact 𝓤 (r ≡ s))
  one_get_big16 κs bytes r s x y = both 𝓤 _ _ _ (λ e f. e ∙ sym f)

  pub one_get32 : (κs : Lfts 1) (bytes : Bor (List ℕ)) (r s : ℕ) (x y : AtExit get32.ended κs)
      → let allows : ℕ → AtExit get32.ended κs → SProp 𝓤 = λ v e. (get32.clauses 𝓛 at_mem run κs (bytes, tt)).ensures tt v e in
      ent 𝓤 (conj 𝓤 (allows r x) (allows s y)) (fact 𝓤 (r ≡ s))
  one_get32 κs bytes r s x y = both 𝓤 _ _ _ (λ e f. e ∙ sym f)

  pub one_get64 : (κs : Lfts 1) (bytes : Bor (List ℕ)) (r s : ℕ) (x y : AtExit get64.ended κs)
      → let allows : ℕ → AtExit get64.ended κs → SProp 𝓤 = λ v e. (get64.clauses 𝓛 at_mem run κs (bytes, tt)).ensures tt v e in
      ent 𝓤 (conj 𝓤 (allows r x) (allows s y)) (fact 𝓤 (r ≡ s))
  one_get64 κs bytes r s x y = both 𝓤 _ _ _ (λ e f. e ∙ sym f)

  pub one_get_node : (κs : Lfts 1) (bytes : Bor (List ℕ)) (r s : ℕ) (x y : AtExit get_node.ended κs)
      → let allows : ℕ → AtExit get_node.ended κs → SProp 𝓤 = λ v e. (get_node.clauses 𝓛 at_mem run κs (bytes, tt)).ensures tt v e in
      ent 𝓤 (conj 𝓤 (allows r x) (allows s y)) (fact 𝓤 (r ≡ s))
  one_get_node κs bytes r s x y = both 𝓤 _ _ _ (λ e f. e ∙ sym f)

  pub one_put8 : (κs : Lfts 1) (out : MutBor (List ℕ)) (k : ℕ) (r s : Unit {0}) (x y : AtExit put8.ended κs)
      → let allows : Unit {0} → AtExit put8.ended κs → SProp 𝓤 = λ v e. (put8.clauses 𝓛 at_mem run κs (k, (out, tt))).ensures tt v e in
      ent 𝓤 (conj 𝓤 (allows r x) (allows s y)) (fact 𝓤 (x.1.0.now ≡ y.1.0.now))
  one_put8 κs out k r s x y = both 𝓤 _ _ _ (λ e f. e ∙ sym f)

  pub one_put16 : (κs : Lfts 1) (out : MutBor (List ℕ)) (k : ℕ) (r s : Unit {0}) (x y : AtExit put16.ended κs)
      → let allows : Unit {0} → AtExit put16.ended κs → SProp 𝓤 = λ v e. (put16.clauses 𝓛 at_mem run κs (k, (out, tt))).ensures tt v e in
      ent 𝓤 (conj 𝓤 (allows r x) (allows s y)) (fact 𝓤 (x.1.0.now ≡ y.1.0.now))
  one_put16 κs out k r s x y = both 𝓤 _ _ _ (λ e f. e ∙ sym f)

  pub one_put32 : (κs : Lfts 1) (out : MutBor (List ℕ)) (k : ℕ) (r s : Unit {0}) (x y : AtExit put32.ended κs)
      → let allows : Unit {0} → AtExit put32.ended κs → SProp 𝓤 = λ v e. (put32.clauses 𝓛 at_mem run κs (k, (out, tt))).ensures tt v e in
      ent 𝓤 (conj 𝓤 (allows r x) (allows s y)) (fact 𝓤 (x.1.0.now ≡ y.1.0.now))
  one_put32 κs out k r s x y = both 𝓤 _ _ _ (λ e f. e ∙ sym f)

  pub one_put64 : (κs : Lfts 1) (out : MutBor (List ℕ)) (k : ℕ) (r s : Unit {0}) (x y : AtExit put64.ended κs)
      → let allows : Unit {0} → AtExit put64.ended κs → SProp 𝓤 = λ v e. (put64.clauses 𝓛 at_mem run κs (out, (k, tt))).ensures tt v e in
      ent 𝓤 (conj 𝓤 (allows r x) (allows s y)) (fact 𝓤 (x.0.now ≡ y.0.now))
  one_put64 κs out k r s x y = both 𝓤 _ _ _ (λ e f. e ∙ sym f)

  pub one_put_node : (κs : Lfts 1) (out : MutBor (List ℕ)) (k : ℕ) (r s : Unit {0}) (x y : AtExit put_node.ended κs)
      → let allows : Unit {0} → AtExit put_node.ended κs → SProp 𝓤 = λ v e. (put_node.clauses 𝓛 at_mem run κs (k, (out, tt))).ensures tt v e in
      ent 𝓤 (conj 𝓤 (allows r x) (allows s y)) (fact 𝓤 (x.1.0.now ≡ y.1.0.now))
  one_put_node κs out k r s x y = both 𝓤 _ _ _ (λ e f. e ∙ sym f)
