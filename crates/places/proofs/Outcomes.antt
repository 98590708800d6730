-- Only one outcome fits each public contract: two that its clauses allow are equal, what is lent included.
-- The laws are stated over the clauses themselves, as the source has them. Assumes nothing.
use Rattle.std.specs.Prelude.{Result}
use Prim.Native.Nat.{ℕ}
use mathlib.Core.Path.{◌≡◌, sym, ◌∙◌}
use mathlib.Core.List.{List}
use seplogic.Ra.Ura.{Ura}
use base.Logic.{SProp, ent, via}
use prog.Memory.{Memory}
use prog.Routine.{Routine}
use types.Logic.{Logic}
use contract.Monad.{Fun, conj, conj_mono, fact}
use contract.Lifetimes.{Lfts}
use denote.MutBor.{MutBor}
use denote.Triple.Clauses.{AtExit}
use Rattle.message.specs.declared.answers.Refusal.{Refusal}
use Rattle.window.specs.declared.Verdict.{Verdict}
use Rattle.places.specs.declared.fields.Fields.{Fields}
use Rattle.wire.proofs.One.{both, two}
use Rattle.places.specs.contracts.answers.refused as refused
use Rattle.places.specs.contracts.answers.settle as settle
use Rattle.places.specs.contracts.answers.verdict_number as verdict_number
use Rattle.places.specs.contracts.fields.Fields.store as store

pub one_store : {M : Type 1} {𝓤 : Ura M} (𝓛 : Logic 𝓤) (at_mem : Memory → SProp 𝓤) (run : Routine → Fun 𝓤)
    (κs : Lfts 1) (said : Fields) (places : MutBor (List ℕ)) (r s : Unit {0}) (x y : AtExit store.ended κs)
    → let allows : Unit {0} → AtExit store.ended κs → SProp 𝓤 = λ v e. (store.clauses 𝓛 at_mem run κs (said, (places, tt))).ensures tt v e in
    ent 𝓤 (conj 𝓤 (allows r x) (allows s y)) (fact 𝓤 (x.1.0.now ≡ y.1.0.now))
one_store {𝓤 = 𝓤} 𝓛 at_mem run κs said places r s x y = both 𝓤 _ _ _ (λ e f. e ∙ sym f)

pub one_refused : {M : Type 1} {𝓤 : Ura M} (𝓛 : Logic 𝓤) (at_mem : Memory → SProp 𝓤) (run : Routine → Fun 𝓤)
    (κs : Lfts 1) (refusal : Refusal) (offset : MutBor ℕ) (r s : ℕ) (x y : AtExit refused.ended κs)
    → let allows : ℕ → AtExit refused.ended κs → SProp 𝓤 = λ v e. (refused.clauses 𝓛 at_mem run κs (refusal, (offset, tt))).ensures tt v e in
    ent 𝓤 (conj 𝓤 (allows r x) (allows s y)) (fact 𝓤 ((r ≡ s) × (x.1.0.now ≡ y.1.0.now)))
one_refused {𝓤 = 𝓤} 𝓛 at_mem run κs refusal offset r s x y =
    via 𝓤 _ (conj_mono 𝓤 (two 𝓤 _ _) (two 𝓤 _ _)) (both 𝓤 _ _ _ (λ e f. (e.0 ∙ sym f.0, e.1 ∙ sym f.1)))

pub one_settle : {M : Type 1} {𝓤 : Ura M} (𝓛 : Logic 𝓤) (at_mem : Memory → SProp 𝓤) (run : Routine → Fun 𝓤)
    (κs : Lfts 1) (answer : Result ℕ Refusal) (count : MutBor ℕ) (r s : ℕ) (x y : AtExit settle.ended κs)
    → let allows : ℕ → AtExit settle.ended κs → SProp 𝓤 = λ v e. (settle.clauses 𝓛 at_mem run κs (answer, (count, tt))).ensures tt v e in
    ent 𝓤 (conj 𝓤 (allows r x) (allows s y)) (fact 𝓤 ((r ≡ s) × (x.1.0.now ≡ y.1.0.now)))
one_settle {𝓤 = 𝓤} 𝓛 at_mem run κs answer count r s x y =
    via 𝓤 _ (conj_mono 𝓤 (two 𝓤 _ _) (two 𝓤 _ _)) (both 𝓤 _ _ _ (λ e f. (e.0 ∙ sym f.0, e.1 ∙ sym f.1)))

pub one_verdict_number : {M : Type 1} {𝓤 : Ura M} (𝓛 : Logic 𝓤) (at_mem : Memory → SProp 𝓤) (run : Routine → Fun 𝓤)
    (verdict : Verdict) (r s : ℕ)
    → let allows : ℕ → SProp 𝓤 = λ v. (verdict_number.clauses 𝓛 at_mem run tt (verdict, tt)).ensures tt v (verdict, tt) in
    ent 𝓤 (conj 𝓤 (allows r) (allows s)) (fact 𝓤 (r ≡ s))
one_verdict_number {𝓤 = 𝓤} 𝓛 at_mem run verdict r s = both 𝓤 _ _ _ (λ e f. e ∙ sym f)
