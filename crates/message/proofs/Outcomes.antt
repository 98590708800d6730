-- Only one outcome fits each public contract of a message as a value and of its refusals: two that its clause allows are equal.
-- The laws are stated over the clauses themselves, as the source has them. Assumes nothing.
use Prim.Native.Nat.{ℕ}
use mathlib.Core.Path.{◌≡◌, sym, ◌∙◌}
use mathlib.Core.Bool.{Bool}
use seplogic.Ra.Ura.{Ura}
use base.Logic.{SProp, ent}
use prog.Memory.{Memory}
use prog.Routine.{Routine}
use types.Logic.{Logic}
use contract.Monad.{Fun, conj, fact}
use Rattle.message.specs.declared.value.Message.{Message}
use Rattle.message.specs.declared.answers.Reason.{Reason}
use Rattle.message.specs.declared.answers.Refusal.{Refusal}
use Rattle.wire.proofs.One.{both}
use Rattle.message.specs.contracts.answers.Reason.number as number
use Rattle.message.specs.contracts.answers.Refusal.at as at
use Rattle.message.specs.contracts.value.only_of as only
use Rattle.message.specs.contracts.value.body_at as body_at
use Rattle.message.specs.contracts.value.Message.body_at as body_of_value
use Rattle.message.specs.contracts.value.Message.check_length as check_length
use Rattle.message.specs.contracts.value.Message.head_length as head_length

module _ {M : Type 1} {𝓤 : Ura M} (𝓛 : Logic 𝓤) (at_mem : Memory → SProp 𝓤) (run : Routine → Fun 𝓤) where
  pub one_only_of : (present : Bool) (n : ℕ) (r s : ℕ)
      → let allows : ℕ → SProp 𝓤 = λ v. (only.clauses 𝓛 at_mem run tt (present, (n, tt))).ensures tt v (present, (n, tt)) in
      ent 𝓤 (conj 𝓤 (allows r) (allows s)) (fact 𝓤 (r ≡ s))
  one_only_of present n r s = both 𝓤 _ _ _ (λ e f. e.0 ∙ sym f.0)

  pub one_body_at : (sourced : Bool) (destined : Bool) (sealed : Bool) (r s : ℕ)
      → let allows : ℕ → SProp 𝓤 = λ v. (body_at.clauses 𝓛 at_mem run tt (sourced, (destined, (sealed, tt)))).ensures tt v (sourced, (destined, (sealed, tt))) in
      ent 𝓤 (conj 𝓤 (allows r) (allows s)) (fact 𝓤 (r ≡ s))
  one_body_at sourced destined sealed r s = both 𝓤 _ _ _ (λ e f. e.0 ∙ sym f.0)

  pub one_body_of : (m : Message) (r s : ℕ)
      → let allows : ℕ → SProp 𝓤 = λ v. (body_of_value.clauses 𝓛 at_mem run tt (m, tt)).ensures tt v (m, tt) in
      ent 𝓤 (conj 𝓤 (allows r) (allows s)) (fact 𝓤 (r ≡ s))
  one_body_of m r s = both 𝓤 _ _ _ (λ e f. e.0 ∙ sym f.0)

  pub one_check_length : (m : Message) (r s : ℕ)
      → let allows : ℕ → SProp 𝓤 = λ v. (check_length.clauses 𝓛 at_mem run tt (m, tt)).ensures tt v (m, tt) in
      ent 𝓤 (conj 𝓤 (allows r) (allows s)) (fact 𝓤 (r ≡ s))
  one_check_length m r s = both 𝓤 _ _ _ (λ e f. e.0 ∙ sym f.0)

  pub one_head_length : (m : Message) (r s : ℕ)
      → let allows : ℕ → SProp 𝓤 = λ v. (head_length.clauses 𝓛 at_mem run tt (m, tt)).ensures tt v (m, tt) in
      ent 𝓤 (conj 𝓤 (allows r) (allows s)) (fact 𝓤 (r ≡ s))
  one_head_length m r s = both 𝓤 _ _ _ (λ e f. e.0 ∙ sym f.0)

  pub one_number : (reason : Reason) (r s : ℕ)
      → let allows : ℕ → SProp 𝓤 = λ v. (number.clauses 𝓛 at_mem run tt (reason, tt)).ensures tt v (reason, tt) in
      ent 𝓤 (conj 𝓤 (allows r) (allows s)) (fact 𝓤 (r ≡ s))
  one_number reason r s = both 𝓤 _ _ _ (λ e f. e ∙ sym f)

  pub one_at : (reason : Reason) (offset : ℕ) (r s : Refusal)
      → let allows : Refusal → SProp 𝓤 = λ v. (at.clauses 𝓛 at_mem run tt (reason, (offset, tt))).ensures tt v (reason, (offset, tt)) in
      ent 𝓤 (conj 𝓤 (allows r) (allows s)) (fact 𝓤 (r ≡ s))
  one_at reason offset r s = both 𝓤 _ _ _ (λ e f. e ∙ sym f)
