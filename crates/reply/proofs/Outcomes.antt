-- Only one outcome fits each public contract of a reply: two that its clause allows are equal. That of `would_acknowledge` is among those of the format.
-- The laws are stated over the clauses themselves, as the source has them. Assumes nothing.
use Rattle.std.specs.Prelude.{Result}
use Rattle.std.specs.declared.clone.Clone
use Prim.Native.Nat.{ℕ}
use mathlib.Core.Path.{◌≡◌, sym, ◌∙◌}
use seplogic.Ra.Ura.{Ura}
use base.Logic.{SProp, ent}
use mir.Syntax.{Dict}
use prog.Memory.{Memory}
use prog.Routine.{Routine}
use types.Logic.{Logic}
use contract.Monad.{Fun, conj, fact}
use contract.Lifetimes.{Lfts}
use denote.RattleType.{RattleType}
use denote.Triple.Clauses.{AtExit}
use Rattle.message.specs.declared.value.Message.{Message}
use Rattle.message.specs.declared.answers.Refusal.{Refusal}
use Rattle.message.specs.declared.answers.Numbered
use Rattle.wire.proofs.One.{both}
use Rattle.reply.specs.declared.acknowledging.Reply.{Reply}
use Rattle.reply.specs.contracts.acknowledging.Reply.acknowledgement as acknowledgement
use Rattle.reply.specs.contracts.acknowledging.judged as judged
use Rattle.reply.specs.contracts.planning.with_reason as reason
use Rattle.reply.specs.contracts.acknowledging.Reply.plan as plan

module _ {M : Type 1} {𝓤 : Ura M} (𝓛 : Logic 𝓤) (at_mem : Memory → SProp 𝓤) (run : Routine → Fun 𝓤) where
  pub one_acknowledgement : (reply : Reply) (m : Message) (r s : Message)
      → let allows : Message → SProp 𝓤 = λ v. (acknowledgement.clauses 𝓛 at_mem run tt (reply, (m, tt))).ensures tt v (reply, (m, tt)) in
      ent 𝓤 (conj 𝓤 (allows r) (allows s)) (fact 𝓤 (r ≡ s))
  one_acknowledgement reply m r s = both 𝓤 _ _ _ (λ e f. e ∙ sym f)

  pub one_judged : (value : Message) (room : ℕ) (r s : Result ℕ Refusal)
      → let allows : Result ℕ Refusal → SProp 𝓤 = λ v. (judged.clauses 𝓛 at_mem run tt (value, (room, tt))).ensures tt v (value, (room, tt)) in
      ent 𝓤 (conj 𝓤 (allows r) (allows s)) (fact 𝓤 (r ≡ s))
  one_judged value room r s = both 𝓤 _ _ _ (λ e f. e ∙ sym f)

  -- whatever refuses, by its number
  module _ (E : RattleType) (numbered : Numbered.Ghosts E.Denot) (by : Dict) (clone : Clone.Ghosts E.Denot) (copy : Dict) where
    pub one_with_reason : (κs : Lfts 1) (answer : Result ℕ E.Denot) (r s : Result ℕ Refusal) (x y : AtExit (reason.ended E numbered by clone copy) κs)
        → let allows : Result ℕ Refusal → AtExit (reason.ended E numbered by clone copy) κs → SProp 𝓤 = λ v e. (reason.clauses E numbered by clone copy 𝓛 at_mem run κs (answer, tt)).ensures tt v e in
        ent 𝓤 (conj 𝓤 (allows r x) (allows s y)) (fact 𝓤 (r ≡ s))
    one_with_reason κs answer r s x y = both 𝓤 _ _ _ (λ e f. e ∙ sym f)

  pub one_plan : (reply : Reply) (m : Message) (room : ℕ) (r s : Result ℕ Refusal)
      → let allows : Result ℕ Refusal → SProp 𝓤 = λ v. (plan.clauses 𝓛 at_mem run tt (reply, (m, (room, tt)))).ensures tt v (reply, (m, (room, tt))) in
      ent 𝓤 (conj 𝓤 (allows r) (allows s)) (fact 𝓤 (r ≡ s))
  one_plan reply m room r s = both 𝓤 _ _ _ (λ e f. e ∙ sym f)
