-- Only one outcome fits each public condition: two that its clause allows are equal.
-- The laws are stated over the clauses themselves, as the source has them. Assumes nothing.
use Prim.Native.Nat.{ℕ}
use mathlib.Core.Path.{◌≡◌, sym, ◌∙◌}
use mathlib.Core.Bool.{Bool}
use mathlib.Core.List.{List}
use seplogic.Ra.Ura.{Ura}
use base.Logic.{SProp, ent}
use prog.Memory.{Memory}
use prog.Routine.{Routine}
use types.Logic.{Logic}
use contract.Monad.{Fun, conj, fact}
use contract.Lifetimes.{Lfts}
use denote.Ref.{Bor}
use denote.Triple.Clauses.{AtExit}
use Rattle.std.specs.Prelude.{Result}
use Rattle.message.specs.declared.value.Message.{Message}
use Rattle.message.specs.declared.answers.Reason.{Reason}
use Rattle.wire.proofs.One.{both}
use Rattle.conditions.specs.contracts.bad_version as version
use Rattle.conditions.specs.contracts.old_tunnel as tunnel
use Rattle.conditions.specs.contracts.bad_encrypt as encrypt
use Rattle.conditions.specs.contracts.bad_key_type as key_type
use Rattle.conditions.specs.contracts.test_address as address
use Rattle.conditions.specs.contracts.is_nobody as nobody
use Rattle.conditions.specs.contracts.old_asks as asks
use Rattle.conditions.specs.contracts.bad_packet as packet
use Rattle.conditions.specs.contracts.bad_packet_length as packet_length

module _ {M : Type 1} {𝓤 : Ura M} (𝓛 : Logic 𝓤) (at_mem : Memory → SProp 𝓤) (run : Routine → Fun 𝓤) where
  pub one_bad_version : (number : ℕ) (r s : Bool)
      → let allows : Bool → SProp 𝓤 = λ v. (version.clauses 𝓛 at_mem run tt (number, tt)).ensures tt v (number, tt) in
      ent 𝓤 (conj 𝓤 (allows r) (allows s)) (fact 𝓤 (r ≡ s))
  one_bad_version number r s = both 𝓤 _ _ _ (λ e f. e ∙ sym f)

  pub one_old_tunnel : (number : ℕ) (t : Bool) (r s : Bool)
      → let allows : Bool → SProp 𝓤 = λ v. (tunnel.clauses 𝓛 at_mem run tt (number, (t, tt))).ensures tt v (number, (t, tt)) in
      ent 𝓤 (conj 𝓤 (allows r) (allows s)) (fact 𝓤 (r ≡ s))
  one_old_tunnel number t r s = both 𝓤 _ _ _ (λ e f. e ∙ sym f)

  pub one_bad_encrypt : (k : ℕ) (r s : Bool)
      → let allows : Bool → SProp 𝓤 = λ v. (encrypt.clauses 𝓛 at_mem run tt (k, tt)).ensures tt v (k, tt) in
      ent 𝓤 (conj 𝓤 (allows r) (allows s)) (fact 𝓤 (r ≡ s))
  one_bad_encrypt k r s = both 𝓤 _ _ _ (λ e f. e ∙ sym f)

  pub one_bad_key_type : (k : ℕ) (r s : Bool)
      → let allows : Bool → SProp 𝓤 = λ v. (key_type.clauses 𝓛 at_mem run tt (k, tt)).ensures tt v (k, tt) in
      ent 𝓤 (conj 𝓤 (allows r) (allows s)) (fact 𝓤 (r ≡ s))
  one_bad_key_type k r s = both 𝓤 _ _ _ (λ e f. e ∙ sym f)

  pub one_test_address : (m : Message) (r s : Result (Unit {0}) Reason)
      → let allows : Result (Unit {0}) Reason → SProp 𝓤 = λ v. (address.clauses 𝓛 at_mem run tt (m, tt)).ensures tt v (m, tt) in
      ent 𝓤 (conj 𝓤 (allows r) (allows s)) (fact 𝓤 (r ≡ s))
  one_test_address m r s = both 𝓤 _ _ _ (λ e f. e ∙ sym f)

  pub one_is_nobody : (n : ℕ) (r s : Bool)
      → let allows : Bool → SProp 𝓤 = λ v. (nobody.clauses 𝓛 at_mem run tt (n, tt)).ensures tt v (n, tt) in
      ent 𝓤 (conj 𝓤 (allows r) (allows s)) (fact 𝓤 (r ≡ s))
  one_is_nobody n r s = both 𝓤 _ _ _ (λ e f. e ∙ sym f)

  pub one_old_asks : (number : ℕ) (a : Bool) (w : Bool) (r s : Bool)
      → let allows : Bool → SProp 𝓤 = λ v. (asks.clauses 𝓛 at_mem run tt (number, (a, (w, tt)))).ensures tt v (number, (a, (w, tt))) in
      ent 𝓤 (conj 𝓤 (allows r) (allows s)) (fact 𝓤 (r ≡ s))
  one_old_asks number a w r s = both 𝓤 _ _ _ (λ e f. e ∙ sym f)

  pub one_bad_packet : (b : ℕ) (r s : Bool)
      → let allows : Bool → SProp 𝓤 = λ v. (packet.clauses 𝓛 at_mem run tt (b, tt)).ensures tt v (b, tt) in
      ent 𝓤 (conj 𝓤 (allows r) (allows s)) (fact 𝓤 (r ≡ s))
  one_bad_packet b r s = both 𝓤 _ _ _ (λ e f. e ∙ sym f)

  pub one_bad_packet_length : (κs : Lfts 1) (packet : Bor (List ℕ)) (r s : Bool) (x y : AtExit packet_length.ended κs)
      → let allows : Bool → AtExit packet_length.ended κs → SProp 𝓤 = λ v e. (packet_length.clauses 𝓛 at_mem run κs (packet, tt)).ensures tt v e in
      ent 𝓤 (conj 𝓤 (allows r x) (allows s y)) (fact 𝓤 (r ≡ s))
  one_bad_packet_length κs packet r s x y = both 𝓤 _ _ _ (λ e f. e ∙ sym f)
