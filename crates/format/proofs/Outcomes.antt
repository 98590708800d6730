-- Only one outcome fits each public contract of the format: two that its clause allows are equal, what a lent buffer holds at exit included.
-- The laws are stated over the clauses themselves, as the source has them. Assumes nothing.
use Rattle.std.specs.Prelude.{Result}
use Rattle.std.specs.declared.clone.Clone.{Ghosts}
use Prim.Native.Nat.{ℕ}
use mathlib.Core.Path.{◌≡◌, sym, ap, ◌∙◌}
use mathlib.Core.List.{List}
use seplogic.Ra.Ura.{Ura}
use base.Logic.{SProp, ent, via}
use mir.Syntax.{Dict}
use prog.Memory.{Memory}
use prog.Routine.{Routine}
use types.Logic.{Logic}
use contract.Monad.{Fun, conj, conj_mono, fact}
use contract.Lifetimes.{Lfts}
use denote.MutBor.{MutBor}
use denote.RattleType.{RattleType}
use denote.Ref.{Bor}
use denote.Triple.Clauses.{AtExit}
use Rattle.message.specs.Answers.{buffer_after}
use Rattle.message.specs.Value.{bytes_of}
use Rattle.stream.specs.Stream.{frame_bytes}
use Rattle.message.specs.declared.value.Message.{Message}
use Rattle.message.specs.declared.answers.Taken.{Taken}
use Rattle.message.specs.declared.answers.Refusal.{Refusal}
use Rattle.message.specs.declared.answers.Unframed.{Unframed}
use Rattle.message.specs.contracts.answers.RefusalNumbered.number as of_refusal
use Rattle.message.specs.contracts.answers.U8Numbered.number as of_number
use Rattle.wire.proofs.One.{both, two}
use Rattle.reader.specs.contracts.read as read
use Rattle.outer.specs.contracts.read_outer as outer
use Rattle.parts.specs.declared.Parts.{Parts}
use Rattle.parts.specs.contracts.split as split
use Rattle.parts.specs.contracts.payload as payload
use Rattle.parts.specs.contracts.check as check
use Rattle.judge.specs.contracts.would_write as would
use Rattle.writer.specs.contracts.write as write
use Rattle.reply.specs.declared.acknowledging.Reply.{Reply}
use Rattle.reply.specs.contracts.acknowledging.Reply.would_acknowledge as would_acknowledge
use Rattle.writer.specs.contracts.acknowledge as acknowledge
use Rattle.reply.specs.Acknowledgement.{acknowledgement_of, acknowledgement_bytes}
use Rattle.stream.specs.contracts.unframe as unframe
use Rattle.stream.specs.contracts.framed_message as message
use Rattle.stream.specs.contracts.framed_rest as rest
use Rattle.stream.specs.contracts.frame as frame

module _ {M : Type 1} {𝓤 : Ura M} (𝓛 : Logic 𝓤) (at_mem : Memory → SProp 𝓤) (run : Routine → Fun 𝓤) where
  pub one_read : (κs : Lfts 1) (bytes : Bor (List ℕ)) (r s : Result Taken Refusal) (x y : AtExit read.ended κs)
      → let allows : Result Taken Refusal → AtExit read.ended κs → SProp 𝓤 = λ v e. (read.clauses 𝓛 at_mem run κs (bytes, tt)).ensures tt v e in
      ent 𝓤 (conj 𝓤 (allows r x) (allows s y)) (fact 𝓤 (r ≡ s))
  one_read κs bytes r s x y = both 𝓤 _ _ _ (λ e f. e ∙ sym f)

  pub one_read_outer : (κs : Lfts 1) (bytes : Bor (List ℕ)) (r s : Result (ℕ × ℕ) Refusal) (x y : AtExit outer.ended κs)
      → let allows : Result (ℕ × ℕ) Refusal → AtExit outer.ended κs → SProp 𝓤 = λ v e. (outer.clauses 𝓛 at_mem run κs (bytes, tt)).ensures tt v e in
      ent 𝓤 (conj 𝓤 (allows r x) (allows s y)) (fact 𝓤 (r ≡ s))
  one_read_outer κs bytes r s x y = both 𝓤 _ _ _ (λ e f. e ∙ sym f)

  -- the parts, whatever tells why it was refused
  module _ (E : RattleType) (clone : Ghosts E.Denot) (dict : Dict) where
    pub one_split : (κs : Lfts 2) (bytes : Bor (List ℕ)) (reading : Result Taken E.Denot) (r s : Parts) (x y : AtExit (split.ended E clone dict) κs)
        → let allows : Parts → AtExit (split.ended E clone dict) κs → SProp 𝓤 = λ v e. (split.clauses E clone dict 𝓛 at_mem run κs (bytes, (reading, tt))).ensures tt v e in
        ent 𝓤 (conj 𝓤 (allows r x) (allows s y)) (fact 𝓤 ((r.payload.now ≡ s.payload.now) × (r.check.now ≡ s.check.now)))
    one_split κs bytes reading r s x y =
        via 𝓤 _ (conj_mono 𝓤 (two 𝓤 _ _) (two 𝓤 _ _)) (both 𝓤 _ _ _ (λ e f. (e.0 ∙ sym f.0, e.1 ∙ sym f.1)))

    pub one_payload : (κs : Lfts 2) (bytes : Bor (List ℕ)) (reading : Result Taken E.Denot) (r s : Bor (List ℕ)) (x y : AtExit (payload.ended E clone dict) κs)
        → let allows : Bor (List ℕ) → AtExit (payload.ended E clone dict) κs → SProp 𝓤 = λ v e. (payload.clauses E clone dict 𝓛 at_mem run κs (bytes, (reading, tt))).ensures tt v e in
        ent 𝓤 (conj 𝓤 (allows r x) (allows s y)) (fact 𝓤 (r.now ≡ s.now))
    one_payload κs bytes reading r s x y = both 𝓤 _ _ _ (λ e f. e ∙ sym f)

    pub one_check : (κs : Lfts 2) (bytes : Bor (List ℕ)) (reading : Result Taken E.Denot) (r s : Bor (List ℕ)) (x y : AtExit (check.ended E clone dict) κs)
        → let allows : Bor (List ℕ) → AtExit (check.ended E clone dict) κs → SProp 𝓤 = λ v e. (check.clauses E clone dict 𝓛 at_mem run κs (bytes, (reading, tt))).ensures tt v e in
        ent 𝓤 (conj 𝓤 (allows r x) (allows s y)) (fact 𝓤 (r.now ≡ s.now))
    one_check κs bytes reading r s x y = both 𝓤 _ _ _ (λ e f. e ∙ sym f)

  pub one_would_write : (κs : Lfts 1) (m : Message) (parts : Parts) (room : ℕ) (r s : Result ℕ Refusal) (x y : AtExit would.ended κs)
      → let allows : Result ℕ Refusal → AtExit would.ended κs → SProp 𝓤 = λ v e. (would.clauses 𝓛 at_mem run κs (m, (parts, (room, tt)))).ensures tt v e in
      ent 𝓤 (conj 𝓤 (allows r x) (allows s y)) (fact 𝓤 (r ≡ s))
  one_would_write κs m parts room r s x y = both 𝓤 _ _ _ (λ e f. e ∙ sym f)

  pub one_write : (κs : Lfts 2) (m : Message) (parts : Parts) (out : MutBor (List ℕ)) (r s : Result ℕ Refusal) (x y : AtExit write.ended κs)
      → let allows : Result ℕ Refusal → AtExit write.ended κs → SProp 𝓤 = λ v e. (write.clauses 𝓛 at_mem run κs (m, (parts, (out, tt)))).ensures tt v e in
      ent 𝓤 (conj 𝓤 (allows r x) (allows s y)) (fact 𝓤 ((r ≡ s) × (x.1.1.0.now ≡ y.1.1.0.now)))
  one_write κs m parts out r s x y =
      both 𝓤 _ _ _ (λ e f. (e.0 ∙ sym f.0, e.1 ∙ ap (λ (v : Result ℕ Refusal). buffer_after v (bytes_of m parts.payload.now parts.check.now) out.now) (e.0 ∙ sym f.0) ∙ sym f.1))

  pub one_would_acknowledge : (reply : Reply) (m : Message) (room : ℕ) (r s : Result ℕ Refusal)
      → let allows : Result ℕ Refusal → SProp 𝓤 = λ v. (would_acknowledge.clauses 𝓛 at_mem run tt (reply, (m, (room, tt)))).ensures tt v (reply, (m, (room, tt))) in
      ent 𝓤 (conj 𝓤 (allows r) (allows s)) (fact 𝓤 (r ≡ s))
  one_would_acknowledge reply m room r s = both 𝓤 _ _ _ (λ e f. e ∙ sym f)

  pub one_acknowledge : (κs : Lfts 1) (reply : Reply) (m : Message) (out : MutBor (List ℕ)) (r s : Result ℕ Refusal) (x y : AtExit acknowledge.ended κs)
      → let allows : Result ℕ Refusal → AtExit acknowledge.ended κs → SProp 𝓤 = λ v e. (acknowledge.clauses 𝓛 at_mem run κs (reply, (m, (out, tt)))).ensures tt v e in
      ent 𝓤 (conj 𝓤 (allows r x) (allows s y)) (fact 𝓤 ((r ≡ s) × (x.1.1.0.now ≡ y.1.1.0.now)))
  one_acknowledge κs reply m out r s x y =
      both 𝓤 _ _ _ (λ e f. (e.0 ∙ sym f.0, e.1 ∙ ap (λ (v : Result ℕ Refusal). buffer_after v (acknowledgement_bytes (acknowledgement_of reply.own reply.sender reply.id m)) out.now) (e.0 ∙ sym f.0) ∙ sym f.1))

  pub one_unframe : (κs : Lfts 1) (stream : Bor (List ℕ)) (r s : Unframed) (x y : AtExit unframe.ended κs)
      → let allows : Unframed → AtExit unframe.ended κs → SProp 𝓤 = λ v e. (unframe.clauses 𝓛 at_mem run κs (stream, tt)).ensures tt v e in
      ent 𝓤 (conj 𝓤 (allows r x) (allows s y)) (fact 𝓤 (r ≡ s))
  one_unframe κs stream r s x y = both 𝓤 _ _ _ (λ e f. e ∙ sym f)

  pub one_framed_message : (κs : Lfts 1) (stream : Bor (List ℕ)) (r s : Bor (List ℕ)) (x y : AtExit message.ended κs)
      → let allows : Bor (List ℕ) → AtExit message.ended κs → SProp 𝓤 = λ v e. (message.clauses 𝓛 at_mem run κs (stream, tt)).ensures tt v e in
      ent 𝓤 (conj 𝓤 (allows r x) (allows s y)) (fact 𝓤 (r.now ≡ s.now))
  one_framed_message κs stream r s x y = both 𝓤 _ _ _ (λ e f. e ∙ sym f)

  pub one_framed_rest : (κs : Lfts 1) (stream : Bor (List ℕ)) (r s : Bor (List ℕ)) (x y : AtExit rest.ended κs)
      → let allows : Bor (List ℕ) → AtExit rest.ended κs → SProp 𝓤 = λ v e. (rest.clauses 𝓛 at_mem run κs (stream, tt)).ensures tt v e in
      ent 𝓤 (conj 𝓤 (allows r x) (allows s y)) (fact 𝓤 (r.now ≡ s.now))
  one_framed_rest κs stream r s x y = both 𝓤 _ _ _ (λ e f. e ∙ sym f)

  pub one_frame : (κs : Lfts 2) (m : Bor (List ℕ)) (out : MutBor (List ℕ)) (r s : Result ℕ Refusal) (x y : AtExit frame.ended κs)
      → let allows : Result ℕ Refusal → AtExit frame.ended κs → SProp 𝓤 = λ v e. (frame.clauses 𝓛 at_mem run κs (m, (out, tt))).ensures tt v e in
      ent 𝓤 (conj 𝓤 (allows r x) (allows s y)) (fact 𝓤 ((r ≡ s) × (x.1.0.now ≡ y.1.0.now)))
  one_frame κs m out r s x y = both 𝓤 _ _ _ (λ e f. (e.0 ∙ sym f.0, e.1 ∙ ap (λ (v : Result ℕ Refusal). buffer_after v (frame_bytes m.now) out.now) (e.0 ∙ sym f.0) ∙ sym f.1))

  -- the number of what was refused
  pub one_number_of_refusal : (refusal : Refusal) (r s : ℕ)
      → let allows : ℕ → SProp 𝓤 = λ v. (of_refusal.clauses 𝓛 at_mem run tt (refusal, tt)).ensures tt v (refusal, tt) in
      ent 𝓤 (conj 𝓤 (allows r) (allows s)) (fact 𝓤 (r ≡ s))
  one_number_of_refusal refusal r s = both 𝓤 _ _ _ (λ e f. e ∙ sym f)

  pub one_number_of_number : (n : ℕ) (r s : ℕ)
      → let allows : ℕ → SProp 𝓤 = λ v. (of_number.clauses 𝓛 at_mem run tt (n, tt)).ensures tt v (n, tt) in
      ent 𝓤 (conj 𝓤 (allows r) (allows s)) (fact 𝓤 (r ≡ s))
  one_number_of_number n r s = both 𝓤 _ _ _ (λ e f. e ∙ sym f)
