-- Only one outcome fits each exported function: two that its clauses allow are equal, all that is lent included.
-- The laws are stated over the clauses themselves, as the source has them. Assumes nothing.
use Prim.Native.Nat.{ℕ}
use mathlib.Core.Path.{◌≡◌, sym, ◌∙◌}
use mathlib.Core.List.{List}
use seplogic.Ra.Ura.{Ura}
use base.Logic.{SProp, ent, via}
use prog.Memory.{Memory}
use prog.Routine.{Routine}
use types.Logic.{Logic}
use contract.Monad.{Fun, conj, conj_mono, fact}
use contract.Lifetimes.{Lfts}
use denote.MutBor.{MutBor}
use denote.Ref.{Bor}
use denote.Triple.Clauses.{AtExit}
use Rattle.wire.proofs.One.{both, two, three}
use Rattle.gateway_format_c.specs.contracts.kabizarle_read_outer as outer
use Rattle.gateway_format_c.specs.contracts.kabizarle_read as reading
use Rattle.gateway_format_c.specs.contracts.kabizarle_write as writing
use Rattle.gateway_format_c.specs.contracts.kabizarle_unframe as unframing
use Rattle.gateway_format_c.specs.contracts.kabizarle_frame as framing

module _ {M : Type 1} {𝓤 : Ura M} (𝓛 : Logic 𝓤) (at_mem : Memory → SProp 𝓤) (run : Routine → Fun 𝓤) where
  -- `kabizarle_read_outer` gives one number, and leaves one part and one offset
  pub one_read_outer : (κs : Lfts 3) (bytes : Bor (List ℕ)) (part : MutBor (List ℕ)) (offset : MutBor ℕ) (r s : ℕ) (x y : AtExit outer.ended κs)
      → let allows : ℕ → AtExit outer.ended κs → SProp 𝓤 = λ v e. (outer.clauses 𝓛 at_mem run κs (bytes, (part, (offset, tt)))).ensures tt v e in
      ent 𝓤 (conj 𝓤 (allows r x) (allows s y)) (fact 𝓤 ((r ≡ s) × ((x.1.0.now ≡ y.1.0.now) × (x.1.1.0.now ≡ y.1.1.0.now))))
  one_read_outer κs bytes part offset r s x y =
      via 𝓤 _ (conj_mono 𝓤 (three 𝓤 _ _ _) (three 𝓤 _ _ _)) (both 𝓤 _ _ _ (λ e f. (e.0 ∙ sym f.0, (e.1.0 ∙ sym f.1.0, e.1.1 ∙ sym f.1.1))))

  -- `kabizarle_read` gives one number, and leaves the fields in one state and one offset
  pub one_read : (κs : Lfts 3) (bytes : Bor (List ℕ)) (fields : MutBor (List ℕ)) (offset : MutBor ℕ) (r s : ℕ) (x y : AtExit reading.ended κs)
      → let allows : ℕ → AtExit reading.ended κs → SProp 𝓤 = λ v e. (reading.clauses 𝓛 at_mem run κs (bytes, (fields, (offset, tt)))).ensures tt v e in
      ent 𝓤 (conj 𝓤 (allows r x) (allows s y)) (fact 𝓤 ((r ≡ s) × ((x.1.0.now ≡ y.1.0.now) × (x.1.1.0.now ≡ y.1.1.0.now))))
  one_read κs bytes fields offset r s x y =
      via 𝓤 _ (conj_mono 𝓤 (three 𝓤 _ _ _) (three 𝓤 _ _ _)) (both 𝓤 _ _ _ (λ e f. (e.0 ∙ sym f.0, (e.1.0 ∙ sym f.1.0, e.1.1 ∙ sym f.1.1))))

  -- `kabizarle_write` gives one number, and leaves one buffer and one length
  pub one_write : (κs : Lfts 5) (fields payload check : Bor (List ℕ)) (out : MutBor (List ℕ)) (written : MutBor ℕ) (r s : ℕ) (x y : AtExit writing.ended κs)
      → let allows : ℕ → AtExit writing.ended κs → SProp 𝓤 = λ v e. (writing.clauses 𝓛 at_mem run κs (fields, (payload, (check, (out, (written, tt)))))).ensures tt v e in
      ent 𝓤 (conj 𝓤 (allows r x) (allows s y)) (fact 𝓤 ((r ≡ s) × ((x.1.1.1.0.now ≡ y.1.1.1.0.now) × (x.1.1.1.1.0.now ≡ y.1.1.1.1.0.now))))
  one_write κs fields payload check out written r s x y =
      via 𝓤 _ (conj_mono 𝓤 (three 𝓤 _ _ _) (three 𝓤 _ _ _)) (both 𝓤 _ _ _ (λ e f. (e.0 ∙ sym f.0, (e.1.0 ∙ sym f.1.0, e.1.1 ∙ sym f.1.1))))

  -- `kabizarle_unframe` gives one number, and leaves one frame
  pub one_unframe : (κs : Lfts 2) (stream : Bor (List ℕ)) (frame : MutBor (List ℕ)) (r s : ℕ) (x y : AtExit unframing.ended κs)
      → let allows : ℕ → AtExit unframing.ended κs → SProp 𝓤 = λ v e. (unframing.clauses 𝓛 at_mem run κs (stream, (frame, tt))).ensures tt v e in
      ent 𝓤 (conj 𝓤 (allows r x) (allows s y)) (fact 𝓤 ((r ≡ s) × (x.1.0.now ≡ y.1.0.now)))
  one_unframe κs stream frame r s x y =
      via 𝓤 _ (conj_mono 𝓤 (two 𝓤 _ _) (two 𝓤 _ _)) (both 𝓤 _ _ _ (λ e f. (e.0 ∙ sym f.0, e.1 ∙ sym f.1)))

  -- `kabizarle_frame` gives one number, and leaves one buffer and one length
  pub one_frame : (κs : Lfts 3) (message : Bor (List ℕ)) (out : MutBor (List ℕ)) (written : MutBor ℕ) (r s : ℕ) (x y : AtExit framing.ended κs)
      → let allows : ℕ → AtExit framing.ended κs → SProp 𝓤 = λ v e. (framing.clauses 𝓛 at_mem run κs (message, (out, (written, tt)))).ensures tt v e in
      ent 𝓤 (conj 𝓤 (allows r x) (allows s y)) (fact 𝓤 ((r ≡ s) × ((x.1.0.now ≡ y.1.0.now) × (x.1.1.0.now ≡ y.1.1.0.now))))
  one_frame κs message out written r s x y =
      via 𝓤 _ (conj_mono 𝓤 (three 𝓤 _ _ _) (three 𝓤 _ _ _)) (both 𝓤 _ _ _ (λ e f. (e.0 ∙ sym f.0, (e.1.0 ∙ sym f.1.0, e.1.1 ∙ sym f.1.1))))
