-- The acknowledgement's own order is that of writing it. Assumes nothing.
use Rattle.std.specs.Prelude.{Option, Result, Err}
use Prim.Native.Nat.{ℕ, ◌+◌}
use mathlib.Core.Path.{◌≡◌, refl, sym, ap, ap₂, ◌∙◌}
use mathlib.Core.Bool.{Bool, true, false, not, ◌&&◌, ◌||◌}
use mathlib.Core.List.{[], ◌∷◌, ◌++◌}
use lib.Dec.{eqb, ltb}
use lib.ListN.{length}
use Rattle.message.specs.Order.{◌when◌, first, passed}
use Rattle.message.specs.Reasons.{refusal}
use Rattle.message.specs.Layout.{only, encrypted}
use Rattle.message.specs.Refusals.{bad_encrypt, bad_key, nobody, too_long, stray, total, address_order}
use Rattle.message.specs.Answers.{writing}
use Rattle.message.specs.declared.value.Message.{Message}
use Rattle.message.specs.declared.answers.Refusal.{Refusal}
use Rattle.message.specs.declared.answers.Reason.{Reason}
use Rattle.message.specs.declared.answers.Reason.TheVariants.{TooLong, TooShort, Encrypt, Key, Source, Destination, OldAsks, Packet, Stray, NoRoom, PacketLength}
use Rattle.judge.specs.Writing.{writing_order, write_of}
use Rattle.judge.proofs.Steps.{stops}
use Rattle.reply.specs.Steps.{acknowledging_order}
use Rattle.reply.specs.Acknowledgement.{acknowledgement_of, zeros, blank_check, acknowledging}

-- its address fields have their own order, which decides where it refuses
pub refused_address : (value : Message) (room : ℕ) {reason : Reason} → bad_encrypt value.encrypt ≡ false → passed (first (address_order value)) ≡ Err reason
    → Err (refusal reason) ≡ writing (first (acknowledging_order value room)) (total value [])
unfolding acknowledging_order
refused_address value room e f =
    sym (ap (λ (b : Bool). writing (first (Encrypt when b ∷ (address_order value ++ (NoRoom when ltb room (total value []) ∷ [])))) (total value [])) e
    ∙ ap (λ (o : Option Reason). writing o (total value [])) (stops (address_order value) _ f))

-- what can hold of an acknowledgement, and what cannot, which leaves the first number as it is
same_first : (b₆ b₇ b₈ b₉ s l r : Bool) → s ≡ false → l ≡ false
    → first (Encrypt when b₆ ∷ Key when b₇ ∷ Source when b₈ ∷ Destination when b₉ ∷ OldAsks when false ∷ TooShort when false ∷ Packet when false ∷ PacketLength when false ∷ Stray when s ∷ TooLong when l ∷ NoRoom when r ∷ [])
    ≡ first (Encrypt when b₆ ∷ Key when b₇ ∷ Source when b₈ ∷ Destination when b₉ ∷ NoRoom when r ∷ [])
same_first true b₇ b₈ b₉ s l r e f = refl
same_first false true b₈ b₉ s l r e f = refl
same_first false false true b₉ s l r e f = refl
same_first false false false true s l r e f = refl
same_first false false false false s l r e f = ap₂ (λ (x y : Bool). first (Stray when x ∷ TooLong when y ∷ NoRoom when r ∷ [])) e f

module _ (own sender id : ℕ) (m : Message) (room : ℕ) where
  -- of its fields only the key id may be absent, which is then 0, and its check bytes are as many as they must be
  none_stray : stray (acknowledgement_of own sender id m) (blank_check (acknowledgement_of own sender id m)) ≡ false
  unfolding stray acknowledgement_of
  none_stray = go (encrypted m)
    where
      go : (b : Bool) → ((not b && not (eqb (only b m.key) 0)) || false || not (eqb (length (zeros (only b 20))) (only b 20))) ≡ false
      go true = refl
      go false = refl

  -- it is never too long
  short : too_long (total (acknowledgement_of own sender id m) []) ≡ false
  unfolding total acknowledgement_of
  short = go (encrypted m)
    where
      go : (b : Bool) → too_long (6 + 8 + 8 + only b 2 + 12 + 0 + only b 20) ≡ false
      go true = refl
      go false = refl

  order_is : first (writing_order (acknowledgement_of own sender id m) [] (blank_check (acknowledgement_of own sender id m)) room) ≡ first (acknowledging_order (acknowledgement_of own sender id m) room)
  unfolding writing_order acknowledging_order address_order acknowledgement_of
  order_is =
      same_first (bad_encrypt m.encrypt) (bad_key m.encrypt (only (encrypted m) m.key)) (nobody own) (eqb sender 0)
      (stray (acknowledgement_of own sender id m) (blank_check (acknowledgement_of own sender id m)))
      (too_long (total (acknowledgement_of own sender id m) []))
      (ltb room (total (acknowledgement_of own sender id m) []))
      none_stray short

  -- so writing answers by its own order
  pub judged_is : {value : Message} {answer : Result ℕ Refusal} → value ≡ acknowledgement_of own sender id m → answer ≡ writing (first (acknowledging_order value room)) (total value [])
      → answer ≡ acknowledging (acknowledgement_of own sender id m) room
  unfolding acknowledging write_of
  judged_is is by =
      by
      ∙ ap (λ (v : Message). writing (first (acknowledging_order v room)) (total v [])) is
      ∙ ap (λ (o : Option Reason). writing o (total (acknowledgement_of own sender id m) [])) (sym order_is)
