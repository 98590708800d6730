-- 22 is never said: what reading and the nodes let through has an acknowledgement that can be refused for want of room only. Assumes nothing.
use Rattle.std.specs.Prelude.{Option, Some, None}
use Prim.Native.Nat.{ℕ, ◌/◌, ◌%◌, ◌^◌}
use mathlib.Core.Path.{◌≡◌, refl, sym, ap, ◌∙◌}
use mathlib.Core.Bool.{Bool, true, false, not, ◌&&◌, ◌||◌, cond}
use mathlib.Core.List.{List, [], ◌∷◌, ◌++◌}
use native.Mathlib.Omega.{arith}
use borrow.Author.Tests.{eqb-false, not-true}
use lib.Dec.{eqb, ltb}
use lib.ListN.{length}
use Rattle.message.specs.Reasons.{number}
use Rattle.message.specs.Order.{Condition, condition, ◌when◌, first_refusal, reason_of, first, NoneOf}
use Rattle.message.specs.Layout.{only, encrypted}
use Rattle.message.specs.Value.{exchange_header, message_of}
use Rattle.message.specs.Refusals.{bad_encrypt, bad_key, nobody, total, address_order}
use Rattle.message.specs.Answers.{as_taken, reading, writing}
use Rattle.message.specs.declared.value.Message.{Message}
use Rattle.message.specs.declared.answers.Refusal.{Refusal}
use Rattle.message.specs.declared.answers.Reason.{Reason}
use Rattle.message.specs.declared.answers.Reason.TheVariants.{Encrypt, OwnNode, NoRoom, Full, Unwritable}
use Rattle.message.proofs.Logic.{clash, and_true, or_false}
use Rattle.message.proofs.Order.{none_some, same_some, first_miss, first_hit, none_first}
use Rattle.outer.specs.Outer.{outer_order}
use Rattle.reader.specs.Reading.{exchange_order, tunnel_order, body_order, reading_order, read_of}
use Rattle.reader.proofs.Clear.{taken, taken_legal}
use Rattle.reply.specs.Steps.{acknowledging_order}
use Rattle.reply.specs.Acknowledgement.{acknowledgement_of, acknowledging}
use Rattle.reply.proofs.Steps.{judged_is}
use Rattle.reply.specs.Planning.{unwritable, lacks_room}
use Rattle.admission.specs.Admission.{admission_order}
use Rattle.reception.specs.Receiving.{Beside, sender_of, answer_to, delivery_order, after_reading, receiving_order}
use Rattle.reception.proofs.Orders.{link_is_sender}

-- ---- an order that does not have a number

abbrev lacks : ℕ → List Condition → Bool
lacks n [] = true
lacks n (condition k holds at ∷ rest) = not (eqb (number k) n) && lacks n rest

not_said : (n : ℕ) (order : List Condition) (r : Reason) → lacks n order ≡ true → first order ≡ Some r → number r ≡ n → ⊥
not_said n [] r k e f = none_some e
not_said n (condition j true at ∷ rest) r k e f = eqb-false (number j) n (not-true _ (and_true (not (eqb (number j) n)) (lacks n rest) k).0) (ap number (same_some e) ∙ f)
not_said n (condition j false at ∷ rest) r k e f = not_said n rest r (and_true (not (eqb (number j) n)) (lacks n rest) k).1 e f

reading_lacks : (bytes : List ℕ) → lacks 22 (reading_order bytes) ≡ true
unfolding reading_order outer_order body_order tunnel_order exchange_order
reading_lacks bytes = go (message_of bytes).tunnelled
  where
    go : (b : Bool) → lacks 22 (outer_order bytes (message_of bytes) ++ cond b (tunnel_order bytes (message_of bytes)) (exchange_order (exchange_header bytes) (length bytes) (message_of bytes))) ≡ true
    go true = refl
    go false = refl

-- ---- the acknowledgement

-- of a message whose encrypt type and key id are good, between nodes that are somebody's, it is written or there is no room
module _ (own sender id : ℕ) (m : Message) (room : ℕ)
    (encrypt : bad_encrypt m.encrypt ≡ false) (key : bad_key m.encrypt m.key ≡ false) (ours : nobody own ≡ false) (theirs : nobody sender ≡ false)
  where
    pub for_room_only : unwritable (acknowledging (acknowledgement_of own sender id m) room) ≡ false
    unfolding acknowledging_order address_order acknowledgement_of
    for_room_only =
        ap unwritable (sym (judged_is own sender id m room refl refl))
        ∙ ap (λ (r : Option Refusal). unwritable (writing (reason_of r) (total (acknowledgement_of own sender id m) [])))
        (first_miss (Encrypt when bad_encrypt m.encrypt ∷ address_order (acknowledgement_of own sender id m)) (NoRoom when ltb room (total (acknowledgement_of own sender id m) []) ∷ [])
        (encrypt, (kept (encrypted m) refl, (ours, ((or_false _ _ theirs).0, tt)))))
        ∙ go (ltb room (total (acknowledgement_of own sender id m) [])) (total (acknowledgement_of own sender id m) [])
      where
        kept : (e : Bool) → encrypted m ≡ e → bad_key m.encrypt (only e m.key) ≡ false
        kept true e = key
        kept false e = ap (λ (x : Bool). x && not (eqb (0 / 2 ^ 12 % 2 ^ 4) 1 || eqb (0 / 2 ^ 12 % 2 ^ 4) 2)) e

        go : (lack : Bool) (len : ℕ) → unwritable (writing (first (NoRoom when lack ∷ [])) len) ≡ false
        go true len = refl
        go false len = refl

-- ---- receiving

module _ (b : Beside) (bytes : List ℕ) (full : Bool) (r : Reason) where
  -- nothing before it refuses, and it does not itself
  at_last : nobody b.own ≡ false → read_of bytes ≡ as_taken (message_of bytes) → NoneOf (delivery_order b.own b.link b.passed (message_of bytes))
      → first (admission_order (answer_to b (message_of bytes)) b.room (message_of bytes) full) ≡ Some r → number r ≡ 22 → ⊥
  unfolding delivery_order admission_order
  at_last own was delivered e f =
      let read = (taken bytes (message_of bytes) was).1.outer in
      let sender : nobody (sender_of b.link (message_of bytes)) ≡ false = sym (link_is_sender b.link (sender_of b.link (message_of bytes)) (message_of bytes) refl read.source) ∙ delivered.1.0 in
      go (message_of bytes).wants (unwritable (acknowledging (answer_to b (message_of bytes)) b.room)) ((message_of bytes).wants && lacks_room (acknowledging (answer_to b (message_of bytes)) b.room)) full
      (for_room_only b.own (sender_of b.link (message_of bytes)) b.id (message_of bytes) b.room read.encrypt read.key own sender) e f
    where
      go : (wants un lack full : Bool) → un ≡ false → first (Unwritable when (wants && un) ∷ NoRoom when lack ∷ Full when full ∷ []) ≡ Some r → number r ≡ 22 → ⊥
      go true true lack full u e f = clash true refl u
      go true false true full u e f = let k : 19 ≡ number r = ap number (same_some e) in omega arith
      go true false false true u e f = let k : 20 ≡ number r = ap number (same_some e) in omega arith
      go true false false false u e f = none_some e
      go false un true full u e f = let k : 19 ≡ number r = ap number (same_some e) in omega arith
      go false un false true u e f = let k : 20 ≡ number r = ap number (same_some e) in omega arith
      go false un false false u e f = none_some e

  pub never_22 : first (receiving_order b bytes full) ≡ Some r → number r ≡ 22 → ⊥
  unfolding receiving_order after_reading delivery_order read_of
  never_22 e f = by_own (nobody b.own) refl e f
    where
      by_delivery : nobody b.own ≡ false → read_of bytes ≡ as_taken (message_of bytes) → (o : Option Refusal) → first_refusal (delivery_order b.own b.link b.passed (message_of bytes)) ≡ o
          → first (after_reading b (message_of bytes) full) ≡ Some r → number r ≡ 22 → ⊥
      by_delivery own was None g e f =
          let none = none_first (delivery_order b.own b.link b.passed (message_of bytes)) (ap reason_of g) in
          at_last own was none (sym (ap reason_of (first_miss (delivery_order b.own b.link b.passed (message_of bytes)) (admission_order (answer_to b (message_of bytes)) b.room (message_of bytes) full) none)) ∙ e) f
      by_delivery own was (Some q) g e f =
          not_said 22 (delivery_order b.own b.link b.passed (message_of bytes)) r refl
          (ap reason_of g ∙ sym (ap reason_of (first_hit (delivery_order b.own b.link b.passed (message_of bytes)) (admission_order (answer_to b (message_of bytes)) b.room (message_of bytes) full) q g)) ∙ e) f

      by_reading : nobody b.own ≡ false → (o : Option Refusal) → first_refusal (reading_order bytes) ≡ o → first (reading_order bytes ++ after_reading b (message_of bytes) full) ≡ Some r → number r ≡ 22 → ⊥
      by_reading own None g e f =
          let was : read_of bytes ≡ as_taken (message_of bytes) = ap (λ (q : Option Refusal). reading q (message_of bytes)) g in
          by_delivery own was (first_refusal (delivery_order b.own b.link b.passed (message_of bytes))) refl
          (sym (ap reason_of (first_miss (reading_order bytes) (after_reading b (message_of bytes) full) (taken_legal bytes (message_of bytes) was))) ∙ e) f
      by_reading own (Some q) g e f =
          not_said 22 (reading_order bytes) r (reading_lacks bytes) (ap reason_of g ∙ sym (ap reason_of (first_hit (reading_order bytes) (after_reading b (message_of bytes) full) q g)) ∙ e) f

      by_own : (x : Bool) → nobody b.own ≡ x → first (OwnNode when x ∷ reading_order bytes ++ after_reading b (message_of bytes) full) ≡ Some r → number r ≡ 22 → ⊥
      by_own true own e f = let k : 15 ≡ number r = ap number (same_some e) in omega arith
      by_own false own e f = by_reading own (first_refusal (reading_order bytes)) refl e f
