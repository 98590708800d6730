-- The order of receiving, part by part. Assumes nothing.
use Rattle.std.specs.Prelude.{Option, Some, None, Result, Ok, Err}
use Prim.Native.Nat.{ℕ}
use mathlib.Core.Path.{◌≡◌, refl, sym, ap, ap₂, ◌∙◌}
use mathlib.Core.Bool.{Bool, true, false, not, ◌&&◌, cond}
use mathlib.Core.List.{List, ◌∷◌, ◌++◌}
use lib.ListN.{length}
use Rattle.message.specs.Reasons.{refusal}
use Rattle.message.specs.Order.{◌when◌, first_refusal, first, passed}
use Rattle.message.specs.Value.{message_of}
use Rattle.message.specs.Refusals.{nobody, bad_source}
use Rattle.message.specs.Answers.{head_of, with_head}
use Rattle.message.specs.declared.value.Message.{Message}
use Rattle.message.specs.declared.answers.Head.{Head}
use Rattle.message.specs.declared.answers.Refusal.{Refusal}
use Rattle.message.specs.declared.answers.Reason.{Reason}
use Rattle.message.specs.declared.answers.Reason.TheVariants.{OwnNode}
use Rattle.message.proofs.Order.{refusal_for, at_zero, first_at_zero, first_miss, first_pass, first_hit, passed_err}
use Rattle.message.proofs.Writings.{unless_err}
use Rattle.reader.specs.Reading.{reading_order, read_of}
use Rattle.reader.proofs.Clear.{taken, taken_legal, head_taken}
use Rattle.reply.specs.Acknowledgement.{acknowledgement_of}
use Rattle.admission.specs.Admission.{no_row, admission_order, verdict_in, answer_of, table_by, buffer_by}
use Rattle.admission.specs.declared.answers.Received.{Received}
use Rattle.admission.proofs.Orders.{keeps_table, keeps_buffer}
use Rattle.reception.specs.Receiving.{Beside, sender_of, bad_link, delivery_order, answer_to, after_reading, receiving_order, receive_of, receive_table, receive_buffer}

-- ---- 16 to 18, and then

-- a sender who is nobody is the link's, where the source of the message is somebody's or absent
pub link_is_sender : (link sender : ℕ) (m : Message) → sender ≡ sender_of link m → bad_source m.sourced m.source ≡ false → bad_link link m ≡ nobody sender
link_is_sender link sender m = go m.sourced
  where
    go : (s : Bool) → sender ≡ cond s m.source link → (s && nobody m.source) ≡ false → (not s && nobody link) ≡ nobody sender
    go true e h = sym (ap nobody e ∙ h)
    go false e h = sym (ap nobody e)

delivery_at_zero : (own link : ℕ) (passed : Bool) (m : Message) → at_zero (delivery_order own link passed m) ≡ true
unfolding delivery_order
delivery_at_zero own link passed m = refl

module _ (b : Beside) (m : Message) (h : Head) (t : List ℕ) where
  pub not_delivered : (reason : Reason) → passed (first (delivery_order b.own b.link b.passed m)) ≡ Err reason
      → first_refusal (after_reading b m (no_row t (sender_of b.link m) m.key)) ≡ Some (refusal reason)
  unfolding after_reading
  not_delivered reason e =
      first_hit (delivery_order b.own b.link b.passed m) (admission_order (answer_to b m) b.room m (no_row t (sender_of b.link m) m.key)) (refusal reason)
      (first_at_zero (delivery_order b.own b.link b.passed m) (delivery_at_zero b.own b.link b.passed m) ∙ ap refusal_for (passed_err _ reason e))

  -- the sender s and the acknowledgement's value v
  pub delivered : (s : ℕ) (v : Message) → s ≡ sender_of b.link m → v ≡ acknowledgement_of b.own s b.id m → first (delivery_order b.own b.link b.passed m) ≡ None
      → answer_of (first_refusal (admission_order v b.room m (no_row t s m.key))) (verdict_in t s m) v m h
      ≡ answer_of (first_refusal (after_reading b m (no_row t (sender_of b.link m) m.key))) (verdict_in t (sender_of b.link m) m) (answer_to b m) m h
  unfolding after_reading
  delivered s v es ev z =
      ap₂ (λ (x : Message) (y : ℕ). answer_of (first_refusal (admission_order x b.room m (no_row t y m.key))) (verdict_in t y m) x m h) (ev ∙ ap (λ (y : ℕ). acknowledgement_of b.own y b.id m) es) es
      ∙ ap (λ (r : Option Refusal). answer_of r (verdict_in t (sender_of b.link m) m) (answer_to b m) m h)
      (sym (first_pass (delivery_order b.own b.link b.passed m) (admission_order (answer_to b m) b.room m (no_row t (sender_of b.link m) m.key)) z))

  -- all three, of the answer of what follows
  pub delivers : (s : ℕ) (v : Message) (old : List ℕ) (answer : Result Received Refusal) (after buffer : List ℕ) → b.room ≡ length old
      → s ≡ sender_of b.link m → v ≡ acknowledgement_of b.own s b.id m → first (delivery_order b.own b.link b.passed m) ≡ None
      → answer ≡ answer_of (first_refusal (admission_order v (length old) m (no_row t s m.key))) (verdict_in t s m) v m h → after ≡ table_by answer s m t → buffer ≡ buffer_by answer v m old
      → (answer ≡ answer_of (first_refusal (after_reading b m (no_row t (sender_of b.link m) m.key))) (verdict_in t (sender_of b.link m) m) (answer_to b m) m h)
      × ((after ≡ table_by answer (sender_of b.link m) m t) × (buffer ≡ buffer_by answer (answer_to b m) m old))
  delivers s v old answer after buffer r es ev z ea et eb = (
    ea ∙ ap (λ (k : ℕ). answer_of (first_refusal (admission_order v k m (no_row t s m.key))) (verdict_in t s m) v m h) (sym r) ∙ delivered s v es ev z,
    (et ∙ ap (λ (y : ℕ). table_by answer y m t) es, eb ∙ ap (λ (x : Message). buffer_by answer x m old) (ev ∙ ap (λ (y : ℕ). acknowledgement_of b.own y b.id m) es)),
  )

-- ---- 15, all of reading, and then

module _ (b : Beside) (bytes t : List ℕ) where
  -- whether there is no row to be had
  abbrev pub full_for_lem : Message → Bool
  full_for_lem m = no_row t (sender_of b.link m) m.key

  pub own_refused : nobody b.own ≡ true → Err (refusal OwnNode) ≡ receive_of b bytes t
  unfolding receiving_order receive_of answer_of
  own_refused e =
      sym (ap (λ (x : Bool). answer_of (first_refusal (OwnNode when x ∷ reading_order bytes ++ after_reading b (message_of bytes) (full_for_lem (message_of bytes))))
      (verdict_in t (sender_of b.link (message_of bytes)) (message_of bytes)) (answer_to b (message_of bytes)) (message_of bytes) (head_of (message_of bytes))) e)

  module _ (own : nobody b.own ≡ false) where
    after_own : first_refusal (receiving_order b bytes (full_for_lem (message_of bytes))) ≡ first_refusal (reading_order bytes ++ after_reading b (message_of bytes) (full_for_lem (message_of bytes)))
    unfolding receiving_order
    after_own = ap (λ (x : Bool). first_refusal (OwnNode when x ∷ reading_order bytes ++ after_reading b (message_of bytes) (full_for_lem (message_of bytes)))) own

    -- what reading refuses is the answer as it is, number and offset
    pub not_read : (r : Refusal) → read_of bytes ≡ Err r → Err r ≡ receive_of b bytes t
    unfolding read_of receive_of answer_of
    not_read r e =
        sym (ap (λ (q : Option Refusal). answer_of q (verdict_in t (sender_of b.link (message_of bytes)) (message_of bytes)) (answer_to b (message_of bytes)) (message_of bytes) (head_of (message_of bytes)))
        (after_own ∙ first_hit (reading_order bytes) (after_reading b (message_of bytes) (full_for_lem (message_of bytes))) r (unless_err _ _ r e)))

    -- the value that was read is that of the bytes
    pub is_read : (m : Message) (h : Head) → read_of bytes ≡ Ok (with_head m h)
        → answer_of (first_refusal (after_reading b m (full_for_lem m))) (verdict_in t (sender_of b.link m) m) (answer_to b m) m h ≡ receive_of b bytes t
    unfolding receive_of
    is_read m h e =
        ap (λ (x : Head). answer_of (first_refusal (after_reading b m (full_for_lem m))) (verdict_in t (sender_of b.link m) m) (answer_to b m) m x) (head_taken bytes m h e)
        ∙ ap (λ (x : Message). answer_of (first_refusal (after_reading b x (full_for_lem x))) (verdict_in t (sender_of b.link x) x) (answer_to b x) x (head_of x)) (sym (taken bytes m e).0)
        ∙ ap (λ (r : Option Refusal). answer_of r (verdict_in t (sender_of b.link (message_of bytes)) (message_of bytes)) (answer_to b (message_of bytes)) (message_of bytes) (head_of (message_of bytes)))
        (sym (after_own ∙ first_miss (reading_order bytes) (after_reading b (message_of bytes) (full_for_lem (message_of bytes))) (taken_legal bytes m e)))

  -- all three, of the value that was read or of any
  pub receives : (m : Message) (old : List ℕ) (answer : Result Received Refusal) (after buffer : List ℕ) → m ≡ message_of bytes → answer ≡ receive_of b bytes t
      → after ≡ table_by answer (sender_of b.link m) m t → buffer ≡ buffer_by answer (answer_to b m) m old
      → (answer ≡ receive_of b bytes t) × ((after ≡ receive_table b bytes t) × (buffer ≡ receive_buffer b bytes t old))
  unfolding receive_table receive_buffer
  receives m old answer after buffer em ea et eb = (
    ea,
    (
      et ∙ ap₂ (λ (x : Result Received Refusal) (y : Message). table_by x (sender_of b.link y) y t) ea em,
      eb ∙ ap₂ (λ (x : Result Received Refusal) (y : Message). buffer_by x (answer_to b y) y old) ea em,
    ),
  )

  -- and where it refuses
  pub receives_none : (r : Refusal) (old : List ℕ) (answer : Result Received Refusal) → answer ≡ Err r → answer ≡ receive_of b bytes t
      → (answer ≡ receive_of b bytes t) × ((t ≡ receive_table b bytes t) × (old ≡ receive_buffer b bytes t old))
  receives_none r old answer e ea =
      receives (message_of bytes) old answer t old refl ea (keeps_table answer r (sender_of b.link (message_of bytes)) (message_of bytes) t e) (keeps_buffer answer r (answer_to b (message_of bytes)) (message_of bytes) old e)
