-- A message that was received was read: its value is what reading gives. Assumes nothing.
use Rattle.std.specs.Prelude.{Option, None, Ok}
use Prim.Native.Nat.{ℕ}
use mathlib.Core.Path.{◌≡◌, refl, ap, ap₂, ◌∙◌}
use mathlib.Core.Bool.{Bool}
use mathlib.Core.List.{List, [], ◌∷◌, ◌++◌}
use Rattle.message.specs.Order.{Condition, ◌when◌, first_refusal, reason_of, first}
use Rattle.message.specs.Layout.{only}
use Rattle.message.specs.Value.{message_of}
use Rattle.message.specs.Refusals.{nobody, total}
use Rattle.message.specs.Answers.{head_of, unless, with_head, reading}
use Rattle.message.specs.declared.value.Message.{Message}
use Rattle.message.specs.declared.answers.Head.{Head}
use Rattle.message.specs.declared.answers.Refusal.{Refusal}
use Rattle.message.specs.declared.answers.Reason.{Reason}
use Rattle.message.specs.declared.answers.Reason.TheVariants.{OwnNode}
use Rattle.message.proofs.Order.{none_first, refusal_none}
use Rattle.message.proofs.Writings.{unless_ok}
use Rattle.reader.specs.Reading.{reading_order, read_of}
use Rattle.reader.proofs.Clear.{none_left}
use Rattle.window.specs.declared.Verdict.{Verdict}
use Rattle.admission.specs.declared.answers.Received.{Received}
use Rattle.admission.specs.Admission.{no_row, verdict_in, received, as_new, as_duplicate, answer_of}
use Rattle.reception.specs.Receiving.{Beside, sender_of, answer_to, after_reading, receiving_order, receive_of}

-- where no condition of an order holds, none of its middle part does
middle : (reason : Reason) (holds : Bool) (before after : List Condition) → first (reason when holds ∷ before ++ after) ≡ None → first_refusal before ≡ None
middle reason holds before after e = refusal_none before (none_left before after (none_first (reason when holds ∷ before ++ after) e).1)

-- an answer with a verdict has no refusal, and holds the value
given_of : (r : Option Refusal) (v w : Verdict) (x m : Message) (g h : Head) (l n : ℕ) → unless r (received v x g l) ≡ Ok (received w m h n)
    → (r ≡ None) × (x ≡ m) × (g ≡ h) × (v ≡ w) × (l ≡ n)
given_of r v w x m g h l n e =
    let p = unless_ok r (received v x g l) (received w m h n) e in
    (p.0, ap (λ (a : Received). a.taken.message) p.1, ap (λ (a : Received). a.taken.head) p.1, ap (λ (a : Received). a.verdict) p.1, ap (λ (a : Received). a.reply) p.1)

pub new_of : (r : Option Refusal) (v : Verdict) (x m : Message) (g h : Head) (l n : ℕ) → unless r (received v x g l) ≡ as_new m h n
    → (r ≡ None) × (x ≡ m) × (g ≡ h) × (v ≡ Verdict.New) × (l ≡ n)
new_of r v x m g h l n e = given_of r v Verdict.New x m g h l n e

module _ (b : Beside) (bytes t : List ℕ) (m : Message) (h : Head) (n : ℕ) where
  sender : ℕ
  sender = sender_of b.link (message_of bytes)

  full : Bool
  full = no_row t sender (message_of bytes).key

  reply : ℕ
  reply = only (message_of bytes).wants (total (answer_to b (message_of bytes)) [])

  clear_reading : first (receiving_order b bytes full) ≡ None → first_refusal (reading_order bytes) ≡ None
  unfolding receiving_order
  clear_reading e = middle OwnNode (nobody b.own) (reading_order bytes) (after_reading b (message_of bytes) full) e

  read_by : (first (receiving_order b bytes full) ≡ None) × (message_of bytes ≡ m) × (head_of (message_of bytes) ≡ h) → read_of bytes ≡ Ok (with_head m h)
  unfolding read_of
  read_by w = ap (λ (r : Option Refusal). reading r (message_of bytes)) (clear_reading w.0) ∙ ap₂ (λ (v : Message) (g : Head). Ok (with_head v g)) w.1 w.2

  -- an answer with a verdict: nothing refused, and it holds the value of the bytes, its head and the acknowledgement's length
  pub record Said : Type 0 where
    pub clear : first (receiving_order b bytes (no_row t (sender_of b.link (message_of bytes)) (message_of bytes).key)) ≡ None
    pub value : message_of bytes ≡ m
    pub head : head_of (message_of bytes) ≡ h
    pub reply : only (message_of bytes).wants (total (answer_to b (message_of bytes)) []) ≡ n

  pub new_said : receive_of b bytes t ≡ as_new m h n → Said
  unfolding receive_of answer_of sender full reply
  new_said e =
      let w = given_of (first_refusal (receiving_order b bytes full)) (verdict_in t sender (message_of bytes)) Verdict.New (message_of bytes) m (head_of (message_of bytes)) h reply n e in
      record { clear = ap reason_of w.0; value = w.1; head = w.2; reply = w.4 }

  pub duplicate_said : receive_of b bytes t ≡ as_duplicate m h n → Said
  unfolding receive_of answer_of sender full reply
  duplicate_said e =
      let w = given_of (first_refusal (receiving_order b bytes full)) (verdict_in t sender (message_of bytes)) Verdict.Duplicate (message_of bytes) m (head_of (message_of bytes)) h reply n e in
      record { clear = ap reason_of w.0; value = w.1; head = w.2; reply = w.4 }

  -- a message that is new was read
  pub new_was_read : receive_of b bytes t ≡ as_new m h n → read_of bytes ≡ Ok (with_head m h)
  unfolding sender full
  new_was_read e = let w = new_said e in read_by (w.clear, w.value, w.head)

  -- and so was a duplicate
  pub duplicate_was_read : receive_of b bytes t ≡ as_duplicate m h n → read_of bytes ≡ Ok (with_head m h)
  unfolding sender full
  duplicate_was_read e = let w = duplicate_said e in read_by (w.clear, w.value, w.head)

-- a message that got a verdict was read
pub was_read : (b : Beside) (bytes t : List ℕ) (a : Received) → receive_of b bytes t ≡ Ok a → read_of bytes ≡ Ok a.taken
was_read b bytes t a e = go a.verdict refl
  where
    go : (v : Verdict) → a.verdict ≡ v → read_of bytes ≡ Ok a.taken
    go Verdict.New v = new_was_read b bytes t a.taken.message a.taken.head a.reply (e ∙ ap (λ (w : Verdict). Ok (received w a.taken.message a.taken.head a.reply)) v)
    go Verdict.Duplicate v = duplicate_was_read b bytes t a.taken.message a.taken.head a.reply (e ∙ ap (λ (w : Verdict). Ok (received w a.taken.message a.taken.head a.reply)) v)
