-- Where receiving refuses nothing, none of its conditions holds: the name is a good one, there is a row to be had, and room for an
-- acknowledgement. Assumes nothing.
use Rattle.std.specs.Prelude.{None, Result, Ok, Err}
use Prim.Native.Nat.{ℕ, ◌≤◌}
use mathlib.Core.Path.{◌≡◌, refl, sym, ap, ◌∙◌}
use mathlib.Core.Bool.{Bool, true, false, not, ◌&&◌}
use mathlib.Core.List.{List, [], ◌++◌}
use native.Mathlib.Omega.{arith}
use lib.Dec.{eqb}
use Rattle.message.specs.Reasons.{number}
use Rattle.message.specs.Order.{first, NoneOf}
use Rattle.message.specs.Layout.{only}
use Rattle.message.specs.Value.{message_of}
use Rattle.message.specs.Refusals.{bad_key, nobody, total}
use Rattle.message.specs.declared.answers.Refusal.{Refusal}
use Rattle.message.proofs.Logic.{clash}
use Rattle.message.proofs.Order.{none_first}
use Rattle.reader.specs.Reading.{reading_order}
use Rattle.reader.proofs.Clear.{Clear, none_left, none_right, all_clear}
use Rattle.judge.proofs.Clear.{written}
use Rattle.reply.specs.Acknowledgement.{blank_check, acknowledging}
use Rattle.reply.specs.Planning.{unwritable, lacks_room}
use Rattle.admission.specs.Admission.{admission_order}
use Rattle.reception.specs.Receiving.{Beside, sender_of, answer_to, delivery_order, after_reading, receiving_order}
use Rattle.reception.proofs.Orders.{link_is_sender}

module _ (b : Beside) (bytes : List ℕ) (full : Bool) where
  module _ (clear : first (receiving_order b bytes full) ≡ None) where
    -- none of the conditions holds, so none of reading's
    all : NoneOf (reading_order bytes ++ after_reading b (message_of bytes) full)
    unfolding receiving_order
    all = (none_first (receiving_order b bytes full) clear).1

    read : Clear bytes (message_of bytes)
    read = all_clear bytes (none_left (reading_order bytes) (after_reading b (message_of bytes) full) all)

    -- none of those that the nodes and the check decide
    delivered : NoneOf (delivery_order b.own b.link b.passed (message_of bytes))
    unfolding after_reading
    delivered =
        none_left (delivery_order b.own b.link b.passed (message_of bytes)) (admission_order (answer_to b (message_of bytes)) b.room (message_of bytes) full)
        (none_right (reading_order bytes) (after_reading b (message_of bytes) full) all)

    -- and none of the last three
    last : NoneOf (admission_order (answer_to b (message_of bytes)) b.room (message_of bytes) full)
    unfolding after_reading
    last =
        none_right (delivery_order b.own b.link b.passed (message_of bytes)) (admission_order (answer_to b (message_of bytes)) b.room (message_of bytes) full)
        (none_right (reading_order bytes) (after_reading b (message_of bytes) full) all)

    -- the sender is somebody, and the key id of an encrypted message is of type 1 or 2
    pub sender_is_somebody : nobody (sender_of b.link (message_of bytes)) ≡ false
    unfolding delivery_order
    sender_is_somebody = sym (link_is_sender b.link (sender_of b.link (message_of bytes)) (message_of bytes) refl read.outer.source) ∙ delivered.1.0

    pub key_is_good : bad_key (message_of bytes).encrypt (message_of bytes).key ≡ false
    key_is_good = read.outer.key

    -- there is a row to be had
    pub has_row : full ≡ false
    unfolding admission_order
    has_row = last.1.1.0

    -- an acknowledgement that is wanted is written
    pub is_acknowledged : (message_of bytes).wants ≡ true → acknowledging (answer_to b (message_of bytes)) b.room ≡ Ok (total (answer_to b (message_of bytes)) [])
    unfolding admission_order acknowledging
    is_acknowledged w = go (acknowledging (answer_to b (message_of bytes)) b.room) refl (message_of bytes).wants w last.0 last.1.0
      where
        go : (a : Result ℕ Refusal) → acknowledging (answer_to b (message_of bytes)) b.room ≡ a → (wants : Bool) → wants ≡ true → (wants && unwritable a) ≡ false → (wants && lacks_room a) ≡ false
            → a ≡ Ok (total (answer_to b (message_of bytes)) [])
        go (Ok n) e true w p q = sym (ap Ok (written (answer_to b (message_of bytes)) [] (blank_check (answer_to b (message_of bytes))) b.room n e).0)
        go (Err r) e true w p q = clash (not (eqb (number r.reason) 19)) (ap not q) p
        go a e false w p q = clash false w refl

    -- so there is room for it
    pub acknowledgement_fits : only (message_of bytes).wants (total (answer_to b (message_of bytes)) []) ≤ b.room
    unfolding acknowledging
    acknowledgement_fits = go (message_of bytes).wants is_acknowledged
      where
        go : (wants : Bool) → (wants ≡ true → acknowledging (answer_to b (message_of bytes)) b.room ≡ Ok (total (answer_to b (message_of bytes)) []))
            → only wants (total (answer_to b (message_of bytes)) []) ≤ b.room
        go true e = (written (answer_to b (message_of bytes)) [] (blank_check (answer_to b (message_of bytes))) b.room (total (answer_to b (message_of bytes)) []) (e refl)).1.room
        go false e = omega arith
