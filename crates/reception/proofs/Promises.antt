-- What reception promises, each as a theorem of its own. The laws behind them are in the other files of this folder, and what a history of
-- calls comes to is in the crate `history`. Assumes nothing.

-- The condition of 20 holds exactly when the name has no row and all rows are in use.
pub use Rattle.admission.proofs.Places.{full_says, full_when}
-- Only one outcome fits `receive`, and one `remove`.
pub use Rattle.reception.proofs.Outcomes.{one_receipt, one_removal}
-- A removal leaves all other rows and words as they were, and all of the table if it refuses, at no byte; the row removed is free and zero, and is the one
-- used again where it is the lowest free.
pub use Rattle.reception.proofs.Removal.{refused_removal_changes_nothing, removal_points_at_no_byte, removal_touches_one_row, removal_touches_three_words, removal_keeps_the_length}
pub use Rattle.reception.proofs.Removal.{removed_words_are_zero, removed_row_is_free_and_zero, removed_name_has_no_row, removed_row_is_the_lowest_free, removed_row_is_used_again}
-- What is written: the front of the buffer, as long as the answer says, 34 or 56 bytes that read back, or nothing where R is not set.
pub use Rattle.reception.proofs.Replies.{acknowledgement_length, acknowledgement_is_sized, acknowledgement_reads_back}
pub use Rattle.reception.proofs.Replies.{changes_the_front_only, gives_value_and_length, keeps_the_buffer_length, what_is_written_reads_back}
-- A verdict is given only to a message that reading takes.
pub use Rattle.reception.proofs.WasRead.{new_was_read, duplicate_was_read}
use Rattle.std.specs.Prelude.{Option, Some, Result, Ok, Err}
use Prim.Native.Nat.{ℕ, ◌+◌, ◌*◌}
use mathlib.Core.Path.{◌≡◌, refl, sym, ap, ◌∙◌}
use mathlib.Core.Bool.{Bool, true, false}
use mathlib.Core.Logic.{◌⊎◌, inl, inr}
use mathlib.Core.List.{List}
use lib.ListN.{get_or}
use Rattle.message.specs.Reasons.{number}
use Rattle.message.specs.Order.{first_refusal, reason_of}
use Rattle.message.specs.Value.{message_of}
use Rattle.message.specs.Refusals.{nobody}
use Rattle.message.specs.Answers.{head_of}
use Rattle.message.specs.declared.value.Message.{Message}
use Rattle.message.specs.declared.answers.Head.{Head}
use Rattle.message.specs.declared.answers.Taken.{Taken}
use Rattle.message.specs.declared.answers.Refusal.{Refusal}
use Rattle.message.proofs.Order.{FirstToHold, at_zero, first_at_zero, first_holds, holds_first}
use Rattle.message.proofs.Writings.{unless_err, for_at_no_byte}
use Rattle.reader.specs.Reading.{read_of}
use Rattle.window.specs.declared.Verdict.{Verdict}
use Rattle.table.specs.Table.{row_of}
use Rattle.table.proofs.Words.{other_row, other_word}
use Rattle.admission.specs.Admission.{row_for, rolled_in, no_row, admission_order, verdict_in, as_duplicate, answer_of, put_if_new, table_by}
use Rattle.admission.specs.declared.answers.Received.{Received}
use Rattle.admission.proofs.Orders.{keeps_table, keeps_buffer}
use Rattle.reception.specs.Receiving.{Beside, sender_of, delivery_order, answer_to, after_reading, receiving_order, receive_of, receive_table, receive_buffer}
use Rattle.reception.proofs.Orders.{own_refused, not_read, is_read, full_for_lem}
use Rattle.reception.proofs.Unwritable.{never_22}

-- ---- a refusal, its number and its byte

-- an answer made of a refusal is that refusal
refused_of : (r : Option Refusal) (q : Refusal) (verdict : Verdict) (value m : Message) (h : Head) → answer_of r verdict value m h ≡ Err q → r ≡ Some q
unfolding answer_of
refused_of r q verdict value m h e = unless_err _ _ q e

-- what follows reading points at no byte
after_at_zero : (b : Beside) (m : Message) (full : Bool) → at_zero (after_reading b m full) ≡ true
unfolding after_reading delivery_order admission_order
after_at_zero b m full = refl

after_reading_at_no_byte : (b : Beside) (m : Message) (h : Head) (full : Bool) (verdict : Verdict) (r : Refusal)
    → answer_of (first_refusal (after_reading b m full)) verdict (answer_to b m) m h ≡ Err r → r.offset ≡ 0
after_reading_at_no_byte b m h full verdict r e =
    for_at_no_byte _ r (sym (first_at_zero (after_reading b m full) (after_at_zero b m full)) ∙ refused_of _ r verdict (answer_to b m) m h e)

-- ---- what a call leaves as it was

module _ (b : Beside) (bytes t : List ℕ) where
  -- A refused call leaves table and buffer as they were, all of them.
  pub refused_changes_nothing : (r : Refusal) (old : List ℕ) → receive_of b bytes t ≡ Err r → (receive_table b bytes t ≡ t) × (receive_buffer b bytes t old ≡ old)
  unfolding receive_table receive_buffer
  refused_changes_nothing r old e = (
    sym (keeps_table (receive_of b bytes t) r (sender_of b.link (message_of bytes)) (message_of bytes) t e),
    sym (keeps_buffer (receive_of b bytes t) r (answer_to b (message_of bytes)) (message_of bytes) old e),
  )

  -- A duplicate changes no row, though it is acknowledged.
  pub duplicate_changes_no_row : (m : Message) (h : Head) (n : ℕ) → receive_of b bytes t ≡ as_duplicate m h n → receive_table b bytes t ≡ t
  unfolding receive_table table_by
  duplicate_changes_no_row m h n e = ap (λ (a : Result Received Refusal). table_by a (sender_of b.link (message_of bytes)) (message_of bytes) t) e

  -- No call changes another row than that of its name.
  pub touches_one_row : (j : ℕ) → (j ≡ row_for t (sender_of b.link (message_of bytes)) (message_of bytes).key → ⊥) → row_of (receive_table b bytes t) j ≡ row_of t j
  unfolding receive_table table_by
  touches_one_row j n = go (receive_of b bytes t)
    where
      by : (v : Verdict) → row_of (put_if_new v t (row_for t (sender_of b.link (message_of bytes)) (message_of bytes).key) (rolled_in t (sender_of b.link (message_of bytes)) (message_of bytes).key (message_of bytes).id).row) j ≡ row_of t j
      by Verdict.New = other_row t _ j _ n
      by Verdict.Duplicate = refl

      go : (a : Result Received Refusal) → row_of (table_by a (sender_of b.link (message_of bytes)) (message_of bytes) t) j ≡ row_of t j
      go (Ok a) = by a.verdict
      go (Err r) = refl

  -- Nor any other word than that row's three.
  pub touches_three_words : (k : ℕ)
      → let place : ℕ = row_for t (sender_of b.link (message_of bytes)) (message_of bytes).key in
      (k ≡ 3 * place → ⊥) → (k ≡ 3 * place + 1 → ⊥) → (k ≡ 3 * place + 2 → ⊥) → get_or (receive_table b bytes t) k 0 ≡ get_or t k 0
  unfolding receive_table table_by
  touches_three_words k n₀ n₁ n₂ = go (receive_of b bytes t)
    where
      by : (v : Verdict) → get_or (put_if_new v t (row_for t (sender_of b.link (message_of bytes)) (message_of bytes).key) (rolled_in t (sender_of b.link (message_of bytes)) (message_of bytes).key (message_of bytes).id).row) k 0 ≡ get_or t k 0
      by Verdict.New = other_word t _ k _ n₀ n₁ n₂
      by Verdict.Duplicate = refl

      go : (a : Result Received Refusal) → get_or (table_by a (sender_of b.link (message_of bytes)) (message_of bytes) t) k 0 ≡ get_or t k 0
      go (Ok a) = by a.verdict
      go (Err r) = refl

  -- ---- each refusal exactly when its condition is the first in the order to hold

  -- A refusal is given only where its condition is the first to hold in the whole order, 15 and all of reading included.
  pub receiving_refused_first : (r : Refusal) → receive_of b bytes t ≡ Err r
      → FirstToHold r (receiving_order b bytes (no_row t (sender_of b.link (message_of bytes)) (message_of bytes).key))
  unfolding receive_of
  receiving_refused_first r e = holds_first r _ (refused_of _ r _ _ _ _ e)

  -- And wherever it is.
  pub receiving_first_refused : (r : Refusal) → FirstToHold r (receiving_order b bytes (no_row t (sender_of b.link (message_of bytes)) (message_of bytes).key))
      → receive_of b bytes t ≡ Err r
  unfolding receive_of answer_of
  receiving_first_refused r w =
      ap (λ (q : Option Refusal). answer_of q (verdict_in t (sender_of b.link (message_of bytes)) (message_of bytes)) (answer_to b (message_of bytes)) (message_of bytes) (head_of (message_of bytes)))
      (first_holds r _ w)

  -- ---- the byte at fault

  -- Where the own node is somebody's (15 comes first), what reading refuses, receiving refuses with the same number and at the same byte.
  pub passes_on_what_reading_refuses : (r : Refusal) → nobody b.own ≡ false → read_of bytes ≡ Err r → receive_of b bytes t ≡ Err r
  passes_on_what_reading_refuses r own e = sym (not_read b bytes t own r e)

  -- A refusal that is not reading's points at no byte: its offset is 0.
  pub others_point_at_no_byte : (r : Refusal) → receive_of b bytes t ≡ Err r → (read_of bytes ≡ Err r) ⊎ (r.offset ≡ 0)
  others_point_at_no_byte r e = by_own (nobody b.own) refl
    where
      same : {p q : Refusal} → ◌≡◌ {A = Result Received Refusal} (Err p) (Err q) → p ≡ q
      same f = cc

      by_reading : nobody b.own ≡ false → (a : Result Taken Refusal) → read_of bytes ≡ a → (read_of bytes ≡ Err r) ⊎ (r.offset ≡ 0)
      by_reading own (Ok k) f = inr (after_reading_at_no_byte b k.message k.head (full_for_lem b bytes t k.message) _ r (is_read b bytes t own k.message k.head f ∙ e))
      by_reading own (Err q) f = inl (f ∙ ap Err (same (sym (passes_on_what_reading_refuses q own f) ∙ e)))

      by_own : (x : Bool) → nobody b.own ≡ x → (read_of bytes ≡ Err r) ⊎ (r.offset ≡ 0)
      by_own true own = inr (ap (λ (q : Refusal). q.offset) (sym (same (own_refused b bytes t own ∙ e))))
      by_own false own = by_reading own (read_of bytes) refl

  -- 22 is never said: a message that gets so far has an acknowledgement that can be refused for want of room only.
  pub unwritable_never : (r : Refusal) → receive_of b bytes t ≡ Err r → number r.reason ≡ 22 → ⊥
  unwritable_never r e n =
      never_22 b bytes (no_row t (sender_of b.link (message_of bytes)) (message_of bytes).key) r.reason
      (ap reason_of (first_holds r _ (receiving_refused_first r e))) n
