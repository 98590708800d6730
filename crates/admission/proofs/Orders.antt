-- The order of admission, part by part, and what follows a refusal. Assumes nothing.
use Rattle.std.specs.Prelude.{Option, Some, Result, Ok, Err}
use Prim.Native.Nat.{ℕ, ◌≤◌, ◌<◌}
use mathlib.Core.Path.{◌≡◌, refl, sym, ap, ap₂, subst, ◌∙◌}
use mathlib.Core.Bool.{Bool, true, false, not, ◌&&◌, cond}
use mathlib.Core.List.{List, [], ◌∷◌}
use borrow.Author.Tests.{le-leb, lt-leb}
use lib.Dec.{eqb}
use lib.ListN.{length, drop}
use Rattle.message.specs.Order.{Condition, ◌when◌, first_refusal}
use Rattle.message.specs.Layout.{only}
use Rattle.message.specs.Refusals.{total}
use Rattle.message.specs.Reasons.{number, refusal}
use Rattle.message.specs.Answers.{unless, with_head}
use Rattle.message.specs.Answers as written
use Rattle.message.specs.declared.value.Message.{Message}
use Rattle.message.specs.declared.answers.Head.{Head}
use Rattle.message.specs.declared.answers.Refusal.{Refusal}
use Rattle.message.specs.declared.answers.Reason.TheVariants.{NoRoom, Full, Unwritable}
use Rattle.message.proofs.Logic.{clash}
use Rattle.judge.proofs.Clear.{written}
use Rattle.window.specs.declared.Row.{Row}
use Rattle.window.specs.declared.Rolled.{Rolled}
use Rattle.window.specs.declared.Verdict.{Verdict}
use Rattle.admission.specs.declared.answers.Received.{Received}
use Rattle.table.specs.Table.{rows, with_row}
use Rattle.reply.specs.Acknowledgement.{acknowledgement_bytes, acknowledging, blank_check}
use Rattle.reply.specs.Planning.{unwritable, lacks_room, reasoned, planned_of}
use Rattle.admission.specs.Acknowledgement.{answered_by}
use Rattle.admission.proofs.Answered.{differ, unwritten}
use Rattle.admission.specs.Admission.{admit_of, full_of, row_for, rolled_in, no_row, admission_order, verdict_in, received, answer_of, put_if_new, table_after, table_by, buffer_with, buffer_by}

-- ---- a refusal

-- table and buffer are as they were
pub keeps_table : (answer : Result Received Refusal) (r : Refusal) (sender : ℕ) (m : Message) (t : List ℕ) → answer ≡ Err r → t ≡ table_by answer sender m t
unfolding table_by
keeps_table answer r sender m t e = sym (ap (λ (a : Result Received Refusal). table_by a sender m t) e)

pub keeps_buffer : (answer : Result Received Refusal) (r : Refusal) (value m : Message) (old : List ℕ) → answer ≡ Err r → old ≡ buffer_by answer value m old
unfolding buffer_by
keeps_buffer answer r value m old e = sym (ap (λ (a : Result Received Refusal). buffer_by a value m old) e)

-- all three, of an answer that refuses
pub refuses_all : (r : Refusal) (value : Message) (sender : ℕ) (m : Message) (h : Head) (t old : List ℕ) (answer : Result Received Refusal) (q : Option Refusal) → q ≡ Some r
    → answer ≡ Err r
    → (answer ≡ answer_of q (verdict_in t sender m) value m h) × ((t ≡ table_by answer sender m t) × (old ≡ buffer_by answer value m old))
unfolding answer_of
refuses_all r value sender m h t old answer q e a =
    (a ∙ sym (ap (λ (p : Option Refusal). answer_of p (verdict_in t sender m) value m h) e), (keeps_table answer r sender m t a, keeps_buffer answer r value m old a))

-- ---- 22 and 19, then 20

module _ (value : Message) (room sender : ℕ) (m : Message) (h : Head) (t : List ℕ) where
  -- a plan that is refused is the answer
  pub not_planned : (r : Refusal) → planned_of m.wants value room ≡ Err r
      → Err r ≡ admit_of value room sender (with_head m h) t
  unfolding planned_of admission_order answer_of
  not_planned r = go m.wants (acknowledging value room)
    where
      rest : List Condition
      rest = Full when no_row t sender m.key ∷ []

      by : (b : Bool) (v : Verdict) (n : ℕ) → ◌≡◌ {A = Result ℕ Refusal} (Err (refusal (cond b NoRoom Unwritable))) (Err r)
          → Err r ≡ unless (first_refusal (Unwritable when (not b) ∷ NoRoom when b ∷ rest)) (received v m h n)
      by true v n e = cc
      by false v n e = cc

      go : (w : Bool) (a : Result ℕ Refusal) → cond w (reasoned a) (Ok 0) ≡ Err r
          → Err r ≡ unless (first_refusal (Unwritable when (w && unwritable a) ∷ NoRoom when (w && lacks_room a) ∷ rest)) (received (rolled_in t sender m.key m.id).verdict m h (only w (total value [])))
      go true (Ok n) e = differ e
      go true (Err q) e = by (eqb (number q.reason) 19) (rolled_in t sender m.key m.id).verdict (total value []) e
      go false a e = differ e

  -- what a plan says that is not refused
  pub record Planned (n : ℕ) : Type 0 where
    pub order : first_refusal (admission_order value room m (no_row t sender m.key)) ≡ first_refusal (Full when no_row t sender m.key ∷ [])
    pub length : only m.wants (total value []) ≡ n
    pub writes : m.wants ≡ true → acknowledging value room ≡ Ok n

  pub is_planned : (n : ℕ) → planned_of m.wants value room ≡ Ok n → Planned n
  unfolding planned_of admission_order acknowledging
  is_planned n e =
      record {
        order = go.0;
        length = go.1;
        writes = go.2;
      }
    where
      rest : List Condition
      rest = Full when no_row t sender m.key ∷ []

      Says : Bool → (Result ℕ Refusal) → Type 0
      Says w a =
          (first_refusal (Unwritable when (w && unwritable a) ∷ NoRoom when (w && lacks_room a) ∷ rest) ≡ first_refusal rest)
          × (only w (total value []) ≡ n)
          × (w ≡ true → a ≡ Ok n)

      by : (w : Bool) (a : Result ℕ Refusal) → (a ≡ acknowledging value room) → cond w (reasoned a) (Ok 0) ≡ Ok n → Says w a
      by true (Ok k) q e = (refl, (written value [] (blank_check value) room n (sym q ∙ e)).0, λ _. e)
      by true (Err r) q e = differ (sym e)
      by false a q e = (refl, (let k : 0 ≡ n = cc in k), λ w. clash false w refl)

      go : Says m.wants (acknowledging value room)
      go = by m.wants (acknowledging value room) refl e

-- ---- a message that is let in

module _ (value : Message) (sender : ℕ) (m : Message) (h : Head) (t old : List ℕ) (n : ℕ) (p : Planned value (length old) sender m h t n) where
  -- 20
  pub full : rows ≤ row_for t sender m.key → first_refusal (admission_order value (length old) m (no_row t sender m.key)) ≡ Some (refusal Full)
  full l = p.order ∙ ap (λ (b : Bool). first_refusal (Full when b ∷ [])) (le-leb rows (row_for t sender m.key) l)

  -- no refusal
  pub admitted : row_for t sender m.key < rows
      → Ok (received (rolled_in t sender m.key m.id).verdict m h n) ≡ answer_of (first_refusal (admission_order value (length old) m (no_row t sender m.key))) (verdict_in t sender m) value m h
  unfolding answer_of
  admitted l =
      sym (ap₂ (λ (r : Option Refusal) (i : ℕ). unless r (received (rolled_in t sender m.key m.id).verdict m h i))
      (p.order ∙ ap (λ (b : Bool). first_refusal (Full when b ∷ [])) (lt-leb rows (row_for t sender m.key) l))
      p.length)

  -- the acknowledgement stands at the front of the buffer
  pub answered : (verdict : Verdict) → answered_by m.wants value old ≡ buffer_by (Ok (received verdict m h n)) value m old
  unfolding answered_by buffer_by
  answered verdict = go m.wants p.length p.writes
    where
      go : (w : Bool) → only w (total value []) ≡ n → (w ≡ true → acknowledging value (length old) ≡ Ok n)
          → answered_by w value old ≡ buffer_with (Ok (received verdict m h n)) (cond w (acknowledgement_bytes value) []) old
      go true l f = ap (λ (a : Result ℕ Refusal). written.buffer_after a (acknowledgement_bytes value) old) (f refl)
      go false l f = ap (λ (k : ℕ). drop k old) l

  -- all three, of the row's place and the row rolled there
  pub settles : (place : ℕ) (rolled : Rolled) (answer : Result Received Refusal) (after buffer : List ℕ) → place ≡ row_for t sender m.key → rolled ≡ rolled_in t sender m.key m.id → place < rows
      → answer ≡ Ok (received rolled.verdict m h n) → after ≡ table_after answer t place rolled.row → buffer ≡ answered_by m.wants value old
      → (answer ≡ admit_of value (length old) sender (with_head m h) t) × ((after ≡ table_by answer sender m t) × (buffer ≡ buffer_by answer value m old))
  unfolding table_by
  settles place rolled answer after buffer ep er l ea et eb =
      let a = ea ∙ ap (λ (x : Rolled). Ok (received x.verdict m h n)) er in (
        a ∙ admitted (subst (λ (i : ℕ). i < rows) ep l),
        (
          et ∙ ap₂ (λ (i : ℕ) (x : Rolled). table_after answer t i x.row) ep er,
          eb ∙ answered (rolled_in t sender m.key m.id).verdict ∙ ap (λ (x : Result Received Refusal). buffer_by x value m old) (sym a),
        ),
      )

-- a new message puts its row, and a duplicate does not
pub puts : (v : Verdict) (t : List ℕ) (place : ℕ) (row : Row) → v ≡ Verdict.New → with_row t place row ≡ put_if_new v t place row
puts v t place row e = ap (λ (u : Verdict). put_if_new u t place row) (sym e)

pub puts_not : (v : Verdict) (t : List ℕ) (place : ℕ) (row : Row) → v ≡ Verdict.Duplicate → t ≡ put_if_new v t place row
puts_not v t place row e = ap (λ (u : Verdict). put_if_new u t place row) (sym e)

-- ---- a message that is not let in

module _ (value : Message) (sender : ℕ) (m : Message) (h : Head) (t old : List ℕ) (w : Result ℕ Refusal) (answer : Result Received Refusal) where
  -- its acknowledgement cannot be written, and the buffer is what that leaves
  pub unanswered : (r : Refusal) (buffer : List ℕ) → w ≡ planned_of m.wants value (length old) → w ≡ Err r → buffer ≡ answered_by m.wants value old → answer ≡ Err r
      → (answer ≡ admit_of value (length old) sender (with_head m h) t) × ((t ≡ table_by answer sender m t) × (buffer ≡ buffer_by answer value m old))
  unanswered r buffer ew er eb ea =
      let p = sym ew ∙ er in
      (ea ∙ not_planned value (length old) sender m h t r p, (keeps_table answer r sender m t ea, eb ∙ unwritten m.wants value old r p ∙ keeps_buffer answer r value m old ea))

  -- all rows are in use
  pub no_row_lem : w ≡ planned_of m.wants value (length old) → rows ≤ row_for t sender m.key → answer ≡ full_of w
      → (answer ≡ admit_of value (length old) sender (with_head m h) t) × ((t ≡ table_by answer sender m t) × (old ≡ buffer_by answer value m old))
  no_row_lem ew l = go w ew
    where
      go : (a : Result ℕ Refusal) → a ≡ planned_of m.wants value (length old) → answer ≡ full_of a
          → (answer ≡ admit_of value (length old) sender (with_head m h) t) × ((t ≡ table_by answer sender m t) × (old ≡ buffer_by answer value m old))
      go (Ok n) e ea = refuses_all (refusal Full) value sender m h t old answer _ (full value sender m h t old n (is_planned value (length old) sender m h t n (sym e)) l) ea
      go (Err r) e ea = (ea ∙ not_planned value (length old) sender m h t r (sym e), (keeps_table answer r sender m t ea, keeps_buffer answer r value m old ea))
