-- What the loop over the records knows: the rows of those that came are put, and the others are left; and that there is a row for each.
-- Assumes nothing.
use Prim.Native.Nat.{ℕ, suc, ◌+◌, ◌*◌, ◌≤◌, ◌<◌}
use mathlib.Core.Path.{◌≡◌, refl, sym, ap, ◌∙◌}
use mathlib.Core.List.{List, ◌++◌}
use native.Mathlib.Omega.{arith}
use lib.ListN.{length, take, drop, length-append, length-drop}
use lib.Seq.{take_at, drop_at, drop-drop}
use Rattle.std.specs.Prelude.{Option, Some, None, Ok}
use Rattle.message.specs.Order.{first, passed}
use Rattle.message.specs.declared.answers.Reason.{Reason}
use Rattle.message.proofs.Order.{none_first}
use Rattle.window.specs.declared.Row.{Row}
use Rattle.table.specs.Table.{rows, with_row, put_at}
use Rattle.table.proofs.Words.{put_within}
use Rattle.records.specs.Records.{row_in, front_row}
use Rattle.records.specs.Restoring.{record_count, row_from, restoring_order, with_rows}
use Rattle.records.proofs.Conditions.{right_says}
use Rattle.records.proofs.Fronts.{front_row_lem}

-- the first n are put; `rest` is what is left of the bytes, in parts of so many
pub record Placing (bytes old now : List ℕ) (n : ℕ) (rest : List ℕ) (size : ℕ) : Type 0 where
  pub put : now ≡ with_rows n (row_from bytes) old
  pub left : rest ≡ drop (18 * n) bytes
  pub came : 18 * n ≤ length bytes
  pub parts : size ≡ 18

pub none_placed : (bytes old rest : List ℕ) (n size : ℕ) → n ≡ 0 → rest ≡ bytes → size ≡ 18 → Placing bytes old old n rest size
unfolding with_rows
none_placed bytes old rest n size z e p =
    record {
      put = ap (λ (k : ℕ). with_rows k (row_from bytes) old) (sym z);
      left = e ∙ ap (λ (k : ℕ). drop (18 * k) bytes) (sym z);
      came = omega arith;
      parts = p;
    }

module _ {bytes old now rest : List ℕ} {n size : ℕ} (w : Placing bytes old now n rest size) where
  -- one more
  pub one_placed : (x rest' after : List ℕ) (number n' size' : ℕ) (row : Row) → record_count bytes ≤ rows → rest ≡ x ++ rest' → length x ≡ size → number ≡ n → n' ≡ n + 1 → size' ≡ size → row ≡ front_row x
      → after ≡ put_at now number row → Placing bytes old after n' rest' size'
  unfolding with_rows
  one_placed x rest' after number n' size' row most cut k at next same r p =
      let l : length x ≡ 18 = omega (arith, w.parts) in
      let long : 18 * n + 18 ≤ length bytes = omega (arith, l, w.came, length-drop (18 * n) bytes, ap length w.left, ap length cut, length-append x rest') in
      let s : n' ≡ suc n = omega arith in
      let t : 18 * n' ≡ 18 * n + 18 = omega arith in
      let read : row ≡ row_from bytes n =
      r
      ∙ front_row_lem x (omega (arith, l))
      ∙ ap row_in (sym (take_at x rest' 18 l) ∙ ap (take 18) (sym cut ∙ w.left)) in
      record {
        put =
            p
            ∙ ap (λ (k : ℕ). put_at now k row) at
            ∙ put_within now n row (omega arith)
            ∙ (λ j. with_row (w.put j) n (read j))
            ∙ sym (ap (λ (k : ℕ). with_rows k (row_from bytes) old) s);
        left =
            sym (drop_at x rest' 18 l)
            ∙ ap (drop 18) (sym cut ∙ w.left)
            ∙ drop-drop 18 (18 * n) bytes
            ∙ sym (ap (λ (k : ℕ). drop k bytes) t);
        came = omega (arith, long);
        parts = same ∙ w.parts;
      }

  -- past the last
  pub all_came : length rest < size → n ≡ record_count bytes
  all_came l = omega (arith, w.came, w.parts, length-drop (18 * n) bytes, ap length w.left)

-- ---- bytes with nothing wrong

-- there is a row for each record
pub row_for_each : (bytes : List ℕ) → passed (first (restoring_order bytes)) ≡ Ok tt → record_count bytes ≤ rows
unfolding restoring_order
row_for_each bytes e = (right_says bytes (none_first (restoring_order bytes) (none (first (restoring_order bytes)) e)).0).1
  where
    none : (given : Option Reason) → passed given ≡ Ok tt → given ≡ None
    none None p = refl
    none (Some reason) p = absurd (cc)
