-- What the two loops over the rows know at a number, and how they go on: the rows before it that are in use have been counted, or their records
-- written; and when there is room for all. Assumes nothing.
use Prim.Native.Nat.{ℕ, zero, suc, ◌+◌, ◌-◌, ◌*◌, ◌≤◌, ◌<◌}
use native.Mathlib.Nat.{le_refl}
use mathlib.Core.Path.{◌≡◌, sym, ap, subst, subst⁻¹, ◌∙◌}
use mathlib.Core.Bool.{Bool, true, false, cond}
use mathlib.Core.List.{List, [], ◌∷◌, ◌++◌, append-nil}
use native.Mathlib.Omega.{arith}
use borrow.Author.Tests.{le-ltb}
use lib.Dec.{ltb}
use lib.ListN.{length, take, drop, length-append}
use lib.Seq.{sets, length-sets}
use Rattle.window.specs.declared.Row.{Row}
use Rattle.wire.proofs.Runs.{Wrote}
use Rattle.saving.proofs.Filled.{then_put}
use Rattle.table.specs.Table.{rows, row_of, row_at, kept, in_use, rows_in_use}
use Rattle.table.proofs.Words.{row_within}
use Rattle.table.proofs.Kept.{kept_next, kept_most}
use Rattle.records.specs.Records.{record_of}
use Rattle.records.specs.Saving.{records_of, saved_bytes}
use Rattle.records.proofs.Records.{length_record}
use Rattle.records.proofs.Saved.{length_records, records_append}

module _ (t : List ℕ) (n : ℕ) (row : Row) (l : n < rows) (e : row ≡ row_at t n) where
  -- the rows up to the one at this number
  next : kept (n + 1) in_use (row_of t) ≡ kept n in_use (row_of t) ++ cond row.used (row ∷ []) []
  next =
      let s : n + 1 ≡ suc n = omega arith in
      ap (λ (k : ℕ). kept k in_use (row_of t)) s
      ∙ kept_next n in_use (row_of t)
      ∙ ap (λ (r : Row). kept n in_use (row_of t) ++ cond r.used (r ∷ []) []) (sym (e ∙ row_within t n l))

  -- it is in use
  pub next_used : row.used ≡ true → kept (n + 1) in_use (row_of t) ≡ kept n in_use (row_of t) ++ (row ∷ [])
  next_used u = next ∙ ap (λ (b : Bool). kept n in_use (row_of t) ++ cond b (row ∷ []) []) u

  -- it is free
  pub next_free : row.used ≡ false → kept (n + 1) in_use (row_of t) ≡ kept n in_use (row_of t)
  next_free u = next ∙ ap (λ (b : Bool). kept n in_use (row_of t) ++ cond b (row ∷ []) []) u ∙ append-nil (kept n in_use (row_of t))

-- ---- counting

abbrev pub Counted : List ℕ → ℕ → ℕ → Type 0
Counted t n count = count ≡ length (kept n in_use (row_of t))

module _ (t : List ℕ) (n count : ℕ) (row : Row) (l : n < rows) (e : row ≡ row_at t n) (c : Counted t n count) where
  pub count_used : row.used ≡ true → Counted t (n + 1) (count + 1)
  count_used u =
      let a = ap length (next_used t n row l e u) in
      let b = length-append (kept n in_use (row_of t)) (row ∷ []) in
      omega (arith, a, b, c)

  pub count_free : row.used ≡ false → Counted t (n + 1) count
  count_free u = c ∙ sym (ap length (next_free t n row l e u))

pub counted_most : (t : List ℕ) (n count : ℕ) → n ≤ rows → Counted t n count → count ≤ 32
counted_most t n count h c = omega (arith, h, c, kept_most n in_use (row_of t))

pub counted_all : (t : List ℕ) (n count : ℕ) → n ≤ rows → rows ≤ n → Counted t n count → (count ≡ length (rows_in_use t)) × (count ≤ 32)
counted_all t n count k h c =
    let s : n ≡ 32 = omega (arith, k, h) in
    let a : count ≡ length (rows_in_use t) = c ∙ ap (λ (j : ℕ). length (kept j in_use (row_of t))) s in
    (a, omega (arith, a, kept_most 32 in_use (row_of t)))

-- ---- writing

abbrev pub Written : List ℕ → List ℕ → List ℕ → ℕ → ℕ → Type 0
Written t old b n at = Wrote old 0 b at (records_of (kept n in_use (row_of t)))

one : (row : Row) → records_of (row ∷ []) ≡ record_of row
unfolding records_of
one row = append-nil (record_of row)

-- fewer rows, fewer of them in use
fewer : (p : Row → Bool) (f : ℕ → Row) (m n : ℕ) → length (kept m p f) ≤ length (kept (m + n) p f)
fewer p f m zero = let s : m + 0 ≡ m = omega arith in subst⁻¹ (λ (k : ℕ). length (kept m p f) ≤ length (kept k p f)) s (le_refl (length (kept m p f)))
fewer p f m (suc n) =
    let s : m + suc n ≡ suc (m + n) = omega arith in
    let a = ap length (kept_next (m + n) p f) in
    let b = length-append (kept (m + n) p f) (cond (p (f (m + n))) (f (m + n) ∷ []) []) in
    subst⁻¹ (λ (k : ℕ). length (kept m p f) ≤ length (kept k p f)) s (omega (arith, fewer p f m n, a, b))

module _ (t old b : List ℕ) (n at : ℕ) (row : Row) (l : n < rows) (e : row ≡ row_at t n) (w : Written t old b n at) (fits : length (saved_bytes t) ≤ length old) where
  -- a row in use has room for its record
  pub room_for : row.used ≡ true → at + 18 ≤ length old
  room_for u =
      let a = ap length (next_used t n row l e u) in
      let c = length-append (kept n in_use (row_of t)) (row ∷ []) in
      let m = fewer in_use (row_of t) (n + 1) (32 - (n + 1)) in
      let s : n + 1 + (32 - (n + 1)) ≡ 32 = omega (arith, l) in
      let k : length (kept (n + 1) in_use (row_of t)) ≤ length (rows_in_use t) = subst (λ (j : ℕ). length (kept (n + 1) in_use (row_of t)) ≤ length (kept j in_use (row_of t))) s m in
      omega (arith, a, c, k, w.place, length_records (kept n in_use (row_of t)), length_records (rows_in_use t), fits)

  -- it is put behind those before
  pub write_used : (last : List ℕ) → row.used ≡ true → last ≡ record_of row
      → Written t old (take at b ++ (last ++ drop (at + 18 - at) (drop at b))) (n + 1) (at + 18)
  write_used last u p =
      let more : records_of (kept (n + 1) in_use (row_of t)) ≡ records_of (kept n in_use (row_of t)) ++ record_of row =
      ap records_of (next_used t n row l e u) ∙ records_append (kept n in_use (row_of t)) (row ∷ []) ∙ ap (λ (r : List ℕ). records_of (kept n in_use (row_of t)) ++ r) (one row) in
      subst⁻¹ (Wrote old 0 (take at b ++ (last ++ drop (at + 18 - at) (drop at b))) (at + 18)) more (then_put w (record_of row) last 18 (length_record row) (room_for u) p)

  -- a free row is passed over
  pub write_free : row.used ≡ false → Written t old b (n + 1) at
  write_free u = subst⁻¹ (λ (rs : List Row). Wrote old 0 b at (records_of rs)) (next_free t n row l e u) w

-- the same, by other names
pub written_as : (t old b : List ℕ) (n at : ℕ) (c : List ℕ) (to : ℕ) → c ≡ b → to ≡ at → Written t old b n at → Written t old c n to
written_as t old b n at c to e f w = subst⁻¹ (λ (x : List ℕ). Written t old x n to) e (subst⁻¹ (λ (k : ℕ). Written t old b n k) f w)

-- all rows have been passed: the records are the saved bytes
pub written_all : (t old b : List ℕ) (n at : ℕ) → n ≤ rows → rows ≤ n → Written t old b n at → (at ≡ length (saved_bytes t)) × (b ≡ sets old 0 (saved_bytes t))
written_all t old b n at k h w =
    let s : n ≡ 32 = omega (arith, k, h) in
    let v = subst (λ (m : ℕ). Written t old b m at) s w in
    (omega (arith, v.place), v.buffer)

-- the buffer keeps its length
pub written_length : (t old b : List ℕ) (n at : ℕ) → Written t old b n at → length b ≡ length old
written_length t old b n at w = ap length w.buffer ∙ length-sets old 0 (records_of (kept n in_use (row_of t)))

-- and the place within it is a small number
pub written_small : (t old b : List ℕ) (n at : ℕ) → n ≤ rows → Written t old b n at → at ≤ 576
written_small t old b n at l w = omega (arith, l, w.place, length_records (kept n in_use (row_of t)), kept_most n in_use (row_of t))

-- ---- room

module _ (t : List ℕ) (room : ℕ) where
  -- for all rows there is room, so for those in use
  pub room_for_all : 576 ≤ room → false ≡ ltb room (length (saved_bytes t))
  room_for_all l = sym (le-ltb room (length (saved_bytes t)) (omega (arith, l, length_records (rows_in_use t), kept_most 32 in_use (row_of t))))

  -- so many rows take so many bytes
  pub room_by_count : (count : ℕ) → count ≡ length (rows_in_use t) → ltb room (18 * count) ≡ ltb room (length (saved_bytes t))
  room_by_count count e = let s : 18 * count ≡ length (saved_bytes t) = omega (arith, e, length_records (rows_in_use t)) in ap (ltb room) s
