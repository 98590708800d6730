-- Saving after restoring gives the same bytes, and restoring after saving the same rows. Assumes nothing.
use Rattle.std.specs.Prelude.{Ok}
use Prim.Native.Nat.{ℕ, zero, suc, ◌≤◌, ◌<◌}
use mathlib.Core.Path.{◌≡◌, refl, ap, ap₂, ◌∙◌}
use mathlib.Core.Bool.{Bool, false, cond}
use mathlib.Core.List.{List, [], ◌∷◌}
use native.Mathlib.Omega.{arith}
use lib.ListN.{length, get_or}
use Rattle.wire.proofs.Digits.{AllBytes}
use Rattle.window.specs.declared.Row.{Row}
use Rattle.table.specs.Table.{rows, freed, row_of, kept, in_use, rows_in_use}
use Rattle.table.proofs.Kept.{kept_most, kept_alike}
use Rattle.records.specs.Records.{row_in, wrong_mark, bad_row, same_name}
use Rattle.records.specs.Saving.{records_of, saved_bytes}
use Rattle.records.specs.Restoring.{record_count, record_at, row_from, restore_of, restored_table}
use Rattle.records.specs.Sound.{SoundRow, NoneNamed, Sound}
use Rattle.records.proofs.Conditions.{placed_when}
use Rattle.records.proofs.Placed.{record_bytes_lem, restored_kept, is_taken}
use Rattle.records.proofs.Records.{mark_of_record, row_of_record, record_of_row}
use Rattle.records.proofs.Saved.{length_records, bytes_of_records, count_records, record_at_lem, length_record_at, records_in}

-- ---- restored, then saved

-- Saving after restoring gives the same bytes back.
pub save_after_restore : (bytes : List ℕ) → AllBytes bytes → (n : ℕ) → restore_of bytes ≡ Ok n → saved_bytes (restored_table bytes) ≡ bytes
unfolding row_in
save_after_restore bytes all n e =
    let k = is_taken bytes n e in
    ap records_of (restored_kept bytes all k.most in_use refl)
    ∙ records_in (record_count bytes) in_use (row_from bytes) bytes k.whole (λ i l. refl)
    (λ i l. record_of_row (record_at bytes i) (record_bytes_lem all i) (length_record_at bytes i l) (k.mark i l) (k.good i l))

-- ---- sound rows

sound_at : (rs : List Row) → Sound rs → (i : ℕ) → i < length rs → SoundRow (get_or rs i freed)
sound_at [] s i l = let z : ⊥ = omega arith in absurd z
sound_at (row ∷ rs) s zero l = s.0
sound_at (row ∷ rs) s (suc i) l = sound_at rs s.2 i (omega arith)

none_named_at : (row : Row) (rs : List Row) → NoneNamed row rs → (i : ℕ) → i < length rs → same_name row (get_or rs i freed) ≡ false
none_named_at row [] h i l = let z : ⊥ = omega arith in absurd z
none_named_at row (other ∷ rs) h zero l = h.0
none_named_at row (other ∷ rs) h (suc i) l = none_named_at row rs h.1 i (omega arith)

apart_at : (rs : List Row) → Sound rs → (i : ℕ) → i < length rs → (j : ℕ) → j < i → same_name (get_or rs j freed) (get_or rs i freed) ≡ false
apart_at [] s i l j b = let z : ⊥ = omega arith in absurd z
apart_at (row ∷ rs) s zero l j b = let z : ⊥ = omega arith in absurd z
apart_at (row ∷ rs) s (suc i) l zero b = none_named_at row rs s.1 i (omega arith)
apart_at (row ∷ rs) s (suc i) l (suc j) b = apart_at rs s.2 i (omega arith) j (omega arith)

-- all of them are in use
kept_sound : (rs : List Row) → Sound rs → kept (length rs) in_use (λ i. get_or rs i freed) ≡ rs
unfolding kept
kept_sound [] s = refl
kept_sound (row ∷ rs) s = ap₂ (λ (b : Bool) (qs : List Row). cond b (row ∷ qs) qs) s.0.used (kept_sound rs s.2)

-- ---- saved, then restored

module _ (rs : List Row) (s : Sound rs) where
  -- the row at a number is said by the record at that number
  row_at : (i : ℕ) → i < length rs → row_from (records_of rs) i ≡ get_or rs i freed
  row_at i l =
      let h = sound_at rs s i l in
      ap row_in (record_at_lem rs i l) ∙ row_of_record (get_or rs i freed) h.used h.node h.key h.highest h.marks

  -- the records of sound rows are taken
  pub records_placed : length rs ≤ rows → restore_of (records_of rs) ≡ Ok (length rs)
  records_placed most =
      let b = records_of rs in
      let n : record_count b ≡ length rs = count_records rs in
      placed_when b (omega (arith, length_records rs), omega arith)
      (λ i l. ap wrong_mark (record_at_lem rs i (omega arith)) ∙ mark_of_record (get_or rs i freed))
      (λ i l. ap bad_row (row_at i (omega arith)) ∙ (sound_at rs s i (omega arith)).good)
      (λ i l j m. ap₂ same_name (row_at j (omega arith)) (row_at i (omega arith)) ∙ apart_at rs s i (omega arith) j m)
      ∙ ap Ok n

  -- and are restored to those rows
  pub records_restored : length rs ≤ rows → rows_in_use (restored_table (records_of rs)) ≡ rs
  records_restored most =
      let n : record_count (records_of rs) ≡ length rs = count_records rs in
      restored_kept (records_of rs) (bytes_of_records rs) (omega arith) in_use refl
      ∙ ap (λ (k : ℕ). kept k in_use (row_from (records_of rs))) n
      ∙ kept_alike (length rs) in_use (λ i. get_or rs i freed) (row_from (records_of rs)) row_at
      ∙ kept_sound rs s

-- Restoring after saving takes the bytes, and gives the same rows in use, in the same order, with the same highest ids and marks.
pub restore_after_save : (t : List ℕ) → Sound (rows_in_use t) → (restore_of (saved_bytes t) ≡ Ok (length (rows_in_use t))) × (rows_in_use (restored_table (saved_bytes t)) ≡ rows_in_use t)
restore_after_save t s =
    let most = kept_most rows in_use (row_of t) in
    (records_placed (rows_in_use t) s most, records_restored (rows_in_use t) s most)
