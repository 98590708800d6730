-- The ids in bytes, one after another, and how many bytes are taken. Assumes nothing.
use mathlib.Core.Path.{◌≡◌, refl, sym, ap, ap₂, ◌∙◌}
use mathlib.Core.Bool.{Bool, cond}
use mathlib.Core.List.{List, [], ◌∷◌}
use Prim.Native.Nat.{ℕ, zero, suc, ◌+◌, ◌-◌, ◌*◌, ◌/◌, ◌≤◌, ◌<◌}
use native.Mathlib.Omega.{arith}
use lib.ListN.{length, take, drop, length-drop}
use lib.Seq.{drop-drop}
use Rattle.wire.specs.Bytes.{little, front}
use Rattle.wire.proofs.Digits.{little_of}
use Rattle.window.specs.History.{Ids}
use Rattle.widths.specs.Trial.{ids_within, ids_of, recorded, bad_ids, counted_of, trial_of}
use Rattle.std.specs.Prelude.{Ok, Err, map}
use Rattle.std.specs.Simd.{first_chunks}
use Rattle.std.proofs.lemmas.List.{length-take-le, take_all}
use Rattle.wire.proofs.Fronts.{front_whole}
use Rattle.widths.specs.declared.Refusal.TheVariants.{BadIds}

-- four bytes more are an id, and fewer are none
ids_more : (bytes : List ℕ) → 4 ≤ length bytes → ids_of bytes ≡ little (take 4 bytes) ∷ ids_of (drop 4 bytes)
unfolding ids_of ids_within
ids_more bytes h =
    let l : length (drop 4 bytes) ≡ length bytes - 4 = length-drop 4 bytes in
    let e : length bytes / 4 ≡ suc (length (drop 4 bytes) / 4) = omega arith in
    ap (λ (count : ℕ). ids_within count bytes) e

pub ids_none : (bytes : List ℕ) → length bytes < 4 → ids_of bytes ≡ []
unfolding ids_of ids_within
ids_none bytes h = let e : length bytes / 4 ≡ 0 = omega arith in ap (λ (count : ℕ). ids_within count bytes) e

-- there are as many as whole ones fit
within_length : (count : ℕ) (bytes : List ℕ) → length (ids_within count bytes) ≡ count
unfolding ids_within
within_length zero bytes = refl
within_length (suc count) bytes = ap suc (within_length count (drop 4 bytes))

pub ids_length : (bytes : List ℕ) → length (ids_of bytes) ≡ length bytes / 4
unfolding ids_of
ids_length bytes = within_length (length bytes / 4) bytes

-- the ids are those of the chunks of four bytes
abbrev pub id_in : List ℕ → ℕ
id_in chunk = little (front 4 chunk)

chunk_id : (bytes : List ℕ) → 4 ≤ length bytes → little (take 4 bytes) ≡ id_in (take 4 bytes)
chunk_id bytes h =
    let l = length-take-le 4 bytes h in
    ap little (sym (front_whole 4 (take 4 bytes) (omega (arith, l)) ∙ take_all 4 (take 4 bytes) (omega (arith, l))))

pub within_chunks : (count : ℕ) (bytes : List ℕ) → 4 * count ≤ length bytes → ids_within count bytes ≡ map id_in (first_chunks 4 count bytes)
unfolding ids_within
within_chunks zero bytes h = refl
within_chunks (suc count) bytes h =
    let l = length-drop 4 bytes in
    ap₂ (λ (x : ℕ) (xs : List ℕ). x ∷ xs) (chunk_id bytes (omega arith)) (within_chunks count (drop 4 bytes) (omega (arith, l)))

pub ids_chunks : (bytes : List ℕ) → ids_of bytes ≡ map id_in (first_chunks 4 (length bytes / 4) bytes)
unfolding ids_of
ids_chunks bytes = within_chunks (length bytes / 4) bytes (omega arith)

-- recorded ids are read back
pub recorded_length : (ids : List ℕ) → length (recorded ids) ≡ 4 * length ids
recorded_length [] = refl
recorded_length (id ∷ ids) = omega (arith, recorded_length ids)

pub recorded_back : (ids : List ℕ) → Ids ids → ids_of (recorded ids) ≡ ids
recorded_back [] h = ids_none [] (omega arith)
recorded_back (id ∷ ids) h =
    ids_more (recorded (id ∷ ids)) (omega arith) ∙ ap₂ (λ (x : ℕ) (xs : List ℕ). x ∷ xs) (little_of 4 id (omega (arith, h.0))) (recorded_back ids h.1)

-- four bytes more at a place
pub ids_on : (bytes : List ℕ) (at : ℕ) → at + 4 ≤ length bytes → ids_of (drop at bytes) ≡ little (take 4 (drop at bytes)) ∷ ids_of (drop (at + 4) bytes)
ids_on bytes at h =
    let l : length (drop at bytes) ≡ length bytes - at = length-drop at bytes in
    ids_more (drop at bytes) (omega arith)
    ∙ ap (λ (rest : List ℕ). little (take 4 (drop at bytes)) ∷ ids_of rest) (drop-drop 4 at bytes)

-- the number of bytes decides whether they are counted
pub decided : (bytes : List ℕ) (b : Bool) → bad_ids (length bytes) ≡ b → trial_of bytes ≡ cond b (Err BadIds) (Ok (counted_of (ids_of bytes)))
unfolding trial_of
decided bytes b e = ap (λ (x : Bool). cond x (Err BadIds) (Ok (counted_of (ids_of bytes)))) e
