-- Records one after the other, and the rows that they say. Assumes nothing.
use Prim.Native.Nat.{ℕ, zero, suc, ◌+◌, ◌*◌, ◌<◌}
use mathlib.Core.Path.{◌≡◌, refl, sym, ap, ap₂, ◌∙◌}
use mathlib.Core.Bool.{Bool, true, cond}
use mathlib.Core.List.{List, [], ◌∷◌, ◌++◌, append_assoc}
use native.Mathlib.Omega.{arith}
use lib.ListN.{length, get_or, take, drop, length-append, length-drop, take-append-drop}
use lib.Seq.{take_at, drop-append-add, drop-drop, length-take-le}
use Rattle.wire.proofs.Digits.{AllBytes, none, all_append}
use Rattle.window.specs.declared.Row.{Row}
use Rattle.table.specs.Table.{freed, kept}
use Rattle.records.specs.Records.{record_of}
use Rattle.records.specs.Saving.{records_of}
use Rattle.records.specs.Restoring.{record_count, record_at}
use Rattle.records.proofs.Records.{length_record, bytes_of_record}

-- ---- the records of rows

-- they are 18 bytes each
pub length_records : (rs : List Row) → length (records_of rs) ≡ 18 * length rs
unfolding records_of
length_records [] = refl
length_records (row ∷ rs) = omega (arith, length-append (record_of row) (records_of rs), length_record row, length_records rs)

pub bytes_of_records : (rs : List Row) → AllBytes (records_of rs)
unfolding records_of
bytes_of_records [] = none
bytes_of_records (row ∷ rs) = all_append (bytes_of_record row) (bytes_of_records rs)

-- those of some rows, then those of others
pub records_append : (rs qs : List Row) → records_of (rs ++ qs) ≡ records_of rs ++ records_of qs
unfolding records_of
records_append [] qs = refl
records_append (row ∷ rs) qs = ap (λ (l : List ℕ). record_of row ++ l) (records_append rs qs) ∙ sym (append_assoc (record_of row) (records_of rs) (records_of qs))

-- there are as many as rows
pub count_records : (rs : List Row) → record_count (records_of rs) ≡ length rs
count_records rs = omega (arith, length_records rs)

-- the record at a number is that of the row at that number
pub record_at_lem : (rs : List Row) (i : ℕ) → i < length rs → record_at (records_of rs) i ≡ record_of (get_or rs i freed)
unfolding records_of
record_at_lem [] i l = let z : ⊥ = omega arith in absurd z
record_at_lem (row ∷ rs) zero l = take_at (record_of row) (records_of rs) 18 (length_record row)
record_at_lem (row ∷ rs) (suc i) l =
    let n : 18 * suc i ≡ length (record_of row) + 18 * i = omega (arith, length_record row) in
    ap (λ (k : ℕ). take 18 (drop k (record_of row ++ records_of rs))) n
    ∙ ap (take 18) (drop-append-add (record_of row) (records_of rs) (18 * i))
    ∙ record_at_lem rs i (omega arith)

-- ---- bytes as records

-- each of them is whole
pub length_record_at : (bytes : List ℕ) (i : ℕ) → i < record_count bytes → length (record_at bytes i) ≡ 18
length_record_at bytes i l = length-take-le 18 (drop (18 * i) bytes) (omega (arith, length-drop (18 * i) bytes))

-- the records behind the first
record_behind : (bytes : List ℕ) (i : ℕ) → record_at (drop 18 bytes) i ≡ record_at bytes (suc i)
record_behind bytes i =
    let n : 18 + 18 * i ≡ 18 * suc i = omega arith in
    ap (take 18) (drop-drop (18 * i) 18 bytes ∙ ap (λ (k : ℕ). drop k bytes) n)

-- bytes are the records of the rows f 0 to f (n - 1), if each record in them is that of the row at its number
pub records_in : (n : ℕ) (p : Row → Bool) (f : ℕ → Row) (bytes : List ℕ) → length bytes ≡ 18 * n → ((i : ℕ) → i < n → p (f i) ≡ true) → ((i : ℕ) → i < n → record_of (f i) ≡ record_at bytes i)
    → records_of (kept n p f) ≡ bytes
unfolding records_of kept
records_in zero p f [] l u h = refl
records_in zero p f (b ∷ bytes) l u h = let z : ⊥ = omega arith in absurd z
records_in (suc n) p f bytes l u h =
    let rest = records_in n p (λ k. f (suc k)) (drop 18 bytes) (length-drop 18 bytes ∙ omega arith) (λ i g. u (suc i) (omega arith)) (λ i g. h (suc i) (omega arith) ∙ sym (record_behind bytes i)) in
    ap (λ (b : Bool). records_of (cond b (f 0 ∷ kept n p (λ k. f (suc k))) (kept n p (λ k. f (suc k))))) (u 0 (omega arith))
    ∙ ap₂ (λ (a b : List ℕ). a ++ b) (h 0 (omega arith)) rest
    ∙ take-append-drop 18 bytes
