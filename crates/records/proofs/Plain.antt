-- What the conditions of one record and of two rows come to in plain terms. Assumes nothing.
use Prim.Native.Nat.{ℕ, ◌+◌, ◌*◌, ◌-◌, ◌/◌, ◌%◌, ◌^◌, ◌≤◌}
use mathlib.Core.Path.{◌≡◌, refl, sym, ap, ap₂, ◌∙◌}
use mathlib.Core.Bool.{Bool, true, false, not, ◌&&◌, ◌||◌}
use mathlib.Core.List.{List}
use mathlib.Core.Logic.{◌⊎◌, inl, inr, ⊎_elim}
use native.Mathlib.Omega.{arith}
use borrow.Author.Tests.{eqb-true, eqb-false, not-false, eq-eqb, ne_eqb}
use lib.Dec.{eqb}
use lib.ListN.{length, get_or}
use Rattle.wire.specs.Bytes.{little, front}
use Rattle.wire.proofs.Digits.{AllBytes}
use Rattle.wire.proofs.Fronts.{front_part}
use Rattle.wire.proofs.Parts.{byte_low}
use Rattle.message.specs.Refusals.{nobody, bad_key_type}
use Rattle.message.specs.Value.{bits}
use Rattle.message.proofs.Logic.{clash, or_false, or_true, when_true}
use Rattle.window.specs.Rows.{marks_held}
use Rattle.window.specs.Rule.{bit_at}
use Rattle.window.specs.declared.Row.{Row}
use Rattle.records.specs.Records.{record_mark, wrong_mark, bad_row, same_name}

-- ---- the mark

-- It is right exactly when the first two bytes are 52 57.
pub right_mark_says : (r : List ℕ) → AllBytes r → 2 ≤ length r → wrong_mark r ≡ false → (get_or r 0 0 ≡ 0x52) × (get_or r 1 0 ≡ 0x57)
right_mark_says r all l w =
    let m : get_or r 0 0 + 256 * (get_or r 1 0 + 256 * 0) ≡ record_mark = ap little (sym (front_part 2 r l)) ∙ eqb-true _ _ (not-false _ w) in
    (omega (arith, m, byte_low all 0, byte_low all 1), omega (arith, m, byte_low all 0, byte_low all 1))

pub right_mark_when : (r : List ℕ) → 2 ≤ length r → get_or r 0 0 ≡ 0x52 → get_or r 1 0 ≡ 0x57 → wrong_mark r ≡ false
right_mark_when r l a b =
    let m : get_or r 0 0 + 256 * (get_or r 1 0 + 256 * 0) ≡ record_mark = omega arith in
    ap not (eq-eqb (little (front 2 r)) record_mark (ap little (front_part 2 r l) ∙ m))

-- ---- the name

-- Two rows have one name exactly when node and key id are equal.
pub same_name_says : (a b : Row) → same_name a b ≡ true → (a.node ≡ b.node) × (a.key ≡ b.key)
same_name_says a b = go (eqb a.node b.node) (eqb a.key b.key) refl refl
  where
    go : (n k : Bool) → eqb a.node b.node ≡ n → eqb a.key b.key ≡ k → (n && k) ≡ true → (a.node ≡ b.node) × (a.key ≡ b.key)
    go true true en ek h = (eqb-true _ _ en, eqb-true _ _ ek)
    go true false en ek h = clash false h refl
    go false k en ek h = clash false h refl

pub same_name_when : (a b : Row) → a.node ≡ b.node → a.key ≡ b.key → same_name a b ≡ true
same_name_when a b n k = ap₂ (λ (x y : Bool). x && y) (eq-eqb a.node b.node n) (eq-eqb a.key b.key k)

-- ---- the row

-- its key id is 0, or of type 1 or 2
abbrev pub GoodKey : ℕ → Type 0
GoodKey key = (key ≡ 0) ⊎ (key / 2 ^ 12 % 2 ^ 4 ≡ 1) ⊎ (key / 2 ^ 12 % 2 ^ 4 ≡ 2)

-- A row is good exactly when its node is neither all zero nor all ones, its key id is such, and bit 15 of its marks is zero.
pub good_row_says : (row : Row) → bad_row row ≡ false
    → (row.node ≡ 0 → ⊥) × (row.node ≡ 2 ^ 64 - 1 → ⊥) × GoodKey row.key × (row.marks / 2 ^ 15 % 2 ≡ 0)
unfolding bit_at
good_row_says row g =
    let both = or_false (nobody row.node || (not (eqb row.key 0) && bad_key_type row.key)) (bit_at row.marks marks_held) g in
    let name = or_false (nobody row.node) (not (eqb row.key 0) && bad_key_type row.key) both.0 in
    let node = or_false (eqb row.node 0) (eqb row.node (2 ^ 64 - 1)) name.0 in
    let bit : row.marks / 2 ^ 15 % 2 ≡ 1 → ⊥ = eqb-false _ _ both.1 in
    (eqb-false _ _ node.0, eqb-false _ _ node.1, kind (eqb row.key 0) refl name.1, omega (arith, bit))
  where
    kind : (z : Bool) → eqb row.key 0 ≡ z → (not z && bad_key_type row.key) ≡ false → GoodKey row.key
    kind true e h = inl (eqb-true _ _ e)
    kind false e h =
        inr (⊎_elim (λ a. inl (eqb-true (bits row.key 12 4) 1 a)) (λ b. inr (eqb-true (bits row.key 12 4) 2 b))
        (or_true (eqb (bits row.key 12 4) 1) (eqb (bits row.key 12 4) 2) (not-false _ h)))

pub good_row_when : (row : Row) → (row.node ≡ 0 → ⊥) → (row.node ≡ 2 ^ 64 - 1 → ⊥) → GoodKey row.key → row.marks / 2 ^ 15 % 2 ≡ 0 → bad_row row ≡ false
unfolding bit_at
good_row_when row n₀ n₁ k m =
    let zero = ne_eqb row.node 0 n₀ in
    let ones = ne_eqb row.node (2 ^ 64 - 1) n₁ in
    let key = kind k in
    let bit : bit_at row.marks marks_held ≡ false = ne_eqb (row.marks / 2 ^ 15 % 2) 1 (λ e. omega arith) in
    λ i. zero i || ones i || key i || bit i
  where
    kind : GoodKey row.key → (not (eqb row.key 0) && bad_key_type row.key) ≡ false
    kind (inl e) = ap (λ (z : Bool). not z && bad_key_type row.key) (eq-eqb row.key 0 e)
    kind (inr (inl e)) = when_true (not (eqb row.key 0)) (bad_key_type row.key) (λ z. ap (λ (t : ℕ). not (eqb t 1 || eqb t 2)) e)
    kind (inr (inr e)) = when_true (not (eqb row.key 0)) (bad_key_type row.key) (λ z. ap (λ (t : ℕ). not (eqb t 1 || eqb t 2)) e)
