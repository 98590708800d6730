-- Which condition of restoring's order a refusal tells. Assumes nothing.
use Rattle.std.specs.Prelude.{Option, Some, None, Err}
use Prim.Native.Nat.{ℕ, ◌≤◌}
use mathlib.Core.Path.{◌≡◌, refl, sym, ap, ◌∙◌}
use mathlib.Core.Bool.{Bool, true, false}
use mathlib.Core.List.{List, [], ◌∷◌}
use native.Mathlib.Omega.{arith}
use Rattle.message.specs.Order.{◌when◌, first}
use Rattle.message.specs.Reasons.{number, refusal}
use Rattle.message.specs.declared.answers.Reason.{Reason}
use Rattle.message.specs.declared.answers.Refusal.{Refusal}
use Rattle.message.specs.declared.answers.Reason.TheVariants.{SavedMark, SavedLength, SavedRow, SavedTwice}
use Rattle.message.proofs.Order.{none_some, same_some}
use Rattle.records.specs.Records.{wrong_mark, bad_row}
use Rattle.records.specs.Restoring.{record_count, record_at, row_from, some_below, bad_length, named_before, restoring_order, restored, restore_of}

-- an answer made of a reason is a refusal for that reason, and for no other
pub restored_reason : (given : Option Reason) (reason : Reason) (m : ℕ) → restored given m ≡ Err (refusal reason) → given ≡ Some reason
restored_reason None reason m e = cc
restored_reason (Some r) reason m e = let f : refusal r ≡ refusal reason = cc in ap (λ (q : Refusal). Some q.reason) f

-- the first of the four that holds
abbrev pub four : Bool → Bool → Bool → Bool → Option Reason
four a b c d = first (SavedLength when a ∷ SavedMark when b ∷ SavedRow when c ∷ SavedTwice when d ∷ [])

-- the order is those four
module _ (bytes : List ℕ) where
  abbrev pub unmarked : Bool
  unmarked = some_below (record_count bytes) (λ i. wrong_mark (record_at bytes i))

  abbrev pub bad : Bool
  bad = some_below (record_count bytes) (λ i. bad_row (row_from bytes i))

  abbrev pub twice : Bool
  twice = some_below (record_count bytes) (named_before bytes)

  pub decided : {a b c d : Bool} → bad_length bytes ≡ a → unmarked ≡ b → bad ≡ c → twice ≡ d → first (restoring_order bytes) ≡ four a b c d
  unfolding restoring_order
  decided p q r s = λ i. four (p i) (q i) (r i) (s i)

  -- the answer by the four conditions
  pub told : (reason : Reason) → restore_of bytes ≡ Err (refusal reason) → four (bad_length bytes) unmarked bad twice ≡ Some reason
  unfolding restore_of
  told reason e = sym (decided refl refl refl refl) ∙ restored_reason (first (restoring_order bytes)) reason (record_count bytes) e

  pub answered : {a b c d : Bool} → bad_length bytes ≡ a → unmarked ≡ b → bad ≡ c → twice ≡ d → restore_of bytes ≡ restored (four a b c d) (record_count bytes)
  unfolding restore_of
  answered p q r s = ap (λ (given : Option Reason). restored given (record_count bytes)) (decided p q r s)

-- each reason tells that its condition holds, and those before it do not
pub is_24 : (a b c d : Bool) → four a b c d ≡ Some SavedLength → a ≡ true
is_24 true b c d e = refl
is_24 false true c d e = cc
is_24 false false true d e = cc
is_24 false false false true e = cc
is_24 false false false false e = cc

pub is_23 : (a b c d : Bool) → four a b c d ≡ Some SavedMark → (a ≡ false) × (b ≡ true)
is_23 true b c d e = absurd (cc)
is_23 false true c d e = (refl, refl)
is_23 false false true d e = cc
is_23 false false false true e = cc
is_23 false false false false e = cc

pub is_25 : (a b c d : Bool) → four a b c d ≡ Some SavedRow → (a ≡ false) × (b ≡ false) × (c ≡ true)
is_25 true b c d e = absurd (cc)
is_25 false true c d e = absurd (cc)
is_25 false false true d e = (refl, refl, refl)
is_25 false false false true e = absurd (cc)
is_25 false false false false e = absurd (cc)

pub is_26 : (a b c d : Bool) → four a b c d ≡ Some SavedTwice → (a ≡ false) × (b ≡ false) × (c ≡ false) × (d ≡ true)
is_26 true b c d e = absurd (cc)
is_26 false true c d e = absurd (cc)
is_26 false false true d e = absurd (cc)
is_26 false false false true e = (refl, refl, refl, refl)
is_26 false false false false e = absurd (cc)

-- there is no number but 23 to 26
pub within : (a b c d : Bool) (reason : Reason) → four a b c d ≡ Some reason → (23 ≤ number reason) × (number reason ≤ 26)
within true b c d reason e = let n = ap number (same_some e) in (omega arith, omega arith)
within false true c d reason e = let n = ap number (same_some e) in (omega arith, omega arith)
within false false true d reason e = let n = ap number (same_some e) in (omega arith, omega arith)
within false false false true reason e = let n = ap number (same_some e) in (omega arith, omega arith)
within false false false false reason e = none_some e
