-- What an arriving id comes to hangs on the highest id and the marks alone: a list's older positions, and what multiple of 2^32 is in it, are
-- harmless. Over B and W. Assumes nothing.
use Rattle.std.proofs.Common.{◌≡◌, ℕ, ◌+◌, ◌-◌, ◌*◌, ◌%◌, ◌^◌, ◌<◌, ◌≤◌, Bool, true, false, List, sym, refl, ◌∙◌, arith}
use native.Mathlib.Decide.{ℕ_discrete, dec_lt}
use lib.Bits.{bit_or}
use Rattle.window.proofs.Positions.{Fits}
use Rattle.window.proofs.Marks.{Keeps, Outcome, Arrival, outcome_same, outcome_old, outcome_marked, outcome_filled, outcome_ahead, late_ahead, late_behind}
use Rattle.window.specs.Rule.{greatest, bit_at, accepts, step, marks_number}
use Rattle.window.specs.Windows.{late_by}

module _ (B W : ℕ) (fits : Fits B W) (h m id : ℕ) (lh : h < 2 ^ 32) (li : id < 2 ^ 32) where
  Known : Type 0
  Known = (b : Bool) × (h' : ℕ) × (m' : ℕ) × ((ps : List ℕ) → Keeps W ps h m → Outcome B W ps id b h' m')

  d : ℕ
  d = (id + 2 ^ 32 - h) % 2 ^ 32

  -- one less than the way back
  b : ℕ
  b = 2 ^ 32 - 1 - (id + 2 ^ 32 - h) % 2 ^ 32

  arrives : {ps : List ℕ} → Keeps W ps h m → Arrival B W ps h m id d
  unfolding d
  arrives s = record { fits = fits; keeps = s; small = omega arith; around = omega arith }

  known : Known
  unfolding Known d b
  known = zero? (ℕ_discrete d 0)
    where
      bit? : b < W → (t : Bool) → bit_at m b ≡ t → Known
      bit? l true e = (false, h, m % 2 ^ W, λ ps s. outcome_marked (arrives s) b (omega arith) l e)
      bit? l false e = (true, h, bit_or m (2 ^ b) % 2 ^ W, λ ps s. outcome_filled (arrives s) b (omega arith) l e)

      near? : 2 ^ 32 ≤ d + B → Dec (b < W) → Known
      near? o (yes l) = bit? l (bit_at m b) refl
      near? o (no l) = (false, h, m % 2 ^ W, λ ps s. outcome_old (arrives s) o (omega arith))

      ahead? : (d ≡ 0 → ⊥) → Dec (d + B < 2 ^ 32) → Known
      ahead? z (yes l) = (true, id, bit_or (m * 2 ^ d) (2 ^ (d - 1)) % 2 ^ W, λ ps s. outcome_ahead (arrives s) (omega arith) l)
      ahead? z (no l) = near? (omega arith) (dec_lt b W)

      zero? : Dec (d ≡ 0) → Known
      zero? (yes z) = (false, h, m % 2 ^ W, λ ps s. outcome_same (arrives s) z)
      zero? (no z) = ahead? z (dec_lt (d + B) (2 ^ 32))

  pub agree : (ps qs : List ℕ) → Keeps W ps h m → Keeps W qs h m
      → Outcome B W ps id (accepts B W qs id) (greatest (step B W qs id) % 2 ^ 32) (marks_number W (step B W qs id))
  unfolding Known
  agree ps qs s t =
      record {
        new = (known.3 ps s).new ∙ sym (known.3 qs t).new;
        high = (known.3 ps s).high ∙ sym (known.3 qs t).high;
        marks = (known.3 ps s).marks ∙ sym (known.3 qs t).marks;
      }

  -- and so does how far behind the greatest position it lies
  pub late_agree : (ps qs : List ℕ) → Keeps W ps h m → Keeps W qs h m → late_by B ps id ≡ late_by B qs id
  late_agree ps qs s t = go (dec_lt (d + B) (2 ^ 32))
    where
      go : Dec (d + B < 2 ^ 32) → late_by B ps id ≡ late_by B qs id
      go (yes l) = late_ahead (arrives s) l ∙ sym (late_ahead (arrives t) l)
      go (no l) = late_behind (arrives s) (omega arith) ∙ sym (late_behind (arrives t) (omega arith))
