-- The rule of positions and the marks, over B and W: what an arriving id comes to, by the way forward to it, for any list that a highest id
-- and a number of marks keep. Nothing here is about a row or about one number of marks. Assumes nothing.
use Rattle.std.proofs.Common.{◌≡◌, ℕ, suc, ◌+◌, ◌-◌, ◌*◌, ◌%◌, ◌^◌, ◌<◌, ◌≤◌, Bool, true, false, not, ◌||◌, List, [], ◌∷◌, sym, refl, ap, ◌∙◌, subst, ap₂, subst₂, arith}
use mathlib.Core.Bool.{or-true, or-false}
use native.Mathlib.Nat.{zero-mod}
use native.Mathlib.Decide.{ℕ_discrete, dec_lt}
use lib.Bits.{bit_or}
use Rattle.window.proofs.Bits.{number_of, bit_or_lem, bit_up, bit_under, bit_one, bit_other, bit_none, moved_out}
use Rattle.window.proofs.Positions.{Fits, position_ahead, position_behind}
use Rattle.window.proofs.Accepting.{new_above, new_same, new_near, new_old, step_old, step_new}
use Rattle.window.proofs.Lists.{member_here, member_there, member_above, greatest_under, greatest_over}
use Rattle.window.specs.Rule.{member, greatest, bit_at, position_after, is_new_position, accepts, step, number, marks_number}
use Rattle.window.specs.Windows.{late_by}

-- ---- what a highest id and a number of marks say of a list
pub record Keeps (W : ℕ) (ps : List ℕ) (h m : ℕ) : Type 0 where
  pub high : greatest ps % 2 ^ 32 ≡ h
  pub far : 2 ^ 32 ≤ greatest ps
  pub held : member (greatest ps) ps ≡ true
  pub marks : (k : ℕ) → k < W → bit_at m k ≡ member (greatest ps - suc k) ps

-- what an id comes to: is it new, and the highest id and the marks after it
pub record Outcome (B W : ℕ) (ps : List ℕ) (id : ℕ) (b : Bool) (h m : ℕ) : Type 0 where
  pub new : accepts B W ps id ≡ b
  pub high : greatest (step B W ps id) % 2 ^ 32 ≡ h
  pub marks : marks_number W (step B W ps id) ≡ m

-- one whose position is p
module _ (B W : ℕ) (ps : List ℕ) (id p : ℕ) (at : position_after B ps id ≡ p) where
  comes_old : (h m : ℕ) → Keeps W ps h m → is_new_position W ps p ≡ false → Outcome B W ps id false h (m % 2 ^ W)
  unfolding accepts marks_number
  comes_old h m s e =
      let o : accepts B W ps id ≡ false = ap (is_new_position W ps) at ∙ e in
      record {
        new = o;
        high = ap (λ (l : List ℕ). greatest l % 2 ^ 32) (step_old B W ps id o) ∙ s.high;
        marks = ap (marks_number W) (step_old B W ps id o) ∙ number_of W m (λ k. member (greatest ps - suc k) ps) s.marks;
      }

  comes_new : (g m : ℕ) → is_new_position W ps p ≡ true → greatest (p ∷ ps) ≡ g
      → ((k : ℕ) → k < W → bit_at m k ≡ member (g - suc k) (p ∷ ps))
      → Outcome B W ps id true (g % 2 ^ 32) (m % 2 ^ W)
  unfolding accepts marks_number
  comes_new g m en eg em =
      let e : accepts B W ps id ≡ true = ap (is_new_position W ps) at ∙ en in
      let es : step B W ps id ≡ p ∷ ps = step_new B W ps id e ∙ ap (λ (x : ℕ). x ∷ ps) at in
      record {
        new = e;
        high = ap (λ (l : List ℕ). greatest l % 2 ^ 32) es ∙ ap (λ (x : ℕ). x % 2 ^ 32) eg;
        marks =
            ap (marks_number W) es
            ∙ ap (λ (x : ℕ). number W (λ k. member (x - suc k) (p ∷ ps))) eg
            ∙ number_of W m (λ k. member (g - suc k) (p ∷ ps)) em;
      }

-- ---- a first id: its position is the whole list, and there are no marks
pub outcome_first : (B W id : ℕ) → Fits B W → id < 2 ^ 32 → Outcome B W [] id true id 0
unfolding position_after greatest member
outcome_first B W id fits l =
    subst₂ (Outcome B W [] id true) (omega arith) (zero-mod (2 ^ W))
    (comes_new B W [] id (id + 2 ^ 32) refl (id + 2 ^ 32) 0 (new_above W [] (id + 2 ^ 32) (omega arith)) (omega arith)
    (λ k lk. bit_none k ∙ sym (member_there (id + 2 ^ 32 - suc k) (id + 2 ^ 32) [] (λ e. omega arith))))

-- ---- an arriving id, d ahead of the highest
pub record Arrival (B W : ℕ) (ps : List ℕ) (h m id d : ℕ) : Type 0 where
  pub fits : Fits B W
  pub keeps : Keeps W ps h m
  pub small : d < 2 ^ 32
  pub around : (d + h) % 2 ^ 32 ≡ id

-- its four places: the highest itself, ahead of it, near behind it, far behind it
module _ {B W : ℕ} {ps : List ℕ} {h m id d : ℕ} (a : Arrival B W ps h m id d) where
  far : 2 ^ 32 ≤ greatest ps
  far = a.keeps.far

  ahead : d + B < 2 ^ 32 → position_after B ps id ≡ greatest ps + d
  ahead = position_ahead B W a.fits ps id d far a.keeps.held a.small (omega (arith, a.keeps.high))

  behind : 2 ^ 32 ≤ d + B → position_after B ps id ≡ greatest ps - (2 ^ 32 - d)
  behind = position_behind B W a.fits ps id d far a.keeps.held a.small (omega (arith, a.keeps.high))

  -- the highest id again
  pub outcome_same : d ≡ 0 → Outcome B W ps id false h (m % 2 ^ W)
  outcome_same z = comes_old B W ps id (greatest ps) (ahead (omega arith) ∙ omega arith) h m a.keeps (new_same W ps (greatest ps) refl)

  -- behind all the marks
  pub outcome_old : 2 ^ 32 ≤ d + B → d + W < 2 ^ 32 → Outcome B W ps id false h (m % 2 ^ W)
  outcome_old l o = comes_old B W ps id _ (behind l) h m a.keeps (new_old W ps (greatest ps - (2 ^ 32 - d)) (omega (arith, far)))

  -- within the marks, where b is one less than the way back
  near : (b : ℕ) → d + suc b ≡ 2 ^ 32 → b < W → position_after B ps id ≡ greatest ps - suc b
  near b e l = behind (omega arith) ∙ omega arith

  -- how far behind the greatest it lies: ahead of it not at all, else by the way back
  pub late_ahead : d + B < 2 ^ 32 → late_by B ps id ≡ 0
  late_ahead l = ap (λ (p : ℕ). greatest ps - p) (ahead l) ∙ omega arith

  pub late_behind : 2 ^ 32 ≤ d + B → late_by B ps id ≡ 2 ^ 32 - d
  late_behind l = ap (λ (p : ℕ). greatest ps - p) (behind l) ∙ omega (arith, far)

  -- its mark is set
  pub outcome_marked : (b : ℕ) → d + suc b ≡ 2 ^ 32 → b < W → bit_at m b ≡ true → Outcome B W ps id false h (m % 2 ^ W)
  outcome_marked b e l t =
      comes_old B W ps id _ (near b e l) h m a.keeps
      (new_near W ps (greatest ps - suc b) (omega (arith, far)) (omega (arith, far)) ∙ ap not (sym (a.keeps.marks b l) ∙ t))

  -- its mark is clear, and is filled
  pub outcome_filled : (b : ℕ) → d + suc b ≡ 2 ^ 32 → b < W → bit_at m b ≡ false → Outcome B W ps id true h (bit_or m (2 ^ b) % 2 ^ W)
  outcome_filled b e l t =
      subst (λ (x : ℕ). Outcome B W ps id true x (bit_or m (2 ^ b) % 2 ^ W)) a.keeps.high
      (comes_new B W ps id _ (near b e l) (greatest ps) (bit_or m (2 ^ b))
      (new_near W ps (greatest ps - suc b) (omega (arith, far)) (omega (arith, far)) ∙ ap not (sym (a.keeps.marks b l) ∙ t))
      (greatest_under (greatest ps - suc b) ps (omega arith))
      (λ k lk. go k lk (ℕ_discrete k b)))
    where
      go : (k : ℕ) → k < W → Dec (k ≡ b) → bit_at (bit_or m (2 ^ b)) k ≡ member (greatest ps - suc k) ((greatest ps - suc b) ∷ ps)
      go k lk (yes q) =
          bit_or_lem m (2 ^ b) k ∙ ap (λ (x : Bool). bit_at m k || x) (ap (bit_at (2 ^ b)) q ∙ bit_one b) ∙ or-true (bit_at m k)
          ∙ sym (member_here (greatest ps - suc k) (greatest ps - suc b) ps (ap (λ (i : ℕ). greatest ps - suc i) q))
      go k lk (no q) =
          bit_or_lem m (2 ^ b) k ∙ ap (λ (x : Bool). bit_at m k || x) (bit_other b k q) ∙ or-false (bit_at m k)
          ∙ a.keeps.marks k lk
          ∙ sym (member_there (greatest ps - suc k) (greatest ps - suc b) ps (λ r. q (omega (arith, far, a.fits))))

  -- the shift of marks, where c is one less than the way forward: each moves up, and the old highest has one
  moved : (c : ℕ) → d ≡ suc c → (k : ℕ) → k < W → bit_at (bit_or (m * 2 ^ suc c) (2 ^ c)) k ≡ member (greatest ps + suc c - suc k) ((greatest ps + suc c) ∷ ps)
  moved c e k lk =
      bit_or_lem (m * 2 ^ suc c) (2 ^ c) k ∙ go (dec_lt k c) (ℕ_discrete k c)
      ∙ sym (member_there (greatest ps + suc c - suc k) (greatest ps + suc c) ps (λ r. omega (arith, far)))
    where
      go : Dec (k < c) → Dec (k ≡ c) → (bit_at (m * 2 ^ suc c) k || bit_at (2 ^ c) k) ≡ member (greatest ps + suc c - suc k) ps
      go (yes l) q =
          ap₂ (λ (x y : Bool). x || y) (bit_under m (suc c) k (omega arith)) (bit_other c k (λ r. omega arith))
          ∙ sym (member_above (greatest ps + suc c - suc k) ps (omega arith))
      go (no l) (yes q) =
          ap (λ (x : Bool). bit_at (m * 2 ^ suc c) k || x) (ap (bit_at (2 ^ c)) q ∙ bit_one c) ∙ or-true (bit_at (m * 2 ^ suc c) k)
          ∙ sym a.keeps.held ∙ ap (λ (x : ℕ). member x ps) (omega arith)
      go (no l) (no q) =
          let i : ℕ = k - suc c in
          let r : k ≡ suc c + i = omega arith in
          ap₂ (λ (x y : Bool). x || y) (ap (bit_at (m * 2 ^ suc c)) r ∙ bit_up m (suc c) i) (bit_other c k q)
          ∙ or-false (bit_at m i) ∙ a.keeps.marks i (omega arith) ∙ ap (λ (x : ℕ). member x ps) (omega (arith, far, a.fits))

  ahead_by : (c : ℕ) → d ≡ suc c → d + B < 2 ^ 32 → Outcome B W ps id true id (bit_or (m * 2 ^ suc c) (2 ^ c) % 2 ^ W)
  ahead_by c e l =
      subst (λ (x : ℕ). Outcome B W ps id true x (bit_or (m * 2 ^ suc c) (2 ^ c) % 2 ^ W)) (omega (arith, a.around, a.keeps.high))
      (comes_new B W ps id _ (ahead l ∙ ap (λ (x : ℕ). greatest ps + x) e) (greatest ps + suc c) (bit_or (m * 2 ^ suc c) (2 ^ c))
      (new_above W ps (greatest ps + suc c) (omega arith))
      (greatest_over (greatest ps + suc c) ps (omega arith))
      (moved c e))

  -- ahead of the highest, or further behind than B
  pub outcome_ahead : 0 < d → d + B < 2 ^ 32 → Outcome B W ps id true id (bit_or (m * 2 ^ d) (2 ^ (d - 1)) % 2 ^ W)
  outcome_ahead z l =
      let e : d ≡ suc (d - 1) = omega arith in
      subst (λ (x : ℕ). Outcome B W ps id true id (bit_or (m * 2 ^ x) (2 ^ (d - 1)) % 2 ^ W)) (sym e) (ahead_by (d - 1) e l)

  -- the same by more than all the marks: none is left
  pub outcome_past : W < d → d + B < 2 ^ 32 → Outcome B W ps id true id 0
  outcome_past z l = subst (Outcome B W ps id true id) (moved_out W m d z) (outcome_ahead (omega arith) l)
