-- A list as it grows, and the marks that keep it; over B and W. Assumes nothing.
use Rattle.std.proofs.Common.{◌≡◌, ℕ, suc, ◌-◌, ◌%◌, ◌^◌, ◌<◌, ◌≤◌, Bool, true, false, cond, List, [], ◌∷◌, sym, refl, ap, ◌∙◌, arith}
use Rattle.window.proofs.Bits.{bits_number, bit_mod}
use Rattle.window.proofs.Lists.{greatest_in}
use Rattle.window.proofs.Marks.{Keeps}
use Rattle.window.specs.Rule.{member, greatest, bit_at, position_after, accepts, step, marks_number}

-- past its first position a list lies at 2^32 or above
abbrev pub Far : List ℕ → Type 0
Far [] = Unit {0}
Far (p ∷ ps) = 2 ^ 32 ≤ greatest (p ∷ ps)

pub far_step : (B W : ℕ) (ps : List ℕ) (id : ℕ) → Far ps → Far (step B W ps id)
unfolding step greatest position_after
far_step B W ps id f = go ps f (accepts B W ps id)
  where
    go : (qs : List ℕ) → Far qs → (b : Bool) → Far (cond b (position_after B qs id ∷ qs) qs)
    go [] f true = omega arith
    go [] f false = tt
    go (q ∷ qs) f true = omega arith
    go (q ∷ qs) f false = f

-- a number whose low bits are the list's marks says of each position below the greatest whether it is in the list
pub marks_say : (W : ℕ) (ps : List ℕ) (m : ℕ) → m % 2 ^ W ≡ marks_number W ps → (k : ℕ) → k < W → bit_at m k ≡ member (greatest ps - suc k) ps
unfolding marks_number
marks_say W ps m e k l = sym (bit_mod m W k l) ∙ ap (λ (x : ℕ). bit_at x k) e ∙ bits_number W (λ k. member (greatest ps - suc k) ps) k l

-- so it keeps the list, with the highest id that the list has
pub keeps_far : (W p : ℕ) (ps : List ℕ) (m : ℕ) → Far (p ∷ ps) → m % 2 ^ W ≡ marks_number W (p ∷ ps) → Keeps W (p ∷ ps) (greatest (p ∷ ps) % 2 ^ 32) m
keeps_far W p ps m f e = record { high = refl; far = f; held = greatest_in p ps; marks = marks_say W (p ∷ ps) m e }
