-- The rule of positions ("Rows and verdicts"), over B, how far behind the greatest position an id may lie, and W, the number of marks.
-- A list holds the positions accepted so far; it is empty before the first message. Assumes nothing.
use Rattle.std.specs.Prelude.{◌≡◌, ℕ, zero, suc, ◌+◌, ◌-◌, ◌/◌, ◌%◌, ◌^◌, ◌≤◌, max, Bool, false, cond, not, ◌&&◌, ◌||◌, List, [], ◌∷◌, ◌==◌, nat_le, nat_lt}

-- is the position in the list?
unfoldable pub member : ℕ → List ℕ → Bool
member p [] = false
member p (q ∷ qs) = p == q || member p qs

-- the greatest position of a list
unfoldable pub greatest : List ℕ → ℕ
greatest [] = 0
greatest (q ∷ qs) = max q (greatest qs)

-- what is asked of the position of an id, M being the greatest: it equals the id modulo 2^32 and lies from M - B to M - B + 2^32 - 1
abbrev pub Placed : ℕ → ℕ → ℕ → ℕ → Type 0
Placed B M id p = (p % 2 ^ 32 ≡ id) × (M - B ≤ p) × (p ≤ M - B + 2 ^ 32 - 1)

-- the one such position (`one_position` in proofs/Promises.antt)
unfoldable pub position_of : ℕ → ℕ → ℕ → ℕ
position_of B M id = (M - B) + (id + 2 ^ 32 - (M - B) % 2 ^ 32) % 2 ^ 32

-- the position of an arriving id: of the first it is the id plus 2^32, later it goes by the greatest
unfoldable pub position_after : ℕ → List ℕ → ℕ → ℕ
position_after B [] id = id + 2 ^ 32
position_after B (q ∷ qs) id = position_of B (greatest (q ∷ qs)) id

-- new: above the greatest, or among the W below it and not yet accepted
unfoldable pub is_new_position : ℕ → List ℕ → ℕ → Bool
is_new_position W ps p = nat_lt (greatest ps) p || nat_le (greatest ps - W) p && nat_lt p (greatest ps) && not (member p ps)

-- is an arriving id new?
unfoldable pub accepts : ℕ → ℕ → List ℕ → ℕ → Bool
accepts B W ps id = is_new_position W ps (position_after B ps id)

-- the list after an arriving id: what is new joins it
unfoldable pub step : ℕ → ℕ → List ℕ → ℕ → List ℕ
step B W ps id = cond (accepts B W ps id) (position_after B ps id ∷ ps) ps

-- the list after ids that arrive one after the other: nothing is forgotten
unfoldable pub accepted : ℕ → ℕ → List ℕ → List ℕ → List ℕ
accepted B W ps [] = ps
accepted B W ps (id ∷ ids) = accepted B W (step B W ps id) ids

-- the number of n bits whose bit k is f k
unfoldable pub number : ℕ → (ℕ → Bool) → ℕ
number zero f = 0
number (suc n) f = cond (f n) (2 ^ n) 0 + number n f

-- the marks of a list: bit k - 1 says whether the greatest position less k is in it, for k from 1 to W
unfoldable pub marks_number : ℕ → List ℕ → ℕ
marks_number W ps = number W (λ k. member (greatest ps - suc k) ps)

-- bit k of a number
unfoldable pub bit_at : ℕ → ℕ → Bool
bit_at m k = m / 2 ^ k % 2 == 1

-- the positions M - k, for each k from 1 to W whose bit k - 1 is set in m
unfoldable pub marked : ℕ → ℕ → ℕ → List ℕ
marked zero m M = []
marked (suc W) m M = cond (bit_at m W) ((M - suc W) ∷ marked W m M) (marked W m M)
