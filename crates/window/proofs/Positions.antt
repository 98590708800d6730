-- The position of an arriving id: it is the one that the rule describes, and where it lies goes by the way forward from the greatest. Assumes nothing.
use Rattle.std.proofs.Common.{◌≡◌, ℕ, ◌+◌, ◌-◌, ◌%◌, ◌^◌, ◌<◌, ◌≤◌, true, List, [], ◌∷◌, sym, true≢false, arith}
use Rattle.window.specs.Rule.{member, greatest, Placed, position_of, position_after}

-- what the laws ask of B and W: no mark is further behind than the row looks back, and it does not look back a whole round of ids
pub record Fits (B W : ℕ) : Type 0 where
  pub window : W ≤ B
  pub behind : B < 2 ^ 32

-- the closed form is a position such as the rule asks for
pub position_is : (B M id : ℕ) → id < 2 ^ 32 → Placed B M id (position_of B M id)
unfolding position_of
position_is B M id h = omega arith

-- and no other is
pub position_one : (B M id p : ℕ) → Placed B M id p → position_of B M id ≡ p
unfolding position_of
position_one B M id p h = omega arith

-- once something is in the list, a position such as the rule asks for is the id's
pub position_heard : (B : ℕ) (ps : List ℕ) (id p q : ℕ) → member q ps ≡ true → Placed B (greatest ps) id p → position_after B ps id ≡ p
unfolding member position_after
position_heard B [] id p q h l = absurd (true≢false (sym h))
position_heard B (r ∷ ps) id p q h l = position_one B (greatest (r ∷ ps)) id p l

-- a position equals its id modulo 2^32
pub position_id : (B : ℕ) (ps : List ℕ) (id : ℕ) → id < 2 ^ 32 → position_after B ps id % 2 ^ 32 ≡ id
unfolding position_after
position_id B [] id l = omega arith
position_id B (p ∷ ps) id l = (position_is B (greatest (p ∷ ps)) id l).0

-- d is the way forward from the greatest position to the id
module _ (B W : ℕ) (fits : Fits B W) (ps : List ℕ) (id d : ℕ) (far : 2 ^ 32 ≤ greatest ps) (held : member (greatest ps) ps ≡ true) (ld : d < 2 ^ 32) (w : (d + greatest ps) % 2 ^ 32 ≡ id) where
  pub position_ahead : d + B < 2 ^ 32 → position_after B ps id ≡ greatest ps + d
  position_ahead h = position_heard B ps id (greatest ps + d) (greatest ps) held (omega arith)

  pub position_behind : 2 ^ 32 ≤ d + B → position_after B ps id ≡ greatest ps - (2 ^ 32 - d)
  position_behind h = position_heard B ps id (greatest ps - (2 ^ 32 - d)) (greatest ps) held (omega arith)
