-- A number in decimal digits, without leading zeros. Assumes nothing.
use Rattle.std.specs.Prelude.{ℕ, zero, suc, ◌/◌, cond, List, ltb}
use Rattle.io.specs.Digits.{last_digits}

-- how many digits a number has, of at most so many: one below 10, else one more than its tenth has
unfoldable pub places_within : ℕ → ℕ → ℕ
places_within zero n = 0
places_within (suc most) n = cond (ltb n 10) 1 (suc (places_within most (n / 10)))

-- how many digits a number below 10 ^ 20 has
unfoldable pub places_of : ℕ → ℕ
places_of n = places_within 20 n

-- its digits
unfoldable pub decimal_text : ℕ → List ℕ
decimal_text n = last_digits 10 (places_of n) n
