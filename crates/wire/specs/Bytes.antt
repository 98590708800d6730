-- Numbers as bytes, low byte first and high byte first, at the front of a list of bytes. Assumes nothing.
use Rattle.std.specs.Prelude.{ℕ, zero, suc, ◌+◌, ◌*◌, ◌/◌, ◌%◌, cond, List, [], ◌∷◌, ◌++◌, reverse, leb, get_or, length, take, drop}

-- the number that bytes stand for, low byte first; of no bytes, 0
abbrev pub little : List ℕ → ℕ
little [] = 0
little (b ∷ rest) = b + 256 * little rest

-- the number that bytes stand for, high byte first
abbrev pub big : List ℕ → ℕ
big bytes = little (reverse bytes)

-- a number as w bytes, low byte first
abbrev pub little_bytes : ℕ → ℕ → List ℕ
little_bytes zero x = []
little_bytes (suc w) x = x % 256 ∷ little_bytes w (x / 256)

-- a number as w bytes, high byte first
abbrev pub big_bytes : ℕ → ℕ → List ℕ
big_bytes w x = reverse (little_bytes w x)

-- the w bytes from a place on; past the end they count as 0
abbrev pub part : List ℕ → ℕ → ℕ → List ℕ
part bytes at zero = []
part bytes at (suc w) = get_or bytes at 0 ∷ part bytes (suc at) w

-- the first w bytes; none of them where there are fewer
unfoldable pub front : ℕ → List ℕ → List ℕ
front w bytes = cond (leb w (length bytes)) (take w bytes) []

-- a buffer with new bytes at its front and the rest as it was; all as it was where they do not fit
unfoldable pub placed : List ℕ → List ℕ → List ℕ
placed new old = cond (leb (length new) (length old)) (new ++ drop (length new) old) old
