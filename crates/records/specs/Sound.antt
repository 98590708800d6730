-- What makes rows come back from their saved bytes as they were (request K1). Assumes nothing.
use Rattle.std.specs.Prelude.{◌^◌, ◌<◌, ◌≡◌, true, false, List, [], ◌∷◌}
use Rattle.window.specs.Rows.{marks_held}
use Rattle.window.specs.declared.Row.{Row}
use Rattle.records.specs.Records.{bad_row, same_name}

-- one row: it is in use, 25 does not refuse it, and its record has room for each of its numbers
pub record SoundRow (row : Row) : Type 0 where
  pub used : row.used ≡ true
  pub good : bad_row row ≡ false
  pub node : row.node < 2 ^ 64
  pub key : row.key < 2 ^ 16
  pub highest : row.highest < 2 ^ 32
  pub marks : row.marks < 2 ^ marks_held

-- none of these rows has the name of this one
abbrev pub NoneNamed : Row → List Row → Type 0
NoneNamed row [] = Unit {0}
NoneNamed row (other ∷ rs) = (same_name row other ≡ false) × NoneNamed row rs

-- rows, one after the other: each is sound, and no later one has its name
abbrev pub Sound : List Row → Type 0
Sound [] = Unit {0}
Sound (row ∷ rs) = SoundRow row × NoneNamed row rs × Sound rs
