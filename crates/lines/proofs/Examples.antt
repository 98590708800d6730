-- Lines spelt out. Of the listing: those of the example, a refusal that points at a byte, and the greatest number. Of the trial: one of
-- each kind. Assumes nothing.
use mathlib.Core.Path.{◌≡◌, refl}
use mathlib.Core.List.{[], ◌∷◌}
use Rattle.lines.specs.Decimal.{places_within, places_of, decimal_text}
use Rattle.lines.specs.Lines.{closing, pair_text, line_text, last_text, figures_text}
use Rattle.lines.specs.declared.Said.TheVariants.{New, Duplicate, Refused}
use Rattle.lines.specs.declared.Figure.TheVariants.{Marks, Least, Refused as Figure-as-Refused}

-- `1 new 5`
pub first_new : line_text 1 (New 5) ≡ 49 ∷ 32 ∷ 110 ∷ 101 ∷ 119 ∷ 32 ∷ 53 ∷ 10 ∷ []
unfolding line_text closing decimal_text places_of places_within
first_new = refl

-- `2 duplicate 5`
pub second_duplicate : line_text 2 (Duplicate 5) ≡ 50 ∷ 32 ∷ 100 ∷ 117 ∷ 112 ∷ 108 ∷ 105 ∷ 99 ∷ 97 ∷ 116 ∷ 101 ∷ 32 ∷ 53 ∷ 10 ∷ []
unfolding line_text closing decimal_text places_of places_within
second_duplicate = refl

-- `3 refused 5 0`
pub third_refused : line_text 3 (Refused 5 0) ≡ 51 ∷ 32 ∷ 114 ∷ 101 ∷ 102 ∷ 117 ∷ 115 ∷ 101 ∷ 100 ∷ 32 ∷ 53 ∷ 32 ∷ 48 ∷ 10 ∷ []
unfolding line_text pair_text closing decimal_text places_of places_within
third_refused = refl

-- `12 refused 9 14`
pub refused_at_byte : line_text 12 (Refused 9 14) ≡ 49 ∷ 50 ∷ 32 ∷ 114 ∷ 101 ∷ 102 ∷ 117 ∷ 115 ∷ 101 ∷ 100 ∷ 32 ∷ 57 ∷ 32 ∷ 49 ∷ 52 ∷ 10 ∷ []
unfolding line_text pair_text closing decimal_text places_of places_within
refused_at_byte = refl

-- `end 0`
pub end_none : last_text 0 ≡ 101 ∷ 110 ∷ 100 ∷ 32 ∷ 48 ∷ 10 ∷ []
unfolding last_text closing decimal_text places_of places_within
end_none = refl

-- `end 18446744073709551615`
pub greatest : last_text 18446744073709551615 ≡ 101 ∷ 110 ∷ 100 ∷ 32 ∷ 49 ∷ 56 ∷ 52 ∷ 52 ∷ 54 ∷ 55 ∷ 52 ∷ 52 ∷ 48 ∷ 55 ∷ 51 ∷ 55 ∷ 48 ∷ 57 ∷ 53 ∷ 53 ∷ 49 ∷ 54 ∷ 49 ∷ 53 ∷ 10 ∷ []
unfolding last_text closing decimal_text places_of places_within
greatest = refl

-- `15 2 1`
pub fifteen_marks : figures_text (Marks 15 2 1) ≡ 49 ∷ 53 ∷ 32 ∷ 50 ∷ 32 ∷ 49 ∷ 10 ∷ []
unfolding figures_text pair_text closing decimal_text places_of places_within
fifteen_marks = refl

-- `least 1`
pub least_one : figures_text (Least 1) ≡ 108 ∷ 101 ∷ 97 ∷ 115 ∷ 116 ∷ 32 ∷ 49 ∷ 10 ∷ []
unfolding figures_text closing decimal_text places_of places_within
least_one = refl

-- `refused 28`
pub refused_number : figures_text (Figure-as-Refused 28) ≡ 114 ∷ 101 ∷ 102 ∷ 117 ∷ 115 ∷ 101 ∷ 100 ∷ 32 ∷ 50 ∷ 56 ∷ 10 ∷ []
unfolding figures_text closing decimal_text places_of places_within
refused_number = refl
