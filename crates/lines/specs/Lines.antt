-- The lines of the listing and of the trial, as bytes. Assumes nothing.
use Rattle.std.specs.Prelude.{ℕ, List, [], ◌∷◌, ◌++◌}
use Rattle.lines.specs.Decimal.{decimal_text}
use Rattle.lines.specs.declared.Said.{Said}
use Rattle.lines.specs.declared.Said.TheVariants.{New, Duplicate, Refused}
use Rattle.lines.specs.declared.Figure.{Figure}
use Rattle.lines.specs.declared.Figure.TheVariants.{Marks, Least, Refused as Figure-as-Refused}

-- the end of a line
abbrev pub newline : List ℕ
newline = 10 ∷ []

-- between two numbers
abbrev pub space : List ℕ
space = 32 ∷ []

-- ` new `
abbrev pub new_word : List ℕ
new_word = 32 ∷ 110 ∷ 101 ∷ 119 ∷ 32 ∷ []

-- ` duplicate `
abbrev pub duplicate_word : List ℕ
duplicate_word = 32 ∷ 100 ∷ 117 ∷ 112 ∷ 108 ∷ 105 ∷ 99 ∷ 97 ∷ 116 ∷ 101 ∷ 32 ∷ []

-- ` refused `
abbrev pub refused_word : List ℕ
refused_word = 32 ∷ 114 ∷ 101 ∷ 102 ∷ 117 ∷ 115 ∷ 101 ∷ 100 ∷ 32 ∷ []

-- `end `
abbrev pub end_word : List ℕ
end_word = 101 ∷ 110 ∷ 100 ∷ 32 ∷ []

-- `least `
abbrev pub least_word : List ℕ
least_word = 108 ∷ 101 ∷ 97 ∷ 115 ∷ 116 ∷ 32 ∷ []

-- `refused `, where it begins the line
abbrev pub refused_opening : List ℕ
refused_opening = 114 ∷ 101 ∷ 102 ∷ 117 ∷ 115 ∷ 101 ∷ 100 ∷ 32 ∷ []

-- a word, a number and the end of the line
unfoldable pub closing : List ℕ → ℕ → List ℕ
closing word number = word ++ decimal_text number ++ newline

-- a word, a number, a space, another number and the end of the line
unfoldable pub pair_text : List ℕ → ℕ → ℕ → List ℕ
pair_text word first second = word ++ decimal_text first ++ closing space second

-- what is said of a message: the verdict with the message id, or the refusal's number and offset
abbrev pub said_text : Said → List ℕ
said_text (New id) = closing new_word id
said_text (Duplicate id) = closing duplicate_word id
said_text (Refused number offset) = pair_text refused_word number offset

-- the line of a message: its ordinal, then what is said of it
unfoldable pub line_text : ℕ → Said → List ℕ
line_text ordinal said = decimal_text ordinal ++ said_text said

-- the last line: the count of leftover bytes
unfoldable pub last_text : ℕ → List ℕ
last_text left = closing end_word left

-- a line of the trial: a number of marks with how many ids are new and how many are duplicates, the least number, or a refusal's number
unfoldable pub figures_text : Figure → List ℕ
figures_text (Marks held new duplicate) = decimal_text held ++ pair_text space new duplicate
figures_text (Least held) = closing least_word held
figures_text (Figure-as-Refused number) = closing refused_opening number
