-- The lines that are printed: numbers with tabs between and a line feed after.
use Rattle.std.specs.Prelude.{ℕ, List, [], ◌∷◌, ◌++◌, map}
use Rattle.lines.specs.Lines.{Text, line_feed, tab}
use Rattle.printing.specs.Decimal.{decimal}

abbrev pub letter_r : ℕ
letter_r = 82

abbrev pub letter_e : ℕ
letter_e = 69

-- a line: its parts with tabs between, and a line feed after the last
abbrev pub line : List Text → Text
line [] = line_feed ∷ []
line (x ∷ []) = x ++ (line_feed ∷ [])
line (x ∷ y ∷ ys) = x ++ (tab ∷ line (y ∷ ys))

-- ordinal, number, place
abbrev pub step_line : List ℕ → Text
step_line row = line (map decimal row)

-- `R`, place, seller, buyer, report
abbrev pub reply_line : List ℕ → Text
reply_line row = line ((letter_r ∷ []) ∷ map decimal row)

-- `E`, the number, the line
abbrev pub refused_line : ℕ → ℕ → Text
refused_line number at = line ((letter_e ∷ []) ∷ map decimal (number ∷ at ∷ []))

-- the lines of some rows
abbrev pub lines_of : (List ℕ → Text) → List (List ℕ) → Text
lines_of f [] = []
lines_of f (r ∷ rs) = f r ++ lines_of f rs
