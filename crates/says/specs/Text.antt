-- Step text on lists of bytes: the parts of a line, and which lines document 01 calls readable.
use Rattle.std.specs.Prelude.{ℕ, ◌-◌, Bool, cond, List, [], ◌∷◌, map, eqb, leb, drop, get_or, length, take}
use Rattle.messages.specs.Layout.{filled}
use Rattle.messages.specs.Tests.{all, every, same}
use Rattle.rules.specs.Run.{step_width}
use Rattle.rules.specs.Step.{Step}
use Rattle.lines.specs.Lines.{Text, line_feed, onto, tab}
use Rattle.numbers.specs.Digits.{is_number, value_of}

abbrev pub letter_a : ℕ
letter_a = 65

-- the parts of a text between its tabs
abbrev pub parts : Text → List Text
parts [] = [] ∷ []
parts (x ∷ xs) = cond (eqb x tab) ([] ∷ parts xs) (onto x (parts xs))

-- a line is a body and a line feed
abbrev pub body : Text → Text
body l = take (length l - 1) l

abbrev pub is_ended : Text → Bool
is_ended l = eqb (get_or l (length l - 1) 0) line_feed

-- line 1: `A`, tab, account answers
abbrev pub answers_start : Text
answers_start = letter_a ∷ tab ∷ []

unfoldable pub is_answers_line : Text → Bool
is_answers_line l =
    every (is_ended l ∷ same (take 2 l) answers_start ∷ is_number (drop 2 (body l)) ∷ [])

unfoldable pub answers_in : Text → ℕ
answers_in l = value_of (drop 2 (body l))

-- every other line: a code and 0 to 6 arguments, parted by tabs; those left off are 0
unfoldable pub is_step_line : Text → Bool
is_step_line l =
    every (is_ended l ∷ all is_number (parts (body l)) ∷ leb (length (parts (body l))) step_width ∷ [])

unfoldable pub step_in : Text → Step
step_in l = filled step_width 0 (map value_of (parts (body l)))
