-- A number of step text, on lists of bytes: its digits, its value, and which texts document 01 calls a number.
use Rattle.std.specs.Prelude.{ℕ, ◌*◌, ◌+◌, ◌-◌, Bool, ◌||◌, not, [], ◌∷◌, eqb, leb, get_or, length}
use Rattle.lines.specs.Lines.{Text}
use Rattle.messages.specs.Tests.{all, between, every}

abbrev pub digit0 : ℕ
digit0 = 48

abbrev pub is_digit : ℕ → Bool
is_digit x = between digit0 x (digit0 + 9)

-- the digits after those that have given a value
abbrev pub value_from : ℕ → Text → ℕ
value_from value [] = value
value_from value (x ∷ xs) = value_from (value * 10 + (x - digit0)) xs

abbrev pub value_of : Text → ℕ
value_of xs = value_from 0 xs

abbrev pub most_digits : ℕ
most_digits = 5

abbrev pub most_number : ℕ
most_number = 65535

abbrev pub no_needless0 : Text → Bool
no_needless0 xs = eqb (length xs) 1 || not (eqb (get_or xs 0 0) digit0)

-- 1 to 5 digits, no needless leading 0, at most 65,535
unfoldable pub is_number : Text → Bool
is_number xs =
    every (between 1 (length xs) most_digits ∷ no_needless0 xs ∷ all is_digit xs ∷ leb (value_of xs) most_number ∷ [])
