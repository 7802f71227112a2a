-- The text of a number.
use Rattle.std.specs.Prelude.{ℕ, zero, suc, ◌+◌, ◌/◌, ◌%◌, ◌≤◌, cond, true, [], ◌∷◌, ◌++◌, ◌≡◌, ltb}
use Rattle.lines.specs.Lines.{Text}
use Rattle.numbers.specs.Digits.{digit0, is_number, most_digits, most_number, value_of}

-- a number's digits: those of a tenth of it, if it is 10 or more, then its last; `most` is how many there may be
unfoldable pub digits : ℕ → ℕ → Text
digits zero n = []
digits (suc most) n = cond (ltb n 10) [] (digits most (n / 10)) ++ ((digit0 + n % 10) ∷ [])

-- of a number to 65,535
abbrev pub decimal : ℕ → Text
decimal n = digits most_digits n

-- it is a number of step text, no needless leading 0 and all, and reads as that number
abbrev pub ReadsBack : Type 0
ReadsBack = (n : ℕ) → n ≤ most_number → (is_number (decimal n) ≡ true) × (value_of (decimal n) ≡ n)
