-- The most bytes of each line that is printed, where a number has 5 digits.
use Rattle.std.specs.Prelude.{ℕ, ◌*◌, ◌+◌}
use Rattle.numbers.specs.Digits.{most_digits}

-- a number with its tab
abbrev pub cell_widest : ℕ
cell_widest = 1 + most_digits

-- three numbers, the first without a tab, and a line feed
abbrev pub step_widest : ℕ
step_widest = 3 * cell_widest

-- a letter, four numbers and a line feed
abbrev pub reply_widest : ℕ
reply_widest = 4 * cell_widest + 2

-- a letter, two numbers and a line feed
abbrev pub refused_widest : ℕ
refused_widest = 2 * cell_widest + 2
