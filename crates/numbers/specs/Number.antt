-- The number that a text says, if it says one.
use Rattle.std.specs.Prelude.{ℕ, cond, None, Option, Some}
use Rattle.lines.specs.Lines.{Text}
use Rattle.numbers.specs.Digits.{is_number, value_of}

abbrev pub number_in : Text → Option ℕ
number_in xs = cond (is_number xs) (Some (value_of xs)) None
