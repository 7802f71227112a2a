-- The digits of a number, one by one, and what they come to.
use Rattle.std.proofs.Common.{◌&&◌, ◌≡◌, ◌∙◌, sym, ap, ℕ, ◌+◌, ◌^◌, ◌≤◌, ◌<◌, drop, get_or, length}
use Rattle.lines.proofs.Scans.{from}
use Rattle.messages.specs.Tests.{all}
use Rattle.lines.specs.Lines.{Text}
use Rattle.numbers.specs.Digits.{is_digit, value_from, value_of}

-- some digits are read, of which the sum has come
pub record Reading (xs : Text) (sum i : ℕ) : Type 0 where
  pub upto : i ≤ length xs
  pub digits : all is_digit (drop i xs) ≡ all is_digit xs
  pub finish : value_from sum (drop i xs) ≡ value_of xs
  pub small : sum < 10 ^ i

module _ (xs : Text) (sum i : ℕ) (reading : Reading xs sum i) (more : i < length xs) where
  -- a digit, and those after it
  pub split_digits : (is_digit (get_or xs i 0) && all is_digit (drop (i + 1) xs)) ≡ all is_digit xs
  split_digits = ap (all is_digit) (sym (from xs i more)) ∙ reading.digits
