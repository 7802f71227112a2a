-- What the loop of `numbers::read_number` keeps.
use Rattle.std.proofs.Common.{◌≤◌, length}
use Rattle.numbers.proofs.Sums.{Reading}
use Rattle.numbers.specs.Digits.{most_digits}
use Rattle.numbers.proofs.read_number.Given as goal

abbrev pub invariant-loop-digit : goal.invariant-loop-digit
invariant-loop-digit l = record { few : length l.xs ≤ most_digits; reading : Reading l.xs l.sum l.digit-index }
