-- What the loop of `says::numbers_said` keeps.
use Rattle.says.proofs.Said.{Going}
use Rattle.says.proofs.numbers_said.Given as goal

abbrev pub invariant-loop-i : goal.invariant-loop-i
invariant-loop-i l = Going (goal.iterator-loop-i).next_gives l.i-iterator l.body l.numbers
