-- `arguments::given::find` meets its promise.
use lib.ListN.{drop}
use mathlib.Core.Path.{◌≡◌}
use Rattle.rules.specs.Step.{arguments_of}
use Rattle.arguments.specs.Given.{found_in}
use Rattle.arguments.proofs.given.find.Given as goal

abbrev pub invariant-loop-i : goal.invariant-loop-i
invariant-loop-i l = found_in l.argument (drop l.i l.row) (drop l.i (arguments_of l.s)) ≡ found_in l.argument l.row (arguments_of l.s)
