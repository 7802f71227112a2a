-- What the loop of `steptext::read::gather` keeps.
use Rattle.lines.specs.Handed.{lines_left}
use Rattle.steptext.proofs.Gathered.{Going}
use Rattle.steptext.proofs.read.gather.Given as goal

abbrev pub invariant-loop-line : goal.invariant-loop-line
invariant-loop-line l = Going (lines_left l.fn.reader) l.answers l.initial.t l.t (lines_left l.line-iterator) l.count
