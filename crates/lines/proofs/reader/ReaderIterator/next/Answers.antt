-- The line that the reader hands over is the first of those that it has left.
use Rattle.std.proofs.Common.{ap, arith, length, rules}
use Rattle.lines.proofs.Parted.{lines_split}
use Rattle.lines.proofs.reader.ReaderIterator.next.Goals as goal

pub returns-clause-steps : goal.returns-clause-steps
returns-clause-steps c =
    (lines_split c.args.self.now.text.now c.args.self.now.at c.in_ok-line.line.now c.in_ok-line.ensures.0 c.in_ok-line.ensures.1, search rules)

pub returns-clause-goes : goal.returns-clause-goes
returns-clause-goes c =
    let e = lines_split c.args.self.now.text.now c.args.self.now.at c.in_ok-line.line.now c.in_ok-line.ensures.0 c.in_ok-line.ensures.1 in
    record { on = λ _. (tt, tt, omega (arith, ap length e)); keeps = tt; rests = λ _. tt }
