-- A number, two cells and a line feed.
use Rattle.std.proofs.Common.{arith}
use Rattle.printing.proofs.Writing.{then}
use Rattle.printing.proofs.put.Printed.step_line.Goals as goal

pub returns-clause-put : goal.returns-clause-put
returns-clause-put c =
    then (omega arith) c.number.ensures.put
    (then (omega arith) c.cell.ensures.put (then (omega arith) c.cell-2.ensures.put c.byte.ensures.put))
