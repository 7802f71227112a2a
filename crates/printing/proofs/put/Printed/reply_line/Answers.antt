-- A letter, four cells and a line feed.
use Rattle.std.proofs.Common.{arith}
use Rattle.printing.proofs.Writing.{then}
use Rattle.printing.proofs.put.Printed.reply_line.Goals as goal

pub returns-clause-put : goal.returns-clause-put
returns-clause-put c =
    then (omega arith) c.byte.ensures.put
    (then (omega arith) c.cell.ensures.put
    (then (omega arith) c.cell-2.ensures.put
    (then (omega arith) c.cell-3.ensures.put (then (omega arith) c.cell-4.ensures.put c.byte-2.ensures.put))))
