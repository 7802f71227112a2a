-- A letter, two cells and a line feed.
use Rattle.std.proofs.Common.{arith, rules}
use Rattle.printing.proofs.Writing.{then}
use Rattle.printing.proofs.printed.put_refused_line.Goals as goal

pub returns : goal.returns
returns c =
    let put =
    then (omega arith) c.byte.ensures.put
    (then (omega arith) c.cell.ensures.put (then (omega arith) c.cell-2.ensures.put c.byte-2.ensures.put)) in
    search (rules, put)
