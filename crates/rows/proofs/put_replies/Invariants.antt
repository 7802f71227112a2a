-- `rows::put_replies` meets its promise.
use Rattle.std.proofs.Common.{◌≡◌}
use Prim.Native.Nat.{◌*◌}
use lib.ListN.{drop}
use Rattle.record.specs.Table.{messages}
use Rattle.printing.proofs.Writing.{Going}
use Rattle.printing.specs.Printed.{lines_of, reply_line}
use Rattle.rows.specs.Rows.{reply_lines}
use Rattle.printing.specs.Widths.{reply_widest}
use Rattle.rules.specs.Said.{reply_rows}
use Rattle.rows.proofs.put_replies.Given as goal

abbrev pub invariant-loop-p : goal.invariant-loop-p
invariant-loop-p l =
    (l.printed.out.ghost_name ≡ l.initial.printed.out.ghost_name)
    × Going l.initial.printed.out.now l.initial.printed.at (reply_lines (messages l.n l.t)) (l.p * reply_widest) l.printed.out.now l.printed.at
    (lines_of reply_line (reply_rows (messages l.n l.t) l.p (drop l.p (messages l.n l.t))))
