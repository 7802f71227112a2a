-- `rows::put_steps` meets its promise.
use Rattle.std.proofs.Common.{◌≡◌}
use Prim.Native.Nat.{◌*◌, ◌≤◌}
use lib.ListN.{drop}
use Rattle.printing.proofs.Writing.{Going}
use Rattle.printing.specs.Printed.{lines_of, step_line}
use Rattle.rows.specs.Rows.{rows_by, step_lines}
use Rattle.printing.specs.Widths.{step_widest}
use Rattle.rows.proofs.put_steps.Given as goal

abbrev pub invariant-loop-i : goal.invariant-loop-i
invariant-loop-i l =
    (l.n ≤ l.i) × (l.printed.out.ghost_name ≡ l.initial.printed.out.ghost_name)
    × Going l.initial.printed.out.now l.initial.printed.at (step_lines l.numbers) (l.i * step_widest) l.printed.out.now l.printed.at
    (lines_of step_line (rows_by l.i l.n (drop l.i l.numbers)))
