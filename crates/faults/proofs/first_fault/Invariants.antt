-- `faults::first_fault` meets its promise.
use Prim.Native.Nat.{◌≤◌, min}
use lib.ListN.{drop}
use mathlib.Core.Path.{◌≡◌}
use Rattle.record.specs.Table.{messages}
use Rattle.rules.specs.Step.{arguments_of}
use Rattle.faults.specs.Faults.{fault_number, faults, fine}
use Rattle.faults.proofs.first_fault.Given as goal

abbrev pub invariant-loop-i : goal.invariant-loop-i
invariant-loop-i l =
    (4 ≤ fault_number l.first) × (fault_number l.first ≤ fine)
    × (min (fault_number l.first) (faults l.n (messages l.n l.t) (drop l.i l.row) (drop l.i (arguments_of l.s)))
    ≡ faults l.n (messages l.n l.t) l.row (arguments_of l.s))
