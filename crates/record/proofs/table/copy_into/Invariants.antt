-- `record::table::copy_into` meets its promise.
use lib.ListN.{length}
use lib.Seq.{paste}
use mathlib.Core.Path.{◌≡◌}
use Rattle.record.proofs.table.copy_into.Given as goal

abbrev pub invariant-loop-i : goal.invariant-loop-i
invariant-loop-i l = (length l.t ≡ length l.initial.t) × (l.t ≡ paste l.initial.t l.from l.xs l.i)
