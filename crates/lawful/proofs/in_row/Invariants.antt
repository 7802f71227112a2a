-- `lawful::in_row` meets its promise. The loop's invariant: what is asked so far and what is left of the row and of the message
-- are together what is asked of the whole.
use Rattle.std.proofs.Common.{◌≡◌, ◌&&◌, [], drop, get_or}
use Rattle.lawful.specs.Lawful.{fits, kind_ranges}
use Rattle.lawful.proofs.in_row.Given as goal

abbrev pub invariant-loop-i : goal.invariant-loop-i
invariant-loop-i l = (l.good && fits (drop l.i (get_or kind_ranges l.row [])) (drop l.i l.m)) ≡ fits (get_or kind_ranges l.row []) l.m
