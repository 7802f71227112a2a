-- Reached records: what the theorems speak of. Any list of calls will do, with forgeries and refused steps in it, and each call has account
-- answers of its own; those of a run are the case where all are the same.
use Rattle.std.specs.Prelude.{ℕ, true, List, [], ◌≡◌}
use Rattle.record.specs.Table.{Record, messages, room_of, whole}
use Rattle.rules.specs.Run.{Call, called}

-- some list of calls, played from an empty record with this room, leaves R
pub record Reached (room : ℕ) (R : Record) : Type 0 where
  pub calls : List Call
  pub left : R ≡ called room [] calls

-- the first n messages of a table are a reached record, for the room that the table has
pub record HoldsReached (n : ℕ) (t : List ℕ) : Type 0 where
  pub measured : whole t ≡ true
  pub reached : Reached (room_of t) (messages n t)
