-- What comes of a text that is played with room for 512 messages: the bytes printed, and the record.
use Rattle.std.specs.Prelude.{ℕ, ◌≤◌, List, [], ◌≡◌, length, take}
use Rattle.messages.specs.Layout.{flat}
use Rattle.record.specs.Table.{most_room}
use Rattle.rules.specs.Run.{over, played}
use Rattle.steptext.specs.Read.{Reading, says, too_long, unreadable}
use Rattle.results.specs.Output.{output, reading}

-- the record table; a refused text leaves it as found
abbrev pub record_left : List ℕ → Reading → List ℕ
record_left t (says answers ss) = over (flat (played answers most_room [] ss)) t
record_left t (unreadable at) = t
record_left t too_long = t

-- r bytes stand at the front of those lent; later ones stay
pub record Shows (text t out : List ℕ) (r : ℕ) (table out_left : List ℕ) : Type 0 where
  pub count : r ≡ length (output most_room text)
  pub printed : out_left ≡ over (output most_room text) out
  pub table_left : table ≡ record_left t (reading text)
  -- so they are a part of those lent, as a caller wants to hear it that lends just them on
  pub within : r ≤ length out_left
  pub part : r ≡ length (take r out_left)
