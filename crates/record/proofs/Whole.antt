-- What refusal 1 lets through: a table of whole messages, at most 512 of them.
use mathlib.Core.Bool.{true}
use mathlib.Core.List.{List}
use mathlib.Core.Path.{◌≡◌}
use Prim.Native.Nat.{ℕ, ◌*◌, ◌%◌, ◌≤◌, ◌<◌}
use native.Mathlib.Omega.{arith}
use borrow.Author.Tests.{leb-true}
use lib.Dec.{eqb, leb}
use lib.ListN.{length}
use Rattle.messages.proofs.Chain.{right_of}
use Rattle.messages.specs.Layout.{message_width}
use Rattle.record.specs.Table.{most_room, room_of, whole}

-- a whole table has room for at most 512
pub most : (t : List ℕ) → whole t ≡ true → length t ≤ most_room * message_width
most t e = leb-true _ _ (right_of (eqb (length t % message_width) 0) (leb (length t) (most_room * message_width)) e)

-- a place with room is one of 512
pub under_most : (n : ℕ) (t : List ℕ) → whole t ≡ true → n < room_of t → n < most_room
under_most n t e h = omega (arith, most t e)
