-- The record: a flat table of numbers, and the list of messages that is cut from it.
use Rattle.std.specs.Prelude.{ℕ, zero, suc, ◌*◌, ◌+◌, ◌-◌, ◌/◌, ◌%◌, Bool, ◌&&◌, List, [], ◌∷◌, ◌++◌, eqb, leb, drop, get_or, length, take}
use Rattle.lawful.specs.Lawful.{lawful}
use Rattle.messages.specs.Layout.{message_width}
use Rattle.messages.specs.Parts.{Message}
use Rattle.messages.specs.Tests.{all}
use Rattle.messages.specs.declared.parts.Place.{Place}

abbrev pub Record : Type 0
Record = List Message

-- the first n pieces of w numbers
abbrev pub cut : ℕ → ℕ → List ℕ → List (List ℕ)
cut w zero t = []
cut w (suc n) t = take w t ∷ cut w n (drop w t)

abbrev pub messages : ℕ → List ℕ → Record
messages n t = cut message_width n t

-- places run from 1; the message at a place of the record, and of the table
abbrev pub message_at : Record → Place → Message
message_at R p = get_or R (p.0 - 1) []

abbrev pub message_in : List ℕ → Place → Message
message_in t p = take message_width (drop ((p.0 - 1) * message_width) t)

-- a table with other numbers from a position on
abbrev pub with_numbers : ℕ → List ℕ → List ℕ → List ℕ
with_numbers from t xs = take from t ++ xs ++ drop (from + length xs) t

-- the table with a message in the place after n
abbrev pub with_message : ℕ → List ℕ → Message → List ℕ
with_message n t m = take (n * message_width) t ++ m ++ drop (n * message_width + message_width) t

-- room for at most 512 messages
abbrev pub most_room : ℕ
most_room = 512

abbrev pub room_of : List ℕ → ℕ
room_of t = length t / message_width

-- refusal 1 by length only: whole messages, and not too many
abbrev pub whole : List ℕ → Bool
whole t = eqb (length t % message_width) 0 && leb (length t) (most_room * message_width)

-- refusal 1: the length, the count and messages 1 to n; what stands past them is not looked at
abbrev pub lawful_record : ℕ → List ℕ → Bool
lawful_record n t = whole t && (leb n (room_of t) && all lawful (messages n t))
