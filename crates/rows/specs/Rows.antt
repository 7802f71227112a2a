-- The lines of a list that was played, as the code comes by them: of the steps by their numbers alone, of a reply by its place in the table.
use Rattle.std.specs.Prelude.{ℕ, ◌*◌, ◌+◌, cond, List, [], ◌∷◌, eqb}
use Rattle.messages.specs.Parts.{Message}
use Rattle.record.specs.Table.{Record, message_in, messages, most_room}
use Rattle.rules.specs.Report.{house_reply, reply_mark}
use Rattle.rules.specs.Run.{most_steps}
use Rattle.rules.specs.Said.{reply_row, reply_rows}
use Rattle.lines.specs.Lines.{Text}
use Rattle.printing.specs.Printed.{lines_of, reply_line, step_line}
use Rattle.printing.specs.Widths.{reply_widest, step_widest}

-- a step of this number with n messages before it: its place, and how many messages there are after it
abbrev pub place_by : ℕ → ℕ → ℕ
place_by n number = cond (eqb number 0) (n + 1) 0

abbrev pub count_by : ℕ → ℕ → ℕ
count_by n number = cond (eqb number 0) (n + 1) n

-- the rows of the steps after `told`, which left n messages
unfoldable pub rows_by : ℕ → ℕ → List ℕ → List (List ℕ)
rows_by told n [] = []
rows_by told n (k ∷ ks) = ((told + 1) ∷ k ∷ place_by n k ∷ []) ∷ rows_by (told + 1) (count_by n k) ks

abbrev pub step_lines : List ℕ → Text
step_lines numbers = lines_of step_line (rows_by 0 0 numbers)

-- the line of a message with p messages earlier, if it is a house reply
unfoldable pub line_if : Record → ℕ → Message → Text
line_if earlier p x = cond (house_reply x) (reply_line (reply_row earlier p (reply_mark x))) []

abbrev pub line_after : List ℕ → ℕ → Text
line_after t p = line_if (messages p t) p (message_in t (record { 0 = p + 1 }))

abbrev pub reply_lines : Record → Text
reply_lines R = lines_of reply_line (reply_rows R 0 R)

-- the most bytes of them all, were every message a house reply and every number of 5 digits
abbrev pub most_printed : ℕ
most_printed = most_steps * step_widest + most_room * reply_widest
