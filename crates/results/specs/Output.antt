-- What the program prints for a text: a line for each step and a line for each house reply, or one line if the text is refused.
use Rattle.std.specs.Prelude.{ℕ, ◌*◌, List, [], ◌++◌}
use Rattle.lines.specs.Lines.{Text}
use Rattle.printing.specs.Printed.{lines_of, refused_line, reply_line, step_line}
use Rattle.rules.specs.Run.{most_steps, played, step_width}
use Rattle.rules.specs.Said.{reply_rows, step_rows}
use Rattle.rules.specs.Step.{Step}
use Rattle.steptext.specs.Read.{Reading, read_text, says, too_long, unreadable}

-- of steps played from an empty record
unfoldable pub results : ℕ → ℕ → List Step → Text
results answers room ss =
    let R = played answers room [] ss in
    lines_of step_line (step_rows answers room 0 [] ss) ++ lines_of reply_line (reply_rows R 0 R)

-- of a text as the reader says it
abbrev pub results_of : ℕ → Reading → Text
results_of room (says answers ss) = results answers room ss
results_of room (unreadable at) = refused_line 10 at
results_of room too_long = refused_line 11 0

-- what the reader says of a text, with the program's step table
abbrev pub reading : Text → Reading
reading text = read_text (most_steps * step_width) text

-- of a text, with room for so many messages
unfoldable pub output : ℕ → Text → Text
output room text = results_of room (reading text)
