-- What the reader says of a text: its account answers and its steps, or the first thing that is wrong with it.
use Rattle.std.specs.Prelude.{ℕ, ◌*◌, ◌+◌, ◌&&◌, cond, List, [], ◌∷◌, ◌++◌, leb, ltb, length}
use Rattle.messages.specs.Layout.{flat}
use Rattle.rules.specs.Run.{most_steps, over, step_width}
use Rattle.rules.specs.Step.{Step}
use Rattle.lines.specs.Lines.{Text, lines}
use Rattle.says.specs.Text.{answers_in, is_answers_line, is_step_line, step_in}

pub data Reading : Type 0 where
  -- account answers, steps
  says : ℕ → List Step → Reading
  -- the first unreadable line
  unreadable : ℕ → Reading
  too_long : Reading

-- the lines after line 1, of which `ss` are read: the next is line length ss + 2
unfoldable pub read_steps : ℕ → List Step → List Text → Reading
read_steps answers ss [] = says answers ss
read_steps answers ss (l ∷ ls) =
    cond (is_step_line l)
    (cond (ltb (length ss) most_steps) (read_steps answers (ss ++ step_in l ∷ []) ls) too_long)
    (unreadable (length ss + 2))

unfoldable pub read_lines : List Text → Reading
read_lines [] = unreadable 1
read_lines (l ∷ ls) = cond (is_answers_line l) (read_steps (answers_in l) [] ls) (unreadable 1)

abbrev pub most_bytes : ℕ
most_bytes = 16384

-- into a step table of so many numbers
unfoldable pub read_text : ℕ → Text → Reading
read_text room t =
    cond (leb (length t) most_bytes && leb (most_steps * step_width) room) (read_lines (lines t)) too_long

-- what is returned, and the step table afterwards
abbrev pub number_of : Reading → ℕ
number_of (says answers ss) = 0
number_of (unreadable line) = 10
number_of too_long = 11

abbrev pub answers_of : Reading → ℕ
answers_of (says answers ss) = answers
answers_of (unreadable line) = 0
answers_of too_long = 0

abbrev pub steps_in : Reading → List Step
steps_in (says answers ss) = ss
steps_in (unreadable line) = []
steps_in too_long = []

abbrev pub count_of : Reading → ℕ
count_of o = length (steps_in o)

abbrev pub line_of : Reading → ℕ
line_of (says answers ss) = 0
line_of (unreadable line) = line
line_of too_long = 0

-- a refused text has no steps, and so leaves the table as it was
abbrev pub table_after : List ℕ → Reading → List ℕ
table_after table o = over (flat (steps_in o)) table
