-- What the reader of a text answers: document 01's numbers for each case; and what its promise says of answer and step table.
use Rattle.std.specs.Prelude.{Err, List, MatchOption, Ok, Option, Result, [], ◌≡◌, ℕ, ◌*◌, ◌+◌, ◌≤◌, take}
use Rattle.messages.specs.Layout.{flat}
use Rattle.rules.specs.Run.{most_steps, step_width}
use Rattle.lines.specs.Lines.{Text}
use Rattle.steptext.specs.Read.{Reading, answers_of, count_of, line_of, number_of, read_lines, read_steps, steps_in, table_after, unreadable}
use Rattle.steptext.specs.declared.told.Said.{Said}
use Rattle.steptext.specs.declared.told.TextRefusal.{TextRefusal}
use Rattle.steptext.specs.declared.told.TextRefusal.TheVariants.{TooLong, Unreadable}

abbrev pub refusal_number : TextRefusal → ℕ
refusal_number (Unreadable line) = 10
refusal_number TooLong = 11

abbrev pub refusal_line : TextRefusal → ℕ
refusal_line (Unreadable line) = line
refusal_line TooLong = 0

abbrev pub text_number : Result Said TextRefusal → ℕ
text_number (Ok said) = 0
text_number (Err refusal) = refusal_number refusal

abbrev pub text_answers : Result Said TextRefusal → ℕ
text_answers (Ok said) = said.answers
text_answers (Err refusal) = 0

abbrev pub text_count : Result Said TextRefusal → ℕ
text_count (Ok said) = said.count
text_count (Err refusal) = 0

abbrev pub text_line : Result Said TextRefusal → ℕ
text_line (Ok said) = 0
text_line (Err refusal) = refusal_line refusal

-- the answer, as the definition says
pub record Tells (o : Reading) (r : Result Said TextRefusal) : Type 0 where
  pub number : text_number r ≡ number_of o
  pub answers : text_answers r ≡ answers_of o
  pub count : text_count r ≡ count_of o
  pub line : text_line r ≡ line_of o
  -- so both fit 16 bits
  pub few : text_count r ≤ most_steps
  pub near : text_line r ≤ most_steps + 2

-- and the step table
pub record Leaves (o : Reading) (t : List ℕ) (r : Result Said TextRefusal) (left : List ℕ) : Type 0 where
  pub tells : Tells o r
  pub table : left ≡ table_after t o

-- line 1 alone: with its account answers the lines after it decide, and without them the text is refused
abbrev pub BeginsWith : List Text → Option ℕ → List Text → Type 0
BeginsWith ls r after =
    MatchOption r (read_lines ls ≡ unreadable 1) (λ answers. read_lines ls ≡ read_steps answers [] after)

-- while the steps are gathered, only they matter
pub record Gathers (o : Reading) (r : Result Said TextRefusal) (left : List ℕ) : Type 0 where
  pub tells : Tells o r
  pub gathered : take (count_of o * step_width) left ≡ flat (steps_in o)
