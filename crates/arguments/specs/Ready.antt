-- What is known of a step once its code, and then its places, have been looked at: what the functions behind those tests rely on.
use Rattle.std.specs.Prelude.{true, List, ◌≡◌, ℕ, ◌≤◌, ◌*◌, length}
use Rattle.messages.specs.Layout.{message_width}
use Rattle.rules.specs.Codes.{most_code, row_of}
use Rattle.rules.specs.Items.{each_argument, placed}
use Rattle.rules.specs.Step.{arguments_of, code_of}
use Rattle.rules.specs.declared.codes.Argument.{Argument}

-- seven numbers, the first a code, and beside them that code's row
pub record Known (row : List Argument) (s : List ℕ) : Type 0 where
  pub seven : length s ≡ 7
  pub low : 1 ≤ code_of s
  pub high : code_of s ≤ most_code
  pub its_row : row ≡ (row_of (code_of s)).takes

-- and every place that it names in 1..n, in a table with room for n messages
pub record Ready (n : ℕ) (t : List ℕ) (row : List Argument) (s : List ℕ) : Type 0 where
  pub known : Known row s
  pub room : n * message_width ≤ length t
  pub places : each_argument (placed n) (row_of (code_of s)).takes (arguments_of s) ≡ true

-- the same for code that reads no row
abbrev pub ReadyStep : ℕ → List ℕ → List ℕ → Type 0
ReadyStep n t s = Ready n t (row_of (code_of s)).takes s
