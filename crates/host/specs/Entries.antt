-- What the entries for hosts return and leave, by the definitions of a step, of a run and of a text.
use Rattle.std.specs.Prelude.{List, ◌≡◌, ℕ}
use Rattle.rules.specs.Run.{Ran as RanOf}
use Rattle.rules.specs.Step.{Outcome, number_of, place_of, table_after}
use Rattle.steptext.specs.Read.{
  Reading,
  answers_of,
  count_of,
  line_of,
  number_of as text_number,
  table_after as steps_after,
}

pub record Stepped (n : ℕ) (t : List ℕ) (o : Outcome) (r place : ℕ) (left : List ℕ) : Type 0 where
  pub number : r ≡ number_of o
  pub new_place : place ≡ place_of n o
  pub table_left : left ≡ table_after n t o

pub record Ran (o : RanOf) (r n : ℕ) (table bytes : List ℕ) : Type 0 where
  pub number : r ≡ o.number
  pub count : n ≡ o.n
  pub table_left : table ≡ o.table
  pub bytes_left : bytes ≡ o.verdict_bytes

pub record Read (t : List ℕ) (o : Reading) (r answers count line : ℕ) (left : List ℕ) : Type 0 where
  pub number : r ≡ text_number o
  pub said : answers ≡ answers_of o
  pub how_many : count ≡ count_of o
  pub at : line ≡ line_of o
  pub steps_left : left ≡ steps_after t o
