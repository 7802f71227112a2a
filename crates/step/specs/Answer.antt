-- What a step answers: document 01's number and place for each case, and what the promise of a step says of answer and table by the
-- step's outcome.
use Rattle.std.specs.Prelude.{Err, List, Ok, Result, ◌≡◌, ℕ, ◌≤◌}
use Rattle.messages.specs.declared.parts.Place.{Place}
use Rattle.record.specs.Table.{most_room}
use Rattle.refusals.specs.Numbers.{refusal_number}
use Rattle.refusals.specs.declared.Refusal.{Refusal}
use Rattle.rules.specs.Step.{Outcome, number_of, place_of, table_after}

abbrev pub answer_number : Result Place Refusal → ℕ
answer_number (Ok p) = 0
answer_number (Err e) = refusal_number e

abbrev pub answer_place : Result Place Refusal → ℕ
answer_place (Ok p) = p.0
answer_place (Err e) = 0

pub record Answered (n : ℕ) (t : List ℕ) (o : Outcome) (r : Result Place Refusal) (left : List ℕ) : Type 0 where
  pub number : answer_number r ≡ number_of o
  pub place : answer_place r ≡ place_of n o
  pub table : left ≡ table_after n t o
  -- so a place fits 16 bits
  pub small : answer_place r ≤ most_room
