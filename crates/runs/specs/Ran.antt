-- What a run answers: document 01's number and n for each case; and what the promise of a run says of answer, table and verdict bytes.
use Rattle.std.specs.Prelude.{Bool, Err, false, not, Ok, Result, true, List, [], ◌≡◌, ℕ, ◌≤◌, eqb, length}
use Rattle.messages.specs.Layout.{flat}
use Rattle.record.specs.Table.{most_room, room_of}
use Rattle.rules.specs.Run.{Ran as RanOf, over, played, steps_of, verdicts}
use Rattle.refusals.specs.Numbers.{refusal_number}
use Rattle.refusals.specs.declared.Refusal.{Refusal}

abbrev pub ran_number : Result ℕ Refusal → ℕ
ran_number (Ok n) = 0
ran_number (Err e) = refusal_number e

abbrev pub ran_count : Result ℕ Refusal → ℕ
ran_count (Ok n) = n
ran_count (Err e) = 0

abbrev pub is_refused : Result ℕ Refusal → Bool
is_refused (Ok n) = false
is_refused (Err e) = true

-- as the definition says
pub record Leaves (o : RanOf) (r : Result ℕ Refusal) (table bytes : List ℕ) : Type 0 where
  pub number : ran_number r ≡ o.number
  pub n : ran_count r ≡ o.n
  -- an empty record is told from a refusal
  pub told_apart : is_refused r ≡ not (eqb o.number 0)
  pub table_left : table ≡ o.table
  pub bytes_left : bytes ≡ o.verdict_bytes
  -- so n fits 16 bits
  pub small : ran_count r ≤ most_room

-- of a run that is not refused
pub record Plays (answers : ℕ) (t xs bytes : List ℕ) (n : ℕ) (table bytes_left : List ℕ) : Type 0 where
  pub counted : n ≡ length (played answers (room_of t) [] (steps_of xs))
  pub table_left : table ≡ over (flat (played answers (room_of t) [] (steps_of xs))) t
  pub verdicts_left : bytes_left ≡ over (verdicts answers (room_of t) [] (steps_of xs)) bytes
  pub within : n ≤ room_of t
