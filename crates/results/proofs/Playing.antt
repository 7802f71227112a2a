-- What a run leaves, printed, is what the definitions print.
use mathlib.Core.List.{List, [], ◌++◌}
use mathlib.Core.Path.{◌≡◌, ◌∙◌, ap, ap₂}
use Prim.Native.Nat.{ℕ, ◌*◌, ◌≤◌}
use native.Mathlib.Omega.{arith}
use mathlib.Core.Bool.{true}
use Rattle.messages.specs.Layout.{message_width}
use lib.ListN.{drop, length, take}
use lib.Seq.{take_at}
use Rattle.record.proofs.Cut.{length_cut}
use Rattle.record.proofs.Whole.{most}
use Rattle.record.specs.Table.{Record, messages, most_room, room_of, whole}
use Rattle.rules.proofs.Runs.{left_is, verdicts_length}
use Rattle.rules.specs.Run.{played, step_count, step_width, steps_of, verdicts}
use Rattle.runs.specs.Ran.{Plays}
use Rattle.results.proofs.Told.{rows_told}
use Rattle.printing.specs.Printed.{lines_of, step_line}
use Rattle.results.specs.Output.{results}
use Rattle.rows.specs.Rows.{reply_lines, step_lines}

-- the messages of a whole table are within it, and no more than it may have
pub in_table : (t : List ℕ) (n : ℕ) → whole t ≡ true → n ≤ room_of t → (n * message_width ≤ length t) × (n ≤ most_room)
in_table t n w h = let l = most t w in (omega arith, omega arith)

module _ (answers : ℕ) (t xs bytes : List ℕ) (n : ℕ) (table left : List ℕ) (plays : Plays answers t xs bytes n table left) where
  -- the bytes of the steps, and the messages
  numbers : take (step_count xs) left ≡ verdicts answers (room_of t) [] (steps_of xs)
  numbers =
      let said = verdicts answers (room_of t) [] (steps_of xs) in
      ap (take (step_count xs)) plays.verdicts_left
      ∙ take_at said (drop (length said) bytes) (step_count xs)
      (verdicts_length answers (room_of t) [] (steps_of xs) ∙ length_cut step_width (step_count xs) xs)

  record_is : messages n table ≡ played answers (room_of t) [] (steps_of xs)
  record_is = ap₂ messages plays.counted plays.table_left ∙ left_is answers t xs bytes

  pub printed : step_lines (take (step_count xs) left) ++ reply_lines (messages n table) ≡ results answers (room_of t) (steps_of xs)
  unfolding results
  printed =
      ap₂ (λ (vs : List ℕ) (R : Record). step_lines vs ++ reply_lines R) numbers record_is
      ∙ ap (λ (rows : List (List ℕ)). lines_of step_line rows ++ reply_lines (played answers (room_of t) [] (steps_of xs)))
      (rows_told answers (room_of t) 0 [] (steps_of xs))
