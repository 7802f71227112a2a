-- Steps taken one after the other, each judged against what the steps before it left: with account answers of its own, as a host takes
-- them, or all with the same, as a run of a list does from an empty record.
use Rattle.std.specs.Prelude.{ℕ, ◌*◌, ◌/◌, ◌%◌, Bool, ◌&&◌, List, [], ◌∷◌, ◌++◌, map, eqb, leb, drop, length}
use Rattle.messages.specs.Layout.{flat}
use Rattle.record.specs.Table.{Record, cut, room_of, whole}
use Rattle.rules.specs.Gates.{Gate, ◌unless◌, through}
use Rattle.rules.specs.Step.{Outcome, Step, judge, number_of, record_after}

-- a step, with the account answers when it is taken
pub record Call : Type 0 where
  pub answers : ℕ
  pub step : Step

abbrev pub judge_call : ℕ → Record → Call → Outcome
judge_call room R c = judge c.answers room R c.step

-- the record after a list of calls
unfoldable pub called : ℕ → Record → List Call → Record
called room R [] = R
called room R (c ∷ cs) = called room (record_after R (judge_call room R c)) cs

-- a list of steps, all with the same account answers: the record after it, and the number of each step
abbrev pub calls_with : ℕ → List Step → List Call
calls_with answers ss = map (λ s. record { answers = answers; step = s }) ss

unfoldable pub played : ℕ → ℕ → Record → List Step → Record
played answers room R ss = called room R (calls_with answers ss)

unfoldable pub verdicts : ℕ → ℕ → Record → List Step → List ℕ
verdicts answers room R [] = []
verdicts answers room R (s ∷ ss) =
    number_of (judge answers room R s) ∷ verdicts answers room (record_after R (judge answers room R s)) ss

-- written over the front of a table; later numbers stay
abbrev pub over : List ℕ → List ℕ → List ℕ
over xs t = xs ++ drop (length xs) t

abbrev pub step_width : ℕ
step_width = 7

abbrev pub most_steps : ℕ
most_steps = 1024

-- the steps of a list of numbers
abbrev pub step_count : List ℕ → ℕ
step_count xs = length xs / step_width

abbrev pub steps_of : List ℕ → List Step
steps_of xs = cut step_width (step_count xs) xs

-- refusal 8
abbrev pub whole_steps : List ℕ → Bool
whole_steps xs = eqb (length xs % step_width) 0 && leb (length xs) (most_steps * step_width)

-- what a run returns and leaves: the number, n, the record table and the verdict bytes
pub record Ran : Type 0 where
  pub number : ℕ
  pub n : ℕ
  pub table : List ℕ
  pub verdict_bytes : List ℕ

-- refusals 1 (length only), 8 and 9 in their order; a refused run has changed nothing; else every step has been played
module _ (answers : ℕ) (t xs bytes : List ℕ) where
  abbrev pub run_gates : List Gate
  run_gates = 1 unless whole t ∷ 8 unless whole_steps xs ∷ 9 unless leb (step_count xs) (length bytes) ∷ []

  abbrev pub run_refused : ℕ → Ran
  run_refused k = record { number = k; n = 0; table = t; verdict_bytes = bytes }

  abbrev pub run_played : Ran
  run_played =
      let R = played answers (room_of t) [] (steps_of xs) in
      record {
        number = 0;
        n = length R;
        table = over (flat R) t;
        verdict_bytes = over (verdicts answers (room_of t) [] (steps_of xs)) bytes;
      }

  unfoldable pub run : Ran
  run = through run_gates run_refused run_played
