-- The lists P1 to P10 of document 01, and those of step 38, as rows of one table: account answers, room, steps, and what 01 and 02 say of
-- them: ordinal, number and place of every step; place, seller, buyer and report of every house reply.
use Rattle.std.specs.Prelude.{ℕ, Bool, ◌&&◌, List, [], ◌∷◌, ◌++◌, length}
use Rattle.messages.specs.Tests.{all, same}
use Rattle.rules.specs.Run.{played}
use Rattle.rules.specs.Said.{reply_rows, step_rows}
use Rattle.rules.specs.Step.{Step}

pub record Trial : Type 0 where
  pub answers : ℕ
  pub room : ℕ
  -- an argument left off counts as 0
  pub steps : List Step
  -- ordinal, number, place
  pub says : List (List ℕ)
  -- place, seller, buyer, report
  pub reports : List (List ℕ)

-- a list of rows as one list, each with its length, so that lists of rows are compared as lists of numbers
unfoldable pub written : List (List ℕ) → List ℕ
written [] = []
written (r ∷ rs) = length r ∷ (r ++ written rs)

unfoldable pub right : Trial → Bool
right x =
    let R = played x.answers x.room [] x.steps in
    same (written (step_rows x.answers x.room 0 [] x.steps)) (written x.says) && same (written (reply_rows R 0 R)) (written x.reports)

-- a row of 1 to 6 numbers: a step, as its line of step text has it, and what is said of it
abbrev one : ℕ → List ℕ
one k = k ∷ []

abbrev two : ℕ → ℕ → List ℕ
two k x = k ∷ x ∷ []

abbrev three : ℕ → ℕ → ℕ → List ℕ
three k x y = k ∷ x ∷ y ∷ []

abbrev four : ℕ → ℕ → ℕ → ℕ → List ℕ
four k x y z = k ∷ x ∷ y ∷ z ∷ []

abbrev five : ℕ → ℕ → ℕ → ℕ → ℕ → List ℕ
five k x y z w = k ∷ x ∷ y ∷ z ∷ w ∷ []

abbrev six : ℕ → ℕ → ℕ → ℕ → ℕ → ℕ → List ℕ
six k x y z w v = k ∷ x ∷ y ∷ z ∷ w ∷ v ∷ []

-- account 3 is good
abbrev trial : ℕ → List Step → List (List ℕ) → List (List ℕ) → Trial
trial room steps says reports = record { answers = 8; room = room; steps = steps; says = says; reports = reports }

unfoldable pub trials : List Trial
trials =
    -- P1
    trial 512 (three 1 3 2 ∷ three 2 2 1 ∷ four 3 3 1 2 ∷ four 4 2 2 3 ∷ two 5 4 ∷ four 31 2 2 3 ∷ two 5 6 ∷ [])
    (three 1 0 1 ∷ three 2 0 2 ∷ three 3 0 3 ∷ three 4 0 4 ∷ three 5 0 5 ∷ three 6 0 6 ∷ three 7 6 0 ∷ []) (four 5 2 3 20 ∷ [])
    -- P2
    ∷ trial 512 (three 1 0 2 ∷ three 2 2 1 ∷ four 3 0 1 2 ∷ four 4 2 2 3 ∷ two 5 4 ∷ [])
    (three 1 0 1 ∷ three 2 0 2 ∷ three 3 0 3 ∷ three 4 0 4 ∷ three 5 0 5 ∷ []) (four 5 2 0 20 ∷ [])
    -- P3
    ∷ trial 512 (three 1 0 2 ∷ three 2 2 1 ∷ four 33 2 0 1 ∷ two 5 3 ∷ [])
    (three 1 0 1 ∷ three 2 0 2 ∷ three 3 0 3 ∷ three 4 6 0 ∷ []) []
    -- P4
    ∷ trial 512 (three 1 0 0 ∷ three 2 0 1 ∷ four 33 0 0 1 ∷ two 5 3 ∷ [])
    (three 1 0 1 ∷ three 2 0 2 ∷ three 3 0 3 ∷ three 4 0 4 ∷ []) (four 4 0 0 21 ∷ [])
    -- P5
    ∷ trial 512 (three 1 3 0 ∷ three 2 0 1 ∷ four 3 3 1 2 ∷ five 25 0 2 3 3 ∷ two 5 4 ∷ [])
    (three 1 0 1 ∷ three 2 0 2 ∷ three 3 0 3 ∷ three 4 0 4 ∷ three 5 0 5 ∷ []) (four 5 0 3 20 ∷ [])
    -- P6
    ∷ trial 512 (three 1 3 2 ∷ three 2 2 1 ∷ three 1 4 2 ∷ five 8 4 2 2 2 ∷ four 3 4 3 4 ∷ [])
    (three 1 0 1 ∷ three 2 0 2 ∷ three 3 0 3 ∷ three 4 0 4 ∷ three 5 6 0 ∷ []) []
    -- P7
    ∷ trial 512 (three 1 3 2 ∷ four 6 4 2 1 ∷ three 2 2 2 ∷ four 3 4 2 3 ∷ [])
    (three 1 0 1 ∷ three 2 0 2 ∷ three 3 0 3 ∷ three 4 6 0 ∷ []) []
    -- P8
    ∷ trial 512 (three 1 3 2 ∷ four 7 2 0 1 ∷ [])
    (three 1 0 1 ∷ three 2 5 0 ∷ []) []
    -- P8 with `1 0 2` first
    ∷ trial 512 (three 1 0 2 ∷ three 1 3 2 ∷ four 7 2 0 1 ∷ [])
    (three 1 0 1 ∷ three 2 0 2 ∷ three 3 0 3 ∷ []) []
    -- P9
    ∷ trial 512 (three 1 15 2 ∷ three 1 16 2 ∷ four 1 3 2 7 ∷ one 0 ∷ one 39 ∷ [])
    (three 1 0 1 ∷ three 2 3 0 ∷ three 3 3 0 ∷ three 4 2 0 ∷ three 5 2 0 ∷ []) []
    -- P9, `5 1` first
    ∷ trial 512 (two 5 1 ∷ [])
    (three 1 4 0 ∷ []) []
    -- P10
    ∷ trial 4 (three 1 3 2 ∷ three 2 2 1 ∷ four 3 3 1 2 ∷ four 4 2 2 3 ∷ two 5 4 ∷ two 5 3 ∷ [])
    (three 1 0 1 ∷ three 2 0 2 ∷ three 3 0 3 ∷ three 4 0 4 ∷ three 5 7 0 ∷ three 6 5 0 ∷ []) []
    -- 38 in place of 3: the house cannot read the slip
    ∷ trial 512 (three 1 3 2 ∷ three 2 2 1 ∷ four 38 3 1 2 ∷ four 4 2 2 3 ∷ two 5 4 ∷ [])
    (three 1 0 1 ∷ three 2 0 2 ∷ three 3 0 3 ∷ three 4 0 4 ∷ three 5 6 0 ∷ []) []
    -- P7 with 38 in place of 3: the condition is the same
    ∷ trial 512 (three 1 3 2 ∷ four 6 4 2 1 ∷ three 2 2 2 ∷ four 38 4 2 3 ∷ [])
    (three 1 0 1 ∷ three 2 0 2 ∷ three 3 0 3 ∷ three 4 6 0 ∷ []) []
    -- a forged Initiate, made from the account and the draw in the slip of 38
    ∷ trial 512 (three 1 3 2 ∷ three 2 2 1 ∷ four 38 3 1 2 ∷ four 7 2 3 3 ∷ [])
    (three 1 0 1 ∷ three 2 0 2 ∷ three 3 0 3 ∷ three 4 0 4 ∷ []) []
    -- the same after step 3: nothing can be read
    ∷ trial 512 (three 1 3 2 ∷ three 2 2 1 ∷ four 3 3 1 2 ∷ four 7 2 3 3 ∷ [])
    (three 1 0 1 ∷ three 2 0 2 ∷ three 3 0 3 ∷ three 4 5 0 ∷ []) []
    -- requests forged from them, with the outsider's signatures and with the true ones, which are over the slip under key 0
    ∷ trial 512
    (three 1 3 2 ∷ three 2 2 1 ∷ four 38 3 1 2 ∷ four 4 2 2 3 ∷ four 33 2 3 3 ∷ two 5 5 ∷ six 24 2 3 3 4 3 ∷ two 5 6 ∷ [])
    (three 1 0 1 ∷ three 2 0 2 ∷ three 3 0 3 ∷ three 4 0 4 ∷ three 5 0 5 ∷ three 6 6 0 ∷ three 7 0 6 ∷ three 8 6 0 ∷ []) []
    -- the outsider as the seller who was paid so
    ∷ trial 512 (three 1 3 0 ∷ three 2 0 1 ∷ four 38 3 1 2 ∷ five 27 0 3 3 3 ∷ two 5 4 ∷ [])
    (three 1 0 1 ∷ three 2 0 2 ∷ three 3 0 3 ∷ three 4 0 4 ∷ three 5 6 0 ∷ []) []
    -- 38 between the steps of a session
    ∷ trial 512 (three 1 3 2 ∷ three 2 2 1 ∷ four 38 3 1 2 ∷ four 3 3 1 2 ∷ four 4 2 2 4 ∷ two 5 5 ∷ [])
    (three 1 0 1 ∷ three 2 0 2 ∷ three 3 0 3 ∷ three 4 0 4 ∷ three 5 0 5 ∷ three 6 0 6 ∷ []) (four 6 2 3 20 ∷ [])
    ∷ []

unfoldable pub lists_right : Bool
lists_right = all right trials
