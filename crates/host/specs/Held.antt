-- Demand 3 for a host, in what its entries return: from a table that holds a reached record they leave one that holds a reached record again.
-- The count after it is the place or the n returned where the number is 0, else the count before. So the theorems on reached records hold
-- whatever the host calls, in whatever order, and whatever account answers it gives at each call. (proofs/Held)
use Rattle.std.specs.Prelude.{ℕ, cond, List, eqb}
use Rattle.host.specs.Entries.{Ran, Stepped}
use Rattle.rules.specs.Reached.{HoldsReached}
use Rattle.rules.specs.Run.{Call, run}
use Rattle.rules.specs.Step.{judge_table}

abbrev pub KpStepReaches : Type 0
KpStepReaches =
    (n : ℕ) (t : List ℕ) → HoldsReached n t → (c : Call) (r place : ℕ) (left : List ℕ)
    → Stepped n t (judge_table c.answers n t c.step) r place left → HoldsReached (cond (eqb r 0) place n) left

abbrev pub KpRunReaches : Type 0
KpRunReaches =
    (m : ℕ) (t : List ℕ) → HoldsReached m t → (answers : ℕ) (xs bytes : List ℕ) (r n : ℕ) (left bytes_left : List ℕ)
    → Ran (run answers t xs bytes) r n left bytes_left → HoldsReached (cond (eqb r 0) n m) left
