-- What a host does with a table of messages: single steps, each with account answers of its own, runs of lists, and starts from no message,
-- in any order.
use Rattle.std.specs.Prelude.{ℕ, cond, List, [], ◌∷◌, eqb}
use Rattle.rules.specs.Run.{Call, run}
use Rattle.rules.specs.Step.{count_after, judge_table, table_after}

-- a table, and how many messages the host takes to stand in it
pub record Lent : Type 0 where
  pub n : ℕ
  pub table : List ℕ

pub data Use : Type 0 where
  steps : Call → Use
  runs : (answers : ℕ) → (xs bytes : List ℕ) → Use
  empties : Use

-- what it then has; a refused step and a refused run change nothing
abbrev pub used_once : Lent → Use → Lent
used_once l (steps c) =
    let o = judge_table c.answers l.n l.table c.step in
    record { n = count_after l.n o; table = table_after l.n l.table o }
used_once l (runs answers xs bytes) =
    let r = run answers l.table xs bytes in
    record { n = cond (eqb r.number 0) r.n l.n; table = r.table }
used_once l empties = record { n = 0; table = l.table }

unfoldable pub used : Lent → List Use → Lent
used l [] = l
used l (u ∷ us) = used (used_once l u) us
