-- What is said of a list of steps: a row for each step, and a row for each house reply of the record that the steps leave. The program
-- prints these rows, and the table of lists holds the papers' words beside them.
use Rattle.std.specs.Prelude.{ℕ, ◌+◌, cond, List, [], ◌∷◌, length, take}
use Rattle.messages.specs.Parts.{Message}
use Rattle.record.specs.Table.{Record}
use Rattle.messages.specs.declared.parts.Mark.{Mark}
use Rattle.rules.specs.Report.{house_reply, reply_mark, report_on}
use Rattle.rules.specs.Step.{Step, judge, number_of, place_of, record_after}

-- ordinal, number and place of each step, of which `told` came before
unfoldable pub step_rows : ℕ → ℕ → ℕ → Record → List Step → List (List ℕ)
step_rows answers room told R [] = []
step_rows answers room told R (s ∷ ss) =
    ((told + 1) ∷ number_of (judge answers room R s) ∷ place_of (length R) (judge answers room R s) ∷ [])
    ∷ step_rows answers room (told + 1) (record_after R (judge answers room R s)) ss

-- of a reply for the payment of this mark, with `p` messages earlier: place, seller, buyer, report
abbrev pub reply_row : Record → ℕ → Mark → List ℕ
reply_row earlier p x = (p + 1) ∷ x.seller.0 ∷ x.buyer.0 ∷ report_on earlier x ∷ []

-- of each house reply of the record R from its place p + 1 on
unfoldable pub reply_rows : Record → ℕ → List Message → List (List ℕ)
reply_rows R p [] = []
reply_rows R p (x ∷ xs) =
    cond (house_reply x) (reply_row (take p R) p (reply_mark x) ∷ reply_rows R (p + 1) xs) (reply_rows R (p + 1) xs)
