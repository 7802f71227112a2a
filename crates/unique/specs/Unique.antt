-- Of each public operation: any two results that its promise allows are equal, its answer and everything lent. A promise that is an equation,
-- as those of most helpers, allows one result by the first of these; each of the others has its own, but for the
-- exceptions in docs/PROMISES.md. Where each is proved is said beside it.
use Rattle.std.specs.Prelude.{ℕ, List, None, Option, Result, Some, ◌≡◌, length}
use Rattle.std.specs.Borrow.{Bor}
use Rattle.host.specs.Entries.{Ran as RanBy, Read, Stepped}
use Rattle.record.specs.Table.{messages, room_of}
use Rattle.results.specs.Shown.{Shows}
use Rattle.rules.specs.Run.{Ran as RanOf, run}
use Rattle.rules.specs.Step.{Outcome, Step, judge, judge_table}
use Rattle.runs.specs.Ran.{Leaves as RunLeaves, Plays}
use Rattle.step.specs.Answer.{Answered}
use Rattle.steptext.specs.Read.{Reading, read_text}
use Rattle.lines.specs.Handed.{Hands, HandsOver}
use Rattle.lines.specs.Lines.{Text}
use Rattle.lines.specs.declared.reader.Reader.{Reader}
use Rattle.steptext.specs.Told.{Leaves as TextLeaves}
use Rattle.steptext.specs.declared.told.Said.{Said}
use Rattle.steptext.specs.declared.told.TextRefusal.{TextRefusal}
use Rattle.messages.specs.declared.parts.Place.{Place}
use Rattle.refusals.specs.declared.Refusal.{Refusal}
use Rattle.faults.specs.Faults.{fault_number}
use Rattle.reports.specs.Numbers.{report_number, verdict_number}
use Rattle.reports.specs.declared.report.Verdict.{Verdict}
use Rattle.rules.specs.Report.{report, report_on}
use Rattle.record.specs.Table.{Record}
use Rattle.messages.specs.declared.parts.Mark.{Mark}

-- an equation (proofs/Entries)
abbrev pub EquationUnique : Type 1
EquationUnique = (A : Type 0) (x r r' : A) → r ≡ x → r' ≡ x → r ≡ r'

-- `step` (proofs/Answers)
abbrev pub StepUnique : Type 0
StepUnique =
    (answers n : ℕ) (t : List ℕ) (s : Step) (r r' : Result Place Refusal) (left left' : List ℕ)
    → let o = judge_table answers n t s in
    Answered n t o r left → Answered n t o r' left' → (r ≡ r') × (left ≡ left')

-- `judge_step`, which is `step` without refusal 1 (proofs/Answers)
abbrev pub JudgeUnique : Type 0
JudgeUnique =
    (answers n : ℕ) (t : List ℕ) (s : Step) (r r' : Result Place Refusal) (left left' : List ℕ)
    → let o = judge answers (room_of t) (messages n t) s in
    Answered n t o r left → Answered n t o r' left' → (r ≡ r') × (left ≡ left')

-- `run` (proofs/Answers)
abbrev pub RunUnique : Type 0
RunUnique =
    (answers : ℕ) (t xs bytes : List ℕ) (r r' : Result ℕ Refusal) (table table' verdicts verdicts' : List ℕ)
    → let o = run answers t xs bytes in
    RunLeaves o r table verdicts → RunLeaves o r' table' verdicts' → (r ≡ r') × (table ≡ table') × (verdicts ≡ verdicts')

-- `play`, which is `run` without its refusals (proofs/Answers)
abbrev pub PlayedUnique : Type 0
PlayedUnique =
    (answers : ℕ) (t xs bytes : List ℕ) (n n' : ℕ) (table table' verdicts verdicts' : List ℕ) → Plays answers t xs bytes n table verdicts
    → Plays answers t xs bytes n' table' verdicts' → (n ≡ n') × (table ≡ table') × (verdicts ≡ verdicts')

-- `read_text` (proofs/Answers)
abbrev pub TextUnique : Type 0
TextUnique =
    (text : Text) (t : List ℕ) (r r' : Result Said TextRefusal) (left left' : List ℕ)
    → let o = read_text (length t) text in
    TextLeaves o t r left → TextLeaves o t r' left' → (r ≡ r') × (left ≡ left')

-- `report` (proofs/Answers)
abbrev pub ReportUnique : Type 0
ReportUnique =
    (n : ℕ) (t : List ℕ) (p : Place) (r r' : Result Verdict Refusal) → report_number r ≡ report n t p → report_number r' ≡ report n t p → r ≡ r'

-- `report_on`, which is `report` on a payment, without its refusals (proofs/Answers)
abbrev pub ReportOnUnique : Type 0
ReportOnUnique = (R : Record) (x : Mark) (r r' : Verdict) → verdict_number r ≡ report_on R x → verdict_number r' ≡ report_on R x → r ≡ r'

-- `first_fault` (proofs/Answers)
abbrev pub FaultUnique : Type 0
FaultUnique = (k : ℕ) (r r' : Result (Unit {0}) Refusal) → fault_number r ≡ k → fault_number r' ≡ k → r ≡ r'

-- `play_text` (proofs/Answers)
abbrev pub PlayUnique : Type 0
PlayUnique =
    (text t out : List ℕ) (r r' : ℕ) (table table' left left' : List ℕ) → Shows text t out r table left → Shows text t out r' table' left'
    → (r ≡ r') × (table ≡ table') × (left ≡ left')

-- `kp_step`, `kp_run`, `kp_read` (proofs/Entries)
abbrev pub KpStepUnique : Type 0
KpStepUnique =
    (n : ℕ) (t : List ℕ) (o : Outcome) (r r' place place' : ℕ) (left left' : List ℕ) → Stepped n t o r place left → Stepped n t o r' place' left'
    → (r ≡ r') × (place ≡ place') × (left ≡ left')

abbrev pub KpRunUnique : Type 0
KpRunUnique =
    (o : RanOf) (r r' n n' : ℕ) (table table' verdicts verdicts' : List ℕ) → RanBy o r n table verdicts → RanBy o r' n' table' verdicts'
    → (r ≡ r') × (n ≡ n') × (table ≡ table') × (verdicts ≡ verdicts')

abbrev pub KpReadUnique : Type 0
KpReadUnique =
    (t : List ℕ) (o : Reading) (r r' answers answers' count count' line line' : ℕ) (left left' : List ℕ) → Read t o r answers count line left
    → Read t o r' answers' count' line' left' → (r ≡ r') × (answers ≡ answers') × (count ≡ count') × (line ≡ line') × (left ≡ left')

-- the bytes of a line that is handed over
abbrev pub handed : Option (Bor Text) → Option Text
handed None = None
handed (Some line) = Some line.now

-- `line_at` (proofs/Handed)
abbrev pub LineUnique : Type 0
LineUnique = (t : Text) (at : ℕ) (r r' : Option (Bor Text)) → Hands t at r → Hands t at r' → handed r ≡ handed r'

-- `Reader::next`, and the reader that it leaves (proofs/Handed)
abbrev pub NextUnique : Type 0
NextUnique =
    (reader left left' : Reader) (r r' : Option (Bor Text)) → HandsOver reader r left → HandsOver reader r' left'
    → (handed r ≡ handed r') × (left ≡ left')
