-- Document 01's number of each verdict, and of each answer of a report.
use Rattle.std.specs.Prelude.{ℕ, Err, Ok, Result}
use Rattle.refusals.specs.Numbers.{refusal_number}
use Rattle.refusals.specs.declared.Refusal.{Refusal}
use Rattle.reports.specs.declared.report.Verdict.{Verdict}
use Rattle.reports.specs.declared.report.Verdict.TheVariants.{Agreed, Missing, Outside}

abbrev pub verdict_number : Verdict → ℕ
verdict_number Agreed = 20
verdict_number Outside = 21
verdict_number Missing = 22

abbrev pub report_number : Result Verdict Refusal → ℕ
report_number (Ok v) = verdict_number v
report_number (Err r) = refusal_number r
