-- Two verdicts, and two answers of a report, with one number are the same.
use Rattle.std.proofs.Common.{◌≡◌, ℕ, ◌-◌, ◌≤◌, [], ◌∷◌, Err, Ok, Result, get_or, ap, sym, refl, ◌∙◌, arith}
use Rattle.refusals.proofs.Numbers.{numbers_apart}
use Rattle.refusals.specs.Numbers.{refusal_number}
use Rattle.refusals.specs.declared.Refusal.{Refusal}
use Rattle.refusals.specs.declared.Refusal.TheVariants.{
  Argument,
  Code,
  Condition,
  Item,
  Place,
  Record,
  Room,
  Steps,
  Verdicts,
}
use Rattle.reports.specs.Numbers.{report_number, verdict_number}
use Rattle.reports.specs.declared.report.Verdict.{Verdict}
use Rattle.reports.specs.declared.report.Verdict.TheVariants.{Agreed, Missing, Outside}

abbrev numbered : ℕ → Verdict
numbered n = get_or (Agreed ∷ Outside ∷ Missing ∷ []) (n - 20) Agreed

numbered-number : (v : Verdict) → numbered (verdict_number v) ≡ v
numbered-number Agreed = refl
numbered-number Outside = refl
numbered-number Missing = refl

pub verdicts_apart : (a b : Verdict) → verdict_number a ≡ verdict_number b → a ≡ b
verdicts_apart a b e = sym (numbered-number a) ∙ ap numbered e ∙ numbered-number b

-- a verdict's number is past those of the refusals
high : (v : Verdict) → 20 ≤ verdict_number v
high Agreed = omega arith
high Outside = omega arith
high Missing = omega arith

low : (r : Refusal) → refusal_number r ≤ 9
low Record = omega arith
low Code = omega arith
low Argument = omega arith
low Place = omega arith
low Item = omega arith
low Condition = omega arith
low Room = omega arith
low Steps = omega arith
low Verdicts = omega arith

pub reports_apart : (a b : Result Verdict Refusal) → report_number a ≡ report_number b → a ≡ b
reports_apart (Ok v) (Ok w) e = ap Ok (verdicts_apart v w e)
reports_apart (Ok v) (Err r) e = absurd (omega (arith, high v, low r))
reports_apart (Err r) (Ok v) e = absurd (omega (arith, high v, low r))
reports_apart (Err r) (Err s) e = ap Err (numbers_apart r s e)
