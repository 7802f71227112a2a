-- `reports::report::verdict_on` meets its promise.
use Rattle.std.proofs.Common.{◌∙◌, refl, sym}
use Rattle.messages.proofs.Picks.{no, yes}
use Rattle.reports.proofs.Seen.{agreed_seen}
use Rattle.rules.specs.Report.{report_on}
use Rattle.reports.proofs.report.verdict_on.Goals as goal

pub returns-then-is_outside : goal.returns-then-is_outside
unfolding report_on
returns-then-is_outside c = λ R p. yes _ (sym c.is_outside.ensures ∙ c.if-is_outside.true) refl

pub returns-then-is_agreed : goal.returns-then-is_agreed
unfolding report_on
returns-then-is_agreed c =
    λ R p. no _ (sym c.is_outside.ensures ∙ c.if-is_outside.false)
    (yes _ (agreed_seen c.args.mark R p ∙ sym c.is_agreed.ensures ∙ c.if-is_agreed.true) refl)

pub returns-else-is_agreed : goal.returns-else-is_agreed
unfolding report_on
returns-else-is_agreed c =
    λ R p. no _ (sym c.is_outside.ensures ∙ c.if-is_outside.false)
    (no _ (agreed_seen c.args.mark R p ∙ sym c.is_agreed.ensures ∙ c.if-is_agreed.false) refl)
