-- `reports::report::report_on` meets its promise.
use Rattle.std.proofs.Common.{◌≡◌, ◌∙◌, Some, rules}
use Rattle.reports.proofs.Seen.{seen_trusted}
use Rattle.reports.proofs.report.report_on.Goals as goal

pub unwrap-seen-requires : goal.unwrap-seen-requires
unwrap-seen-requires c =
    let e : c.look.result ≡ Some _ = c.look.ensures ∙ seen_trusted c.args.earlier c.args.t.now c.args.mark in
    search rules
