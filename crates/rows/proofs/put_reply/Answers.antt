-- `rows::put_reply` meets its promise.
use Rattle.std.proofs.Common.{◌≡◌, ◌∙◌, subst}
use Rattle.messages.proofs.Chain.{failed, held}
use Rattle.rows.proofs.Lines.{its_line, no_line}
use Rattle.printing.proofs.Writing.{none}
use Rattle.printing.specs.Put.{Put}
use Rattle.printing.specs.Widths.{reply_widest}
use Rattle.lines.specs.Lines.{Text}
use Rattle.record.specs.Table.{messages}
use Rattle.rules.specs.Report.{report_on}
use Rattle.rows.proofs.put_reply.Goals as goal

pub returns-then-not-is_house_reply-clause-put : goal.returns-then-not-is_house_reply-clause-put
returns-then-not-is_house_reply-clause-put c =
    let out = c.args.printed.now.out.now in
    let at = c.args.printed.now.at in
    subst (λ (bs : Text). Put out at bs reply_widest out at)
    (no_line c.args.t.now c.args.p c.message-reply.ensures.0 (failed c.is_house_reply.ensures c.if-not-is_house_reply.true))
    (none out at reply_widest)

pub returns-clause-put : goal.returns-clause-put
returns-clause-put c =
    let t = c.args.t.now in
    let p = c.args.p in
    let signed = c.reply_signed_at-signed in
    let left = c.reply_line.new.self in
    let told : c.from-report.result ≡ report_on (messages p t) signed.result.mark = c.from-report.ensures ∙ c.report_on.ensures in
    subst (λ (bs : Text). Put c.args.printed.now.out.now c.args.printed.now.at bs reply_widest left.out.now left.at)
    (its_line t p c.message-reply.ensures.0 signed.result (held c.is_house_reply.ensures c.if-not-is_house_reply.false) signed.ensures told)
    c.reply_line.ensures.put
