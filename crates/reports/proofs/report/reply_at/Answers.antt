-- `reports::report::reply_at` meets its promise.
use Rattle.std.proofs.Common.{◌≤◌, ◌∙◌, ◌-◌, Ok, ap, refl, rules, sym}
use Rattle.messages.proofs.Chain.{inside}
use Rattle.messages.proofs.Picks.{no, yes}
use Rattle.messages.specs.declared.parts.Mark.{Mark}
use Rattle.messages.specs.declared.signed.ReplySigned.{ReplySigned}
use Rattle.record.proofs.Cut.{message_at_lem}
use Rattle.rules.specs.Report.{house_reply, reply_mark}
use Rattle.reports.proofs.report.reply_at.Goals as goal

pub returns-then-not-is_house_reply : goal.returns-then-not-is_house_reply
returns-then-not-is_house_reply c =
    let least : 1 ≤ c.args.place.0 = search rules in
    let most : c.args.place.0 ≤ c.args.n = search rules in
    let there = message_at_lem c.args.n c.args.t.now c.args.place least most ∙ sym c.message-m.ensures.0 in
    yes _ (inside least most)
    (no _ (ap house_reply there ∙ sym c.is_house_reply.ensures ∙ c.if-not-is_house_reply.true) refl)

pub returns : goal.returns
returns c =
    let least : 1 ≤ c.args.place.0 = search rules in
    let most : c.args.place.0 ≤ c.args.n = search rules in
    let there = message_at_lem c.args.n c.args.t.now c.args.place least most ∙ sym c.message-m.ensures.0 in
    yes _ (inside least most)
    (yes _ (ap house_reply there ∙ sym c.is_house_reply.ensures ∙ c.if-not-is_house_reply.false)
    (ap (λ (m : Mark). Ok (record { earlier = c.args.place.0 - 1; mark = m })) (ap (λ (x : ReplySigned). x.mark) c.reply_signed_at.ensures ∙ ap reply_mark (sym there))))
