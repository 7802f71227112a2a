-- The house reply at a place that is asked about: refusals 4 and 5, or how many messages are earlier and the mark of its payment.
use Rattle.std.specs.Prelude.{ℕ, ◌-◌, cond, Err, List, Ok, Result}
use Rattle.messages.specs.Tests.{between}
use Rattle.messages.specs.declared.parts.Place.{Place}
use Rattle.record.specs.Table.{message_at, messages}
use Rattle.refusals.specs.declared.Refusal.{Refusal}
use Rattle.refusals.specs.declared.Refusal.TheVariants.{Item as no_item}
use Rattle.refusals.specs.declared.Refusal.TheVariants.{Place as no_place}
use Rattle.reports.specs.declared.report.Reply.{Reply}
use Rattle.rules.specs.Report.{house_reply, payment_at}

abbrev pub reply_at : ℕ → List ℕ → Place → Result Reply Refusal
reply_at n t p =
    cond (between 1 p.0 n)
    (cond (house_reply (message_at (messages n t) p)) (Ok (record { earlier = p.0 - 1; mark = payment_at (messages n t) p })) (Err no_item))
    (Err no_place)
