-- `reports::report::report` meets its promise.
use Rattle.std.proofs.Common.{false, ◌≡◌, ◌∙◌, sym, arith, rules}
use Rattle.std.proofs.lemmas.Bool.{lt-leb}
use Rattle.messages.proofs.Chain.{skip, stop}
use Rattle.record.specs.Table.{lawful_record, room_of}
use Rattle.reports.proofs.Refusals.{lawful_if, refused, reported, unlawful}
use Rattle.reports.proofs.Seen.{ended, seen_all}
use Rattle.reports.specs.Numbers.{report_number}
use Rattle.reports.proofs.report.report.Goals.{then-not-is_whole-via-else-not-is_whole+then-room-n, then-not-is_whole-via-then-not-is_whole}
use Rattle.reports.proofs.report.report.Goals as goal

pub returns-then-not-is_whole : goal.returns-then-not-is_whole
returns-then-not-is_whole c =
    let shut : lawful_record c.args.n c.args.t.now ≡ false =
    elim c.then-not-is_whole.branch [
      | then-not-is_whole-via-then-not-is_whole w ↦ sym (stop _ (sym c.is_whole.ensures ∙ w.if-not-is_whole.true))
      | then-not-is_whole-via-else-not-is_whole+then-room-n w ↦
          sym (skip (sym c.is_whole.ensures ∙ w.if-not-is_whole.false)
          (stop _ (lt-leb c.args.n (room_of c.args.t.now) (omega (arith, w.room.ensures, w.if-room-n.true)))))
    ] in
    unlawful c.args.n c.args.t.now c.args.place shut

pub returns-in_err-seen-in-Ok : goal.returns-in_err-seen-in-Ok
returns-in_err-seen-in-Ok c =
    let e : report_number c.from_residual.result ≡ 1 = search rules in
    e ∙ unlawful c.args.n c.args.t.now c.args.place
    (lawful_if c.args.n c.args.t.now c.args.place (sym c.is_whole.ensures ∙ c.if-not-is_whole.false) (omega (arith, c.room.ensures))
    (ended _ _ (sym c.in_err-seen-in-Ok.ensures.ok_part ∙ c.look.ensures)))

pub returns-in_ok-seen-in-Ok : goal.returns-in_ok-seen-in-Ok
returns-in_ok-seen-in-Ok c =
    let seen = seen_all _ _ (sym c.in_ok-seen-in-Ok.ensures.ok_part ∙ c.look.ensures) in
    reported c.args.n c.args.t.now c.args.place
    (lawful_if c.args.n c.args.t.now c.args.place (sym c.is_whole.ensures ∙ c.if-not-is_whole.false) (omega (arith, c.room.ensures)) seen.0)
    c.in-Ok.ensures (c.verdict_on.ensures _ seen.1)

pub returns-in-Err : goal.returns-in-Err
returns-in-Err c = refused c.args.n c.args.t.now c.args.place (sym c.is_lawful_record.ensures ∙ c.if-is_lawful_record.true) c.in-Err.ensures

pub returns-in-Err-2 : goal.returns-in-Err-2
returns-in-Err-2 c = unlawful c.args.n c.args.t.now c.args.place (sym c.is_lawful_record.ensures ∙ c.if-is_lawful_record.false)
