-- `Forgery::given_message` meets its promise.
use Rattle.std.proofs.Common.{◌∙◌, ap, subst, sym}
use Rattle.record.specs.Table.{message_at, messages}
use Rattle.rules.specs.declared.codes.Argument.{Argument}
use Rattle.rules.specs.Step.{arguments_of}
use Rattle.forged.proofs.Found.{found, found_message, found_number, lost, safe}
use Rattle.forged.specs.Outside.{Offers, taken_by}
use Rattle.forged.proofs.copied.Forgery.given_message.Goals as goal

pub message-requires : goal.message-requires
message-requires c = safe c.args.self.now.ready c.args.item c.in_ok-p.p c.in_ok-p.ensures

pub returns-in_err-p-clause-offered : goal.returns-in_err-p-clause-offered
returns-in_err-p-clause-offered c =
    let s = c.args.self.now.s.now in
    let i = c.args.item in
    λ n ready.
    subst (λ o. Offers i (messages n c.args.self.now.t.now) s o) (sym c.from_residual.ensures)
    (lost (Argument.At i) (taken_by s) (arguments_of s) c.in_err-p.ensures)

pub returns-clause-offered : goal.returns-clause-offered
returns-clause-offered c =
    let s = c.args.self.now.s.now in
    let i = c.args.item in
    λ n ready.
    let p = c.in_ok-p.ensures in (
      found (Argument.At i) (taken_by s) (arguments_of s) c.in_ok-p.p p,
      c.message.ensures.0
          ∙ sym (found_message ready i c.in_ok-p.p p)
          ∙ ap (λ x. message_at (messages n c.args.self.now.t.now) (record { 0 = x })) (found_number (Argument.At i) (taken_by s) (arguments_of s) c.in_ok-p.p p),
    )
