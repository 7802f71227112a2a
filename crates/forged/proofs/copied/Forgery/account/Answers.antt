-- `Forgery::account` meets its promise.
use Rattle.std.proofs.Common.{◌∙◌, ap}
use Rattle.messages.specs.Parts.{Message}
use Rattle.messages.specs.declared.parts.Slip.{Slip}
use Rattle.record.specs.Table.{messages}
use Rattle.rules.specs.Items.{slip_in}
use Rattle.forged.proofs.Found.{account_copied, account_own, account_safe}
use Rattle.forged.proofs.copied.Forgery.account.Goals as goal

pub returns-then-p-eq0 : goal.returns-then-p-eq0
returns-then-p-eq0 c =
    λ n ready. account_own (messages n c.args.self.now.t.now) c.args.self.now.s.now c.number-p.result
    (c.number-p.ensures) c.if-p-eq0.true

pub message-requires : goal.message-requires
message-requires c = account_safe c.args.self.now.ready c.number-p.result (c.number-p.ensures) c.if-p-eq0.false

pub returns : goal.returns
returns c =
    λ n ready. ap (λ (x : Slip). x.account) c.slip_in.ensures
    ∙ ap (λ (x : Message). (slip_in x).account) c.message.ensures.0
    ∙ account_copied ready c.number-p.result (c.number-p.ensures) c.if-p-eq0.false
