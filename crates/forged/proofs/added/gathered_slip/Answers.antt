-- `forged::added::gathered_slip` meets its promise.
use Rattle.std.proofs.Common.{◌∙◌, rules}
use Rattle.record.specs.Table.{messages}
use Rattle.rules.specs.declared.codes.Item.{Item}
use Rattle.rules.specs.Honest.{house, slip_under}
use Rattle.rules.specs.Items.{slip_in}
use Rattle.forged.proofs.Found.{item_given}
use Rattle.forged.specs.Outside.{gathered_in, item_in, slip_given}
use Rattle.forged.proofs.added.gathered_slip.Goals as goal

pub returns : goal.returns
unfolding gathered_in item_in slip_given
returns c =
    λ n ready G.
    let s = c.args.step.now.s.now in
    let R = messages n c.args.step.now.t.now in
    let g = c.args.g in
    item_given Item.E R s slip_in (slip_under house g.mark g.account g.drawn) c.given_message.result
    (c.given_message.ensures.offered n ready) (search rules)
    ∙ (λ i. item_in Item.E slip_in (slip_under house (G i).mark (G i).account (G i).drawn) R s)
