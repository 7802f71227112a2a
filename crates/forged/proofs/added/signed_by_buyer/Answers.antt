-- `forged::added::signed_by_buyer` meets its promise.
use Rattle.std.proofs.Common.{◌∙◌, rules}
use Rattle.record.specs.Table.{messages}
use Rattle.rules.specs.declared.codes.Item.{Item}
use Rattle.rules.specs.Forged.{no_buyer}
use Rattle.rules.specs.Items.{buyer_signed_in}
use Rattle.forged.proofs.Found.{item_given}
use Rattle.forged.specs.Outside.{buyer_signature_in, gathered_in, item_in, slip_given}
use Rattle.forged.proofs.added.signed_by_buyer.Goals as goal

pub returns : goal.returns
unfolding buyer_signature_in gathered_in item_in slip_given
returns c =
    λ n ready G E.
    let s = c.args.step.now.s.now in
    let R = messages n c.args.step.now.t.now in
    item_given Item.P R s buyer_signed_in (record { signer = no_buyer; slip = c.args.slip; mark = c.args.mark }) c.given_message.result
    (c.given_message.ensures.offered n ready) (search rules)
    ∙ (λ i. item_in Item.P buyer_signed_in (record { signer = no_buyer; slip = E i; mark = G i }) R s)
