-- `forged::added::forge_request` meets its promise.
use Rattle.std.proofs.Common.{◌∙◌, rules}
use Rattle.messages.specs.Layout.{an_auth_request}
use Rattle.record.specs.Table.{messages}
use Rattle.rules.specs.declared.codes.Item.{Item}
use Rattle.rules.specs.Forged.{no_seller}
use Rattle.rules.specs.Honest.{house}
use Rattle.rules.specs.Items.{request_signed_in}
use Rattle.forged.proofs.Found.{item_given}
use Rattle.forged.specs.Outside.{buyer_signature_in, forged_in, gathered_in, item_in, slip_given}
use Rattle.forged.proofs.added.forge_request.Goals as goal

pub returns : goal.returns
unfolding buyer_signature_in forged_in gathered_in item_in slip_given
returns c =
    λ n ready.
    let s = c.args.s.now in
    let R = messages n c.args.t.now in
    let G = c.gather-g.ensures n ready in
    let E = c.gathered_slip-slip.ensures n ready G in
    let P = c.signed_by_buyer.ensures n ready (λ i. (G i).mark) E in
    let Q = item_given Item.Q R s request_signed_in
    (record { signer = no_seller; mark = c.gather-g.result.mark; slip = c.gathered_slip-slip.result }) c.given_message.result
    (c.given_message.ensures.offered n ready) (search rules)
    ∙ (λ i. item_in Item.Q request_signed_in (record { signer = no_seller; mark = (G i).mark; slip = E i }) R s) in
    c.auth_request.ensures ∙ (λ i. an_auth_request no_seller (G i).seller house (G i).mark (E i) (Q i) (P i))
