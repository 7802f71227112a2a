-- `forged::added::forge_invoice` meets its promise.
use Rattle.std.proofs.Common.{◌∙◌, ◌≡◌, rules}
use Rattle.messages.specs.Layout.{an_invoice}
use Rattle.record.specs.Table.{messages}
use Rattle.rules.specs.declared.codes.Item.{Item}
use Rattle.rules.specs.Forged.{no_seller}
use Rattle.rules.specs.Items.{invoice_signed_in}
use Rattle.forged.proofs.Found.{item_given}
use Rattle.forged.specs.Outside.{forged_in, gathered_in, item_in}
use Rattle.forged.proofs.added.forge_invoice.Goals as goal

pub returns : goal.returns
unfolding forged_in gathered_in item_in
returns c =
    λ n ready.
    let s = c.args.s.now in
    let R = messages n c.args.t.now in
    let G = c.gather-g.ensures n ready in
    let V : c.map_or-signed.result ≡ item_in Item.V invoice_signed_in (record { signer = no_seller; mark = (gathered_in R s).mark }) R s =
    item_given Item.V R s invoice_signed_in (record { signer = no_seller; mark = c.gather-g.result.mark }) c.given_message.result
    (c.given_message.ensures.offered n ready) (search rules)
    ∙ (λ i. item_in Item.V invoice_signed_in (record { signer = no_seller; mark = (G i).mark }) R s) in
    c.invoice.ensures ∙ (λ i. an_invoice no_seller (G i).seller (G i).buyer (G i).mark (V i))
