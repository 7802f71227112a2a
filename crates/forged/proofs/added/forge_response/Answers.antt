-- `forged::added::forge_response` meets its promise.
use Rattle.std.proofs.Common.{◌∙◌, ◌≡◌, rules}
use Rattle.messages.specs.Layout.{an_auth_response}
use Rattle.record.specs.Table.{messages}
use Rattle.rules.specs.declared.codes.Item.{Item}
use Rattle.rules.specs.Forged.{code}
use Rattle.rules.specs.Honest.{false_gateway, house}
use Rattle.rules.specs.Items.{reply_signed_in}
use Rattle.rules.specs.Step.{arguments_of}
use Rattle.forged.proofs.Found.{item_given}
use Rattle.forged.specs.Outside.{forged_in, gathered_in, item_in, number_in, taken_by}
use Rattle.forged.proofs.added.forge_response.Goals as goal

pub returns : goal.returns
unfolding forged_in gathered_in item_in number_in
returns c =
    λ n ready.
    let s = c.args.s.now in
    let R = messages n c.args.t.now in
    let G = c.gather-g.ensures n ready in
    let C : c.number-code.result ≡ code R (taken_by s) (arguments_of s) = c.number-code.ensures in
    let Y = item_given Item.G R s reply_signed_in (record { signer = false_gateway; code = c.number-code.result; mark = c.gather-g.result.mark })
    c.given_message.result (c.given_message.ensures.offered n ready) (search rules)
    ∙ (λ i. item_in Item.G reply_signed_in (record { signer = false_gateway; code = C i; mark = (G i).mark }) R s) in
    c.auth_response.ensures ∙ (λ i. an_auth_response false_gateway house (G i).seller (C i) (Y i))
