-- `forged::added::forge_payment` meets its promise.
use mathlib.Core.Path.{◌∙◌}
use Rattle.messages.specs.Layout.{a_payment}
use Rattle.rules.specs.Forged.{no_buyer}
use Rattle.forged.specs.Outside.{buyer_signature_in, forged_in, gathered_in, slip_given}
use Rattle.forged.proofs.added.forge_payment.Goals as goal

pub returns : goal.returns
unfolding buyer_signature_in forged_in gathered_in slip_given
returns c =
    let the_gathered_slip = c.gathered_slip-slip in
    let the_gather = c.gather-g in
    λ n ready.
    let G = the_gather.ensures n ready in
    let E = the_gathered_slip.ensures n ready G in
    let P = c.signed_by_buyer-signed.ensures n ready (λ i. (G i).mark) E in
    c.payment.ensures ∙ (λ i. a_payment no_buyer (G i).buyer (G i).seller (E i) (P i))
