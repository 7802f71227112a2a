-- `forged::added::gather` meets its promise.
use Rattle.std.proofs.Common.{◌∙◌, ◌≡◌, rules}
use Rattle.record.specs.Table.{messages}
use Rattle.rules.specs.declared.codes.Item.{Item}
use Rattle.rules.specs.Forged.{account, buyer, drawn, hashed, mark, seller}
use Rattle.rules.specs.Items.{hashed_in, mark_in}
use Rattle.rules.specs.Step.{arguments_of}
use Rattle.forged.proofs.Found.{item_given}
use Rattle.forged.specs.Outside.{account_in, buyer_in, drawn_given, gathered_in, item_in, number_in, taken_by}
use Rattle.forged.proofs.added.gather.Goals as goal

pub returns : goal.returns
unfolding account_in buyer_in drawn_given gathered_in item_in number_in
returns c =
    λ n ready.
    let s = c.args.step.now.s.now in
    let R = messages n c.args.step.now.t.now in
    let ks = taken_by s in
    let xs = arguments_of s in
    let S : c.number.result ≡ (seller R ks xs).0 = c.number.ensures in
    let A : c.account-account.result ≡ account R ks xs = c.account-account.ensures n ready in
    let D : c.drawn-drawn.result ≡ drawn R ks xs = c.drawn-drawn.ensures n ready in
    let B : c.buyer-buyer.result ≡ buyer R ks xs = c.buyer-buyer.ensures ∙ (λ i. buyer_in (A i) s) in
    let H : c.map_or-hashed.result ≡ hashed R ks xs =
    item_given Item.H R s hashed_in (record { drawn = c.drawn-drawn.result; account = c.account-account.result }) c.given_message.result
    (c.given_message.ensures.offered n ready) (search rules)
    ∙ (λ i. item_in Item.H hashed_in (record { drawn = D i; account = A i }) R s) in
    let M : c.map_or-mark.result ≡ mark R ks xs =
    item_given Item.M R s mark_in
    (record { seller = record { 0 = c.number.result }; buyer = c.buyer-buyer.result; hashed = c.map_or-hashed.result }) c.given_message-2.result
    (c.given_message-2.ensures.offered n ready) (search rules)
    ∙ (λ i. item_in Item.M mark_in (record { seller = record { 0 = S i }; buyer = B i; hashed = H i }) R s) in
    λ i. record { seller = record { 0 = S i }; account = A i; drawn = D i; buyer = B i; hashed = H i; mark = M i }
