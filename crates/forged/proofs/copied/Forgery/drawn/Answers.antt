-- `Forgery::drawn` meets its promise.
use Rattle.std.proofs.Common.{rules}
use Rattle.record.specs.Table.{messages}
use Rattle.rules.specs.declared.codes.Item.{Item}
use Rattle.rules.specs.Items.{drawn_in}
use Rattle.forged.proofs.Found.{item_given}
use Rattle.forged.specs.Outside.{drawn_given, item_in}
use Rattle.forged.proofs.copied.Forgery.drawn.Goals as goal

pub returns : goal.returns
unfolding drawn_given item_in
returns c = λ n ready. item_given Item.R (messages n c.args.self.now.t.now) c.args.self.now.s.now drawn_in (record { drawer = record { 0 = 0 }; draw = 0 })
    c.given_message.result (c.given_message.ensures.offered n ready) (search rules)
