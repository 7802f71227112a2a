-- `Forgery::number` meets its promise.
use Rattle.std.proofs.Common.{◌∙◌, ap}
use Rattle.std.specs.Option.{unwrap_or}
use Rattle.rules.specs.Step.{arguments_of}
use Rattle.forged.proofs.Found.{found_or_0}
use Rattle.forged.specs.Outside.{number_in, taken_by}
use Rattle.forged.proofs.copied.Forgery.number.Goals as goal

pub returns : goal.returns
unfolding number_in
returns c =
    let s = c.args.self.now.s.now in
    c.unwrap_or.ensures ∙ ap (λ o. unwrap_or o 0) c.find.ensures ∙ found_or_0 c.args.argument (taken_by s) (arguments_of s)
