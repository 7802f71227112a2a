-- `Forgery::buyer` meets its promise.
use Rattle.rules.specs.declared.codes.Argument.{Argument}
use Rattle.rules.specs.Step.{arguments_of}
use Rattle.forged.proofs.Found.{found, found_number, lost}
use Rattle.messages.proofs.Picks.{no, yes}
use Rattle.forged.specs.Outside.{buyer_in, number_in, taken_by}
use Rattle.forged.proofs.copied.Forgery.buyer.Goals as goal

pub returns-in-None : goal.returns-in-None
unfolding buyer_in number_in
returns-in-None c =
    let s = c.args.self.now.s.now in
    no _ (lost Argument.B (taken_by s) (arguments_of s) (c.in-None.ensures)) c.owner.ensures

pub returns-in-Some : goal.returns-in-Some
unfolding buyer_in number_in
returns-in-Some c =
    let s = c.args.self.now.s.now in
    let e = c.in-Some.ensures in
    yes _ (found Argument.B (taken_by s) (arguments_of s) c.in-Some.x e)
    (λ i. record { 0 = found_number Argument.B (taken_by s) (arguments_of s) c.in-Some.x e i })
