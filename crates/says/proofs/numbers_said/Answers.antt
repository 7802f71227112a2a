-- What `says::numbers_said` says at each of its returns, and that a turn keeps what the loop keeps.
use Rattle.std.proofs.Common.{◌∙◌, eqb, refl, rules}
use Rattle.std.proofs.lemmas.Iterator.Consumers.{YieldsList-from_enumerate}
use Rattle.std.proofs.lemmas.Iterator.Splits.{YieldsList-from_slice_split}
use Rattle.lines.specs.Lines.{tab}
use borrow.Author.Tests.{tests}
use Rattle.says.proofs.Said.{begin, said_all, said_none, said_too_much, turn}
use Rattle.says.proofs.numbers_said.Goals as goal

pub loop-i-init : goal.loop-i-init
loop-i-init c =
    begin _ _ c.args.body.now
    (YieldsList-from_enumerate
    (YieldsList-from_slice_split _ (λ x. eqb x tab) c.args.body.now (cc) (cc) refl (λ x b q k. search (rules, tests)))
    (cc))

pub returns-then-i-ge-STEP_WIDTH : goal.returns-then-i-ge-STEP_WIDTH
returns-then-i-ge-STEP_WIDTH c =
    said_too_much _ _ _ _ c.loop-i.invariant (c.in-Some.i, c.in-Some.part) c.next.new.self c.in-Some.ensures.steps c.if-i-ge-STEP_WIDTH.true

pub returns-in_err-numbers : goal.returns-in_err-numbers
returns-in_err-numbers c =
    c.from_residual.ensures ∙ said_none _ _ _ _ c.loop-i.invariant (c.in-Some.i, c.in-Some.part) c.next.new.self c.in-Some.ensures.steps c.in_err-numbers.ensures

pub loop-i-preserved : goal.loop-i-preserved
loop-i-preserved c =
    turn _ _ _ _ c.loop-i.invariant (c.in-Some.i, c.in-Some.part) c.next.new.self c.in-Some.ensures.steps _ c.in_ok-numbers.ensures c.if-i-ge-STEP_WIDTH.false

pub returns : goal.returns
returns c = said_all _ _ _ _ c.loop-i.invariant c.next.new.self c.in-None.ensures.steps
