-- `faults::place_fault` meets its promise.
use Rattle.std.proofs.Common.{rules, ◌≡◌, ◌∙◌, ap, Bool, cond, false, List, ℕ, refl, sym, true}
use Rattle.messages.proofs.Chain.{bounds}
use Rattle.messages.proofs.Picks.{no, yes}
use Rattle.messages.specs.Parts.{Message}
use Rattle.messages.specs.Tests.{between}
use Rattle.record.proofs.Cut.{message_at_lem}
use Rattle.record.specs.Table.{message_in, messages}
use Rattle.rules.specs.declared.codes.Argument.{Argument}
use Rattle.arguments.specs.Offers.{offers}
use Rattle.faults.specs.Faults.{fine, place_fault}
use Rattle.faults.proofs.place_fault.Goals as goal

-- at a place of the record what the message in the table offers tells
there : (n : ℕ) (t : List ℕ) (k : Argument) (x : ℕ) {m : Message} {b : Bool} → between 1 x n ≡ true → m ≡ message_in t (record { 0 = x })
    → b ≡ offers k m → cond b fine 5 ≡ place_fault n (messages n t) k x
there n t k x {b = b} i e p =
    let at = message_at_lem n t (record { 0 = x }) (bounds 1 x n i).0 (bounds 1 x n i).1 in
    yes _ i (ap (λ (y : Bool). cond y fine 5) (p ∙ ap (offers k) (e ∙ sym at)))

pub returns-then-not-contains : goal.returns-then-not-contains
returns-then-not-contains c =
    let out : between 1 c.args.x c.args.n ≡ false = search rules in
    no _ out refl

pub returns-then-not-yields : goal.returns-then-not-yields
returns-then-not-yields c =
    let within : between 1 c.args.x c.args.n ≡ true = search rules in
    there c.args.n c.args.t.now c.args.argument c.args.x within c.message.ensures.0 c.if-not-yields.ensures

pub returns : goal.returns
returns c =
    let within : between 1 c.args.x c.args.n ≡ true = search rules in
    there c.args.n c.args.t.now c.args.argument c.args.x within c.message.ensures.0 c.if-not-yields.ensures
