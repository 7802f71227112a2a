-- `arguments::given::find` meets its promise.
use Rattle.std.proofs.Common.{rules, arith, ◌≡◌, ◌∙◌, sym, refl, ap, true, false, List, [], drop, drop_of_length-le, get_or, eqb}
use Rattle.messages.proofs.Picks.{no, yes}
use Rattle.arguments.proofs.Takes.{find_from, six_in_row}
use Rattle.arguments.specs.Given.{found_in}
use Rattle.rules.specs.Codes.{letter}
use Rattle.rules.specs.Step.{arguments_of}
use Rattle.rules.specs.declared.codes.Argument.{Argument}
use Rattle.rules.specs.declared.codes.Argument.TheVariants.{Unused}
use Rattle.arguments.proofs.given.find.Goals as goal

pub returns-then-eq : goal.returns-then-eq
returns-then-eq c =
    let it : eqb (letter (get_or c.args.row.now c.loop-i.i Unused)) (letter c.args.argument) ≡ true = search rules in
    yes _ it refl ∙ sym (find_from c.requires c.args.argument c.loop-i.i (omega (arith, six_in_row c.requires, c.loop-i-test.true))) ∙ c.loop-i.invariant
    ∙ ap (λ (ks : List Argument). found_in c.args.argument ks (arguments_of c.args.s.now)) c.requires.its_row

pub loop-i-preserved : goal.loop-i-preserved
loop-i-preserved c =
    let it : eqb (letter (get_or c.args.row.now c.loop-i.i Unused)) (letter c.args.argument) ≡ false = search rules in
    no _ it refl ∙ sym (find_from c.requires c.args.argument c.loop-i.i (omega (arith, six_in_row c.requires, c.loop-i-test.true))) ∙ c.loop-i.invariant

pub bounds-s-i : goal.bounds-s-i
bounds-s-i c = omega (arith, six_in_row c.requires, c.requires.seven)

pub bounds-row-i : goal.bounds-row-i
bounds-row-i c = omega (arith, six_in_row c.requires)

pub returns : goal.returns
returns c =
    let xs = arguments_of c.args.s.now in
    let none_left : drop c.loop-i.i c.args.row.now ≡ [] = drop_of_length-le c.args.row.now (omega (arith, six_in_row c.requires, c.loop-i-test.false)) in
    ap (λ (ks : List Argument). found_in c.args.argument ks (drop c.loop-i.i xs)) (sym none_left) ∙ c.loop-i.invariant
    ∙ ap (λ (ks : List Argument). found_in c.args.argument ks xs) c.requires.its_row
