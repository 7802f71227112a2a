-- Where `lines::bytes::next_at` finds a byte, and where it finds none.
use Rattle.std.proofs.Common.{◌≡◌, ◌-◌, ap, arith, drop, length, length-drop, rules, take, take_all}
use Rattle.lines.specs.Lines.{Text, before}
use Rattle.lines.proofs.Scans.{found, not_found}
use Rattle.lines.proofs.bytes.next_at.Goals as goal

pub returns-in-Some-clause-place : goal.returns-in-Some-clause-place
returns-in-Some-clause-place c =
    let rest : Text = take (length c.args.text.now - c.args.from) (drop c.args.from c.args.text.now) in
    let same : rest ≡ drop c.args.from c.args.text.now = take_all _ _ (omega (arith, length-drop c.args.from c.args.text.now)) in
    let e = found c.args.kind rest c.in-Some.ahead (search rules) (search rules) (search rules) in
    let n = ap (before c.args.kind) same in
    omega arith

pub returns-in-None-clause-place : goal.returns-in-None-clause-place
returns-in-None-clause-place c =
    let rest : Text = take (length c.args.text.now - c.args.from) (drop c.args.from c.args.text.now) in
    let same : rest ≡ drop c.args.from c.args.text.now = take_all _ _ (omega (arith, length-drop c.args.from c.args.text.now)) in
    let e = not_found c.args.kind rest (search rules) in
    let n = ap (before c.args.kind) same in
    omega (arith, ap length same, length-drop c.args.from c.args.text.now)
