-- `faults::first_fault` meets its promise.
use Prim.Native.Nat.{◌+◌, ◌≤◌, ℕ, min}
use lib.ListN.{get_or}
use mathlib.Core.List.{List}
use mathlib.Core.Path.{◌∙◌, ◌≡◌, ap, subst, sym}
use native.Mathlib.Omega.{arith}
use Rattle.std.proofs.Common.{false, rules, true}
use Rattle.faults.proofs.Ends.{ended, zeros_to}
use Rattle.record.specs.Table.{messages}
use Rattle.rules.specs.Step.{arguments_of}
use Rattle.rules.specs.declared.codes.Argument.{Argument}
use Rattle.rules.specs.declared.codes.Argument.TheVariants.{Unused}
use Rattle.faults.proofs.Lowest.{fault_least, fine_highest, three_found, turn}
use Rattle.faults.specs.Faults.{fault_number, fault_of, faults}
use Rattle.arguments.proofs.Takes.{argument_at, six_arguments, six_in_row}
use Rattle.faults.proofs.first_fault.Goals.{else-is_err, then-is_err+else-eq-2}
use Rattle.faults.proofs.first_fault.Goals as goal

pub slice_bounds-are_zeros-count : goal.slice_bounds-are_zeros-count
slice_bounds-are_zeros-count c = omega (arith, c.requires.1.seven, six_in_row c.requires.1)

pub slice_bounds-are_zeros-start : goal.slice_bounds-are_zeros-start
slice_bounds-are_zeros-start c = omega (arith, c.requires.1.seven, six_in_row c.requires.1)

pub returns-then-are_zeros : goal.returns-then-are_zeros
returns-then-are_zeros c =
    let unused : get_or c.args.row.now c.loop-i.i Unused ≡ Unused = search rules in
    ended c.args.n (messages c.args.n c.args.t.now) c.requires.1 c.loop-i.i (fault_number c.loop-i.first) true c.loop-i-test.true unused
    (c.if-are_zeros.ensures ∙ zeros_to c.args.s.now c.loop-i.i c.requires.1.seven) (omega (arith, c.loop-i.invariant.0)) c.loop-i.invariant.1 c.loop-i.invariant.2

pub returns-else-are_zeros : goal.returns-else-are_zeros
returns-else-are_zeros c =
    let unused : get_or c.args.row.now c.loop-i.i Unused ≡ Unused = search rules in
    ended c.args.n (messages c.args.n c.args.t.now) c.requires.1 c.loop-i.i (fault_number c.loop-i.first) false c.loop-i-test.true unused
    (c.if-are_zeros.ensures ∙ zeros_to c.args.s.now c.loop-i.i c.requires.1.seven) (omega (arith, c.loop-i.invariant.0)) c.loop-i.invariant.1 c.loop-i.invariant.2

pub bounds-s-i : goal.bounds-s-i
bounds-s-i c = omega (arith, c.requires.1.seven, six_in_row c.requires.1)

pub returns-then-eq-2 : goal.returns-then-eq-2
returns-then-eq-2 c =
    let n = c.args.n in
    let R = messages n c.args.t.now in
    let row = c.args.row.now in
    let s = c.args.s.now in
    let i = c.loop-i.i in
    let known = c.requires.1 in
    let three : fault_number c.fault-found.result ≡ 3 = search rules in
    three
    ∙ three_found n R row (arguments_of s) i (fault_number c.fault-found.result) (fault_number c.loop-i.first) (faults n R row (arguments_of s))
    c.loop-i-test.true (omega (arith, six_in_row known, six_arguments s known.seven))
    (c.fault-found.ensures ∙ ap (fault_of n R (get_or row i Unused)) (sym (argument_at s i))) c.loop-i.invariant.2 three
    (omega (arith, c.loop-i.invariant.0))
    ∙ ap (λ (ks : List Argument). faults n R ks (arguments_of s)) known.its_row

pub loop-i-preserved : goal.loop-i-preserved
loop-i-preserved c =
    let n = c.args.n in
    let R = messages n c.args.t.now in
    let row = c.args.row.now in
    let s = c.args.s.now in
    let i = c.loop-i.i in
    let known = c.requires.1 in
    let found = fault_number c.fault-found.result in
    let not_three : found ≡ 3 → ⊥ = search rules in
    let least : 3 ≤ found = subst (λ (x : ℕ). 3 ≤ x) (sym c.fault-found.ensures) (fault_least n R (get_or row i Unused) (get_or s (i + 1) 0)) in
    let low : fault_number c.if-is_err.first ≡ min (fault_number c.loop-i.first) found =
    elim c.if-is_err.branch [
      | then-is_err+else-eq-2 w ↦ ap fault_number w.first-is ∙ w.lower-first.ensures
      | else-is_err w ↦ ap fault_number w.first-is
          ∙ fine_highest c.fault-found.result (fault_number c.loop-i.first) w.if-is_err.ensures.value c.loop-i.invariant.1
    ] in (
      omega (arith, low, least, not_three, c.loop-i.invariant.0),
      omega (arith, low, c.loop-i.invariant.1),
      turn n R row (arguments_of s) i found (fault_number c.loop-i.first) (fault_number c.if-is_err.first) (faults n R row (arguments_of s))
          c.loop-i-test.true (omega (arith, six_in_row known, six_arguments s known.seven))
          (c.fault-found.ensures ∙ ap (fault_of n R (get_or row i Unused)) (sym (argument_at s i))) c.loop-i.invariant.2 low,
    )
